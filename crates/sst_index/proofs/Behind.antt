-- Blocks that begin one behind the other: some of them, and one more.
use Rattle.std.proofs.Common.{◌≡◌, ℕ, zero, suc, ◌+◌, ◌^◌, ◌<◌, Bool, Option, None, Some, List, [], ◌∷◌, ◌++◌, take, drop, map, All, arith}
use Rattle.std.proofs.lemmas.Int.{ints}
use Rattle.std.proofs.lemmas.List.Elements.{All-head, All-tail}
use Rattle.sst_num.specs.declared.block_handle.Handle.{Handle}
use Rattle.sst_block.specs.IndexRows.{IndexPair}
use Rattle.sst_index.specs.Behind.{IsBehind, ComeBehind, AreBehind, last_of}
use Rattle.sst_index.specs.Ends.{BlockEnd, IsEnd, AreFollowed, pair_of}

-- a handle begins behind the last, if there is one
abbrev pub NextBehind : Option Handle → Handle → Type 0
NextBehind None h = Unit {0}
NextBehind (Some before) h = IsBehind before h

come-push : (before : Handle) (pairs : List IndexPair) (pair : IndexPair) → ComeBehind before pairs → NextBehind (last_of (record { separator = []; handle = before } ∷ pairs)) pair.handle
    → ComeBehind before (pairs ++ pair ∷ [])
come-push before [] pair come next = (next, tt)
come-push before (p ∷ pairs) pair come next = (come.0, come-push p.handle pairs pair come.1 next)

pub behind-push : (pairs : List IndexPair) (pair : IndexPair) → AreBehind pairs → NextBehind (last_of pairs) pair.handle → AreBehind (pairs ++ pair ∷ [])
behind-push [] pair are next = tt
behind-push (p ∷ pairs) pair are next = come-push p.handle pairs pair are next

come-last : (before : Handle) (pairs : List IndexPair) (pair : IndexPair) → ComeBehind before (pairs ++ pair ∷ [])
    → NextBehind (last_of (record { separator = []; handle = before } ∷ pairs)) pair.handle
come-last before [] pair come = come.0
come-last before (p ∷ pairs) pair come = come-last p.handle pairs pair come.1

pub behind-last : (pairs : List IndexPair) (pair : IndexPair) → AreBehind (pairs ++ pair ∷ []) → NextBehind (last_of pairs) pair.handle
behind-last [] pair are = tt
behind-last (p ∷ pairs) pair are = come-last p.handle pairs pair are

-- the first of them
come-front : (before : Handle) (xs ys : List IndexPair) → ComeBehind before (xs ++ ys) → ComeBehind before xs
come-front before [] ys come = tt
come-front before (x ∷ xs) ys come = (come.0, come-front x.handle xs ys come.1)

pub behind-front : (xs ys : List IndexPair) → AreBehind (xs ++ ys) → AreBehind xs
behind-front [] ys are = tt
behind-front (x ∷ xs) ys are = come-front x.handle xs ys are

come-take : (n : ℕ) (before : Handle) (pairs : List IndexPair) → ComeBehind before pairs → ComeBehind before (take n pairs)
come-take zero before [] come = tt
come-take zero before (p ∷ pairs) come = tt
come-take (suc n) before [] come = tt
come-take (suc n) before (p ∷ pairs) come = (come.0, come-take n p.handle pairs come.1)

pub behind-take : (n : ℕ) (pairs : List IndexPair) → AreBehind pairs → AreBehind (take n pairs)
behind-take zero [] are = tt
behind-take zero (p ∷ pairs) are = tt
behind-take (suc n) [] are = tt
behind-take (suc n) (p ∷ pairs) are = come-take n p.handle pairs are

-- and those behind some
behind-tail : (before : Handle) (pairs : List IndexPair) → ComeBehind before pairs → AreBehind pairs
behind-tail before [] come = tt
behind-tail before (p ∷ pairs) come = come.1

pub behind-drop : (n : ℕ) (pairs : List IndexPair) → AreBehind pairs → AreBehind (drop n pairs)
behind-drop zero pairs are = are
behind-drop (suc n) [] are = tt
behind-drop (suc n) (p ∷ pairs) are = behind-drop n pairs (behind-tail p.handle pairs are)

-- short blocks have a small difference of sizes
pub is_behind : (before h : Handle) → h.offset ≡ before.offset + before.size + 5 → before.size < 2 ^ 29 → h.size < 2 ^ 29 → IsBehind before h
is_behind before h begins a b = record { begins = begins; signed = (omega (arith, ints, a, b), omega (arith, ints, a, b)) }

-- data blocks that may have an index stand so
come-ends : (u : Bool) (e : BlockEnd) (ends : List BlockEnd) → All IsEnd (e ∷ ends) → AreFollowed (e ∷ ends) → ComeBehind e.handle (map (pair_of u) ends)
come-ends u e [] each followed = tt
come-ends u e (f ∷ ends) each followed =
    let rest = All-tail IsEnd e (f ∷ ends) each in
    (is_behind e.handle f.handle followed.0.begins (All-head IsEnd e (f ∷ ends) each).size (All-head IsEnd f ends rest).size, come-ends u f ends rest followed.1)

pub ends-behind : (u : Bool) (ends : List BlockEnd) → All IsEnd ends → AreFollowed ends → AreBehind (map (pair_of u) ends)
ends-behind u [] each followed = tt
ends-behind u (e ∷ ends) each followed = come-ends u e ends each followed
