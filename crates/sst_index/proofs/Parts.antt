-- The pairs in parts, and what the top block says of these.
use Rattle.std.proofs.Common.{◌≡◌, ℕ, zero, suc, ◌+◌, ◌<◌, ◌≤◌, Bool, false, List, [], ◌∷◌, ◌++◌, length, length-append, length-drop, take, drop, All, sum_by, refl, ap, ◌∙◌, arith}
use Rattle.std.proofs.lemmas.Grind.{flat_map-append}
use Rattle.std.proofs.lemmas.List.{append-nil}
use Rattle.std.proofs.lemmas.List.Elements.{All-nil, All-cons, All-head, All-tail, All-take, All-drop}
use Rattle.std.proofs.lemmas.List.Sums.{sum_by-cons, sum_by-append, sum_by-take-drop}
use Rattle.std.specs.declared.cmp.Ordering.TheVariants.{Less}
use Rattle.sst_block.specs.declared.row_form.RowForm.TheVariants.{Index}
use Rattle.sst_block.specs.Block.{key_cmp}
use Rattle.sst_block.specs.IndexRows.{IndexPair}
use Rattle.sst_device.specs.Framed.{frame_of, trailer_of}
use Rattle.sst_index.specs.declared.flags.IndexFlags.{IndexFlags}
use Rattle.sst_index.specs.IndexBlock.{index_block}
use Rattle.sst_index.specs.IndexBytes.{in_parts, parts_of, last_separator, part_pair, part_pairs, stored_parts}
use Rattle.sst_index.specs.Index.{Rise, pair_room}
use Rattle.sst_index.proofs.Order.{rise-drop}

length-trailer : (block : List ℕ) → length (trailer_of block) ≡ 5
unfolding trailer_of
length-trailer block = refl

pub length-frame : (block : List ℕ) → length (frame_of block) ≡ length block + 5
length-frame block = omega (arith, length-append block (trailer_of block), length-trailer block)

-- how many parts there may be doesn't matter, where there may be enough
enough : (most more k : ℕ) (pairs : List IndexPair) → 1 ≤ k → length pairs ≤ most → length pairs ≤ more → in_parts most k pairs ≡ in_parts more k pairs
enough zero zero k pairs some a b = refl
enough zero (suc more) k [] some a b = refl
enough zero (suc more) k (p ∷ pairs) some a b = absurd (omega arith)
enough (suc most) zero k [] some a b = refl
enough (suc most) zero k (p ∷ pairs) some a b = absurd (omega arith)
enough (suc most) (suc more) k [] some a b = refl
enough (suc most) (suc more) k (p ∷ pairs) some a b =
    let less = length-drop k (p ∷ pairs) in
    ap (λ (parts : List (List IndexPair)). take k (p ∷ pairs) ∷ parts) (enough most more k (drop k (p ∷ pairs)) some (omega (arith, less)) (omega (arith, less)))

-- the first part, and then those of what follows
pub parts-step : (k : ℕ) (pairs : List IndexPair) → 1 ≤ k → 0 < length pairs → parts_of k pairs ≡ take k pairs ∷ parts_of k (drop k pairs)
parts-step k [] some there = absurd (omega arith)
parts-step k (p ∷ pairs) some there =
    let less = length-drop k (p ∷ pairs) in
    ap (λ (parts : List (List IndexPair)). take k (p ∷ pairs) ∷ parts)
    (enough (length pairs) (length (drop k (p ∷ pairs))) k (drop k (p ∷ pairs)) some (omega (arith, less)) (omega arith))

-- one part more
pub stored-more : (flags : IndexFlags) (interval : ℕ) (parts : List (List IndexPair)) (part : List IndexPair)
    → stored_parts flags interval (parts ++ part ∷ []) ≡ stored_parts flags interval parts ++ frame_of (index_block flags interval part)
stored-more flags interval parts part =
    flat_map-append (λ (p : List IndexPair). frame_of (index_block flags interval p)) parts (part ∷ [])
    ∙ ap (λ (l : List ℕ). stored_parts flags interval parts ++ l) (append-nil (frame_of (index_block flags interval part)))

pub part_pairs-more : (flags : IndexFlags) (interval at place : ℕ) (parts : List (List IndexPair)) (part : List IndexPair)
    → place ≡ at + length (stored_parts flags interval parts)
    → part_pairs flags interval at (parts ++ part ∷ []) ≡ part_pairs flags interval at parts ++ part_pair flags interval place part ∷ []
part_pairs-more flags interval at place [] part e =
    let here : at ≡ place = omega (arith, e) in rw here refl
part_pairs-more flags interval at place (x ∷ parts) part e =
    let block = index_block flags interval x in
    ap (λ (l : List IndexPair). part_pair flags interval at x ∷ l)
    (part_pairs-more flags interval (at + length block + 5) place parts part
    (omega (arith, e, length-frame block, length-append (frame_of block) (stored_parts flags interval parts))))

pub part_pairs-append : (flags : IndexFlags) (interval at : ℕ) (xs ys : List (List IndexPair))
    → part_pairs flags interval at (xs ++ ys) ≡ part_pairs flags interval at xs ++ part_pairs flags interval (at + length (stored_parts flags interval xs)) ys
part_pairs-append flags interval at [] ys = let here : at + 0 ≡ at = omega arith in rw here refl
part_pairs-append flags interval at (x ∷ xs) ys =
    let block = index_block flags interval x in
    let place : at + length block + 5 + length (stored_parts flags interval xs) ≡ at + length (stored_parts flags interval (x ∷ xs)) =
    omega (arith, length-frame block, length-append (frame_of block) (stored_parts flags interval xs)) in
    ap (λ (l : List IndexPair). part_pair flags interval at x ∷ l)
    (part_pairs-append flags interval (at + length block + 5) xs ys
    ∙ ap (λ (n : ℕ). part_pairs flags interval (at + length block + 5) xs ++ part_pairs flags interval n ys) place)

-- what holds of each separator holds of the last
last-all : (P : List ℕ → Type 0) (before : List ℕ) (pairs : List IndexPair) → P before → All (λ (q : IndexPair). P q.separator) pairs → P (last_separator before pairs)
last-all P before [] holds all = holds
last-all P before (p ∷ pairs) holds all =
    last-all P p.separator pairs (All-head (λ (q : IndexPair). P q.separator) p pairs all) (All-tail (λ (q : IndexPair). P q.separator) p pairs all)

-- and of those of the parts
pub tops-all : (P : List ℕ → Type 0) (flags : IndexFlags) (interval at most k : ℕ) (pairs : List IndexPair) → 1 ≤ k → All (λ (q : IndexPair). P q.separator) pairs
    → All (λ (q : IndexPair). P q.separator) (part_pairs flags interval at (in_parts most k pairs))
tops-all P flags interval at zero k pairs some all = All-nil (λ (q : IndexPair). P q.separator)
tops-all P flags interval at (suc most) k [] some all = All-nil (λ (q : IndexPair). P q.separator)
tops-all P flags interval at (suc most) zero (p ∷ pairs) some all = absurd (omega arith)
tops-all P flags interval at (suc most) (suc k) (p ∷ pairs) some all =
    let Q : IndexPair → Type 0 = λ (q : IndexPair). P q.separator in
    let part = p ∷ take k pairs in
    All-cons Q (part_pair flags interval at part) (part_pairs flags interval (at + length (index_block flags interval part) + 5) (in_parts most (suc k) (drop k pairs)))
    (last-all P p.separator (take k pairs) (All-head Q p pairs all) (All-take Q k pairs (All-tail Q p pairs all)))
    (tops-all P flags interval (at + length (index_block flags interval part) + 5) most (suc k) (drop k pairs) some (All-drop Q k pairs (All-tail Q p pairs all)))

abbrev IsBelow : Bool → List ℕ → IndexPair → Type 0
IsBelow user_key s q = key_cmp (Index user_key false) s q.separator ≡ Less

-- the last separator of a front is before all behind it
last-before : (user_key : Bool) (n : ℕ) (p : IndexPair) (pairs : List IndexPair) → Rise user_key (p ∷ pairs)
    → All (IsBelow user_key (last_separator p.separator (take n pairs))) (drop n pairs)
last-before user_key zero p pairs rise = rise.0
last-before user_key (suc n) p [] rise = All-nil (IsBelow user_key p.separator)
last-before user_key (suc n) p (q ∷ pairs) rise = last-before user_key n q pairs rise.1

-- the separators of the parts rise
pub tops-rise : (flags : IndexFlags) (user_key : Bool) (interval at most k : ℕ) (pairs : List IndexPair) → 1 ≤ k → Rise user_key pairs
    → Rise user_key (part_pairs flags interval at (in_parts most k pairs))
tops-rise flags user_key interval at zero k pairs some rise = tt
tops-rise flags user_key interval at (suc most) k [] some rise = tt
tops-rise flags user_key interval at (suc most) zero (p ∷ pairs) some rise = absurd (omega arith)
tops-rise flags user_key interval at (suc most) (suc k) (p ∷ pairs) some rise =
    let next = at + length (index_block flags interval (p ∷ take k pairs)) + 5 in
    let s = last_separator p.separator (take k pairs) in (
      tops-all (λ (t : List ℕ). key_cmp (Index user_key false) s t ≡ Less) flags interval next most (suc k) (drop k pairs) some (last-before user_key k p pairs rise),
      tops-rise flags user_key interval next most (suc k) (drop k pairs) some (rise-drop user_key k pairs rise.1),
    )

-- and need no more room than all
last-room : (before : List ℕ) (pairs : List IndexPair) → length (last_separator before pairs) + 54 ≤ length before + 54 + sum_by pair_room pairs
last-room before [] = omega arith
last-room before (p ∷ pairs) = omega (arith, last-room p.separator pairs, sum_by-cons pair_room p pairs)

pub tops-room : (flags : IndexFlags) (interval at most k : ℕ) (pairs : List IndexPair) → 1 ≤ k
    → sum_by pair_room (part_pairs flags interval at (in_parts most k pairs)) ≤ sum_by pair_room pairs
tops-room flags interval at zero k pairs some = omega arith
tops-room flags interval at (suc most) k [] some = omega arith
tops-room flags interval at (suc most) zero (p ∷ pairs) some = absurd (omega arith)
tops-room flags interval at (suc most) (suc k) (p ∷ pairs) some =
    let part = p ∷ take k pairs in
    let next = at + length (index_block flags interval part) + 5 in
    omega (
      arith,
      tops-room flags interval next most (suc k) (drop k pairs) some,
      last-room p.separator (take k pairs),
      sum_by-take-drop pair_room pairs k,
      sum_by-cons pair_room p pairs,
      sum_by-cons pair_room (part_pair flags interval at part) (part_pairs flags interval next (in_parts most (suc k) (drop k pairs))),
    )

pub all-front : (P : IndexPair → Type 0) (xs ys : List IndexPair) → All P (xs ++ ys) → All P xs
all-front P [] ys all = All-nil P
all-front P (x ∷ xs) ys all = All-cons P x xs (All-head P x (xs ++ ys) all) (all-front P xs ys (All-tail P x (xs ++ ys) all))

-- a front of pairs that rise rises
pub rise-front : (user_key : Bool) (xs ys : List IndexPair) → Rise user_key (xs ++ ys) → Rise user_key xs
rise-front user_key [] ys rise = tt
rise-front user_key (x ∷ xs) ys rise = (all-front (IsBelow user_key x.separator) xs ys rise.0, rise-front user_key xs ys rise.1)

pub room-front : (xs ys : List IndexPair) → sum_by pair_room xs ≤ sum_by pair_room (xs ++ ys)
room-front xs ys = omega (arith, sum_by-append pair_room xs ys)
