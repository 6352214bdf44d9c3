-- The blocks of an index say the pairs of its data blocks.
use Rattle.std.proofs.Common.{◌≡◌, ℕ, zero, suc, ◌+◌, ◌*◌, ◌^◌, ◌<◌, ◌≤◌, Bool, false, List, [], ◌∷◌, ◌++◌, length, length-take, length-drop, take, drop, All, sum_by, refl, ap, ◌∙◌, arith}
use Rattle.std.specs.List.{flat_map}
use Rattle.std.proofs.lemmas.List.{take-append-drop}
use Rattle.std.proofs.lemmas.List.Elements.{All-nil, All-cons, All-head, All-tail, All-take, All-drop}
use Rattle.std.proofs.lemmas.List.Sums.{sum_by-cons, sum_by-take-le, sum_by-take-drop}
use Rattle.sst_key.specs.Limits.{stored_key_limit}
use Rattle.sst_block.specs.Block.{no_handle}
use Rattle.sst_block.specs.IndexRows.{IndexPair, IndexRows}
use Rattle.sst_index.specs.declared.flags.IndexFlags.{IndexFlags}
use Rattle.sst_index.specs.Ends.{BlockEnd, AreEnds, flags_of, pairs_of}
use Rattle.sst_index.specs.Index.{AreOptions, pair_room}
use Rattle.sst_index.specs.IndexBlock.{index_block}
use Rattle.sst_index.specs.IndexBytes.{IndexOptions, in_parts, parts_of, part_pair, part_pairs, top_pairs, top_block}
use Rattle.sst_index.specs.Top.{IsPair}
use Rattle.sst_index.proofs.Kept.{Standing, pairs-stand}
use Rattle.sst_index.proofs.Order.{rise-take, rise-drop, ordered-from_rise}
use Rattle.sst_index.proofs.PairRows.{index_block_says}
use Rattle.sst_index.proofs.Behind.{behind-take, behind-drop}
use Rattle.sst_index.proofs.PartsBehind.{tops-behind}
use Rattle.sst_index.proofs.Parts.{tops-all, tops-rise, tops-room}
use Rattle.sst_index.proofs.Ready.{drop-room}
use Rattle.sst_index.proofs.Room.{block-room}

-- all pairs stand in the parts
joined : (most k : ℕ) (pairs : List IndexPair) → 1 ≤ k → length pairs ≤ most → flat_map (λ (part : List IndexPair). part) (in_parts most k pairs) ≡ pairs
joined zero k [] some enough = refl
joined zero k (p ∷ pairs) some enough = absurd (omega arith)
joined (suc most) k [] some enough = refl
joined (suc most) k (p ∷ pairs) some enough =
    ap (λ (l : List IndexPair). take k (p ∷ pairs) ++ l) (joined most k (drop k (p ∷ pairs)) some (omega (arith, enough, some, length-drop k (p ∷ pairs))))
    ∙ take-append-drop k (p ∷ pairs)

pub parts-joined : (k : ℕ) (pairs : List IndexPair) → 0 < k → flat_map (λ (part : List IndexPair). part) (parts_of k pairs) ≡ pairs
parts-joined k pairs some = joined (length pairs) k pairs (omega arith) (omega arith)

-- a part has a pair, and no more than so many
abbrev pub IsPart : ℕ → List IndexPair → Type 0
IsPart k part = (0 < length part) × (length part ≤ k)

are-parts : (most k : ℕ) (pairs : List IndexPair) → 1 ≤ k → All (IsPart k) (in_parts most k pairs)
are-parts zero k pairs some = All-nil (IsPart k)
are-parts (suc most) k [] some = All-nil (IsPart k)
are-parts (suc most) k (p ∷ pairs) some =
    All-cons (IsPart k) (take k (p ∷ pairs)) (in_parts most k (drop k (p ∷ pairs)))
    (omega (arith, some, length-take k (p ∷ pairs)), omega (arith, length-take k (p ∷ pairs))) (are-parts most k (drop k (p ∷ pairs)) some)

pub parts-parts : (k : ℕ) (pairs : List IndexPair) → 0 < k → All (λ (part : List IndexPair). (0 < length part) × (length part ≤ k)) (parts_of k pairs)
parts-parts k pairs some = are-parts (length pairs) k pairs (omega arith)

-- pairs that stand, and the block of these
pub standing-take : (u : Bool) (n : ℕ) (pairs : List IndexPair) → Standing u pairs → Standing u (take n pairs)
standing-take u n pairs s =
    record {
      each = All-take (IsPair u) n pairs s.each;
      rise = rise-take u n pairs s.rise;
      behind = behind-take n pairs s.behind;
      room = omega (arith, sum_by-take-le pair_room pairs n, s.room);
    }

pub standing-drop : (u : Bool) (n : ℕ) (pairs : List IndexPair) → Standing u pairs → Standing u (drop n pairs)
standing-drop u n pairs s =
    record {
      each = All-drop (IsPair u) n pairs s.each;
      rise = rise-drop u n pairs s.rise;
      behind = behind-drop n pairs s.behind;
      room = omega (arith, drop-room pairs n, s.room);
    }

pub standing-says : (flags : IndexFlags) (interval : ℕ) (pairs : List IndexPair) → 0 < interval → Standing flags.user_key pairs
    → IndexRows flags.user_key flags.delta (index_block flags interval pairs) pairs
standing-says flags interval pairs positive s =
    index_block_says flags interval pairs (λ _. s.behind) positive s.each
    (ordered-from_rise flags.user_key flags.delta interval 0 [] no_handle pairs s.rise)
    (omega (arith, block-room flags interval pairs, s.room))

-- each partition says its pairs
parts-say : (flags : IndexFlags) (interval most k : ℕ) (pairs : List IndexPair) → 0 < interval → Standing flags.user_key pairs
    → All (λ (part : List IndexPair). IndexRows flags.user_key flags.delta (index_block flags interval part) part) (in_parts most k pairs)
parts-say flags interval zero k pairs positive s = All-nil (λ (part : List IndexPair). IndexRows flags.user_key flags.delta (index_block flags interval part) part)
parts-say flags interval (suc most) k [] positive s = All-nil (λ (part : List IndexPair). IndexRows flags.user_key flags.delta (index_block flags interval part) part)
parts-say flags interval (suc most) k (p ∷ pairs) positive s =
    All-cons (λ (part : List IndexPair). IndexRows flags.user_key flags.delta (index_block flags interval part) part) (take k (p ∷ pairs)) (in_parts most k (drop k (p ∷ pairs)))
    (standing-says flags interval (take k (p ∷ pairs)) positive (standing-take flags.user_key k (p ∷ pairs) s))
    (parts-say flags interval most k (drop k (p ∷ pairs)) positive (standing-drop flags.user_key k (p ∷ pairs) s))

-- a separator and where its block stands
abbrev IsSeparator : Bool → IndexPair → Type 0
IsSeparator user_key q = (length q.separator ≤ stored_key_limit) × (user_key ≡ false → 8 ≤ length q.separator)

-- the partitions stand within 64 bits
tops-handles : (flags : IndexFlags) (interval at most k : ℕ) (pairs : List IndexPair) → 1 ≤ k → at + 2 * sum_by pair_room pairs < 2 ^ 63
    → All (λ (q : IndexPair). (q.handle.offset < 2 ^ 64) × (q.handle.size < 2 ^ 64)) (part_pairs flags interval at (in_parts most k pairs))
tops-handles flags interval at zero k pairs some near = All-nil (λ (q : IndexPair). (q.handle.offset < 2 ^ 64) × (q.handle.size < 2 ^ 64))
tops-handles flags interval at (suc most) k [] some near = All-nil (λ (q : IndexPair). (q.handle.offset < 2 ^ 64) × (q.handle.size < 2 ^ 64))
tops-handles flags interval at (suc most) zero (p ∷ pairs) some near = absurd (omega arith)
tops-handles flags interval at (suc most) (suc k) (p ∷ pairs) some near =
    let part = p ∷ take k pairs in
    let next = at + length (index_block flags interval part) + 5 in
    let short = block-room flags interval part in
    let here = sum_by-cons pair_room p (take k pairs) in
    let all = sum_by-cons pair_room p pairs in
    let split = sum_by-take-drop pair_room pairs k in
    All-cons (λ (q : IndexPair). (q.handle.offset < 2 ^ 64) × (q.handle.size < 2 ^ 64)) (part_pair flags interval at part) (part_pairs flags interval next (in_parts most (suc k) (drop k pairs)))
    (omega (arith, near), omega (arith, near, short, here, all, split))
    (tops-handles flags interval next most (suc k) (drop k pairs) some (omega (arith, near, short, here, all, split)))

is_pairs : (u : Bool) (pairs : List IndexPair) → All (IsSeparator u) pairs → All (λ (q : IndexPair). (q.handle.offset < 2 ^ 64) × (q.handle.size < 2 ^ 64)) pairs → All (IsPair u) pairs
is_pairs u [] seps handles = All-nil (IsPair u)
is_pairs u (q ∷ pairs) seps handles =
    let H : IndexPair → Type 0 = λ (q : IndexPair). (q.handle.offset < 2 ^ 64) × (q.handle.size < 2 ^ 64) in
    let s = All-head (IsSeparator u) q pairs seps in
    let h = All-head H q pairs handles in
    All-cons (IsPair u) q pairs (record { short = s.0; tagged = s.1; offset = h.0; size = h.1 })
    (is_pairs u pairs (All-tail (IsSeparator u) q pairs seps) (All-tail H q pairs handles))

separators-of : (u : Bool) (pairs : List IndexPair) → All (IsPair u) pairs → All (IsSeparator u) pairs
separators-of u [] each = All-nil (IsSeparator u)
separators-of u (q ∷ pairs) each =
    let is = All-head (IsPair u) q pairs each in
    All-cons (IsSeparator u) q pairs (is.short, is.tagged) (separators-of u pairs (All-tail (IsPair u) q pairs each))

pub tops-standing : (flags : IndexFlags) (interval base parts : ℕ) (pairs : List IndexPair) → base < 2 ^ 40 → Standing flags.user_key pairs
    → Standing flags.user_key (top_pairs flags interval parts base pairs)
tops-standing flags interval base zero pairs near s = s
tops-standing flags interval base (suc k) pairs near s =
    let u = flags.user_key in
    let most = length pairs in
    record {
      each = is_pairs u (part_pairs flags interval base (parts_of (suc k) pairs))
          (tops-all (λ (t : List ℕ). (length t ≤ stored_key_limit) × (u ≡ false → 8 ≤ length t)) flags interval base most (suc k) pairs (omega arith) (separators-of u pairs s.each))
          (tops-handles flags interval base most (suc k) pairs (omega arith) (omega (arith, near, s.room)));
      rise = tops-rise flags u interval base most (suc k) pairs (omega arith) s.rise;
      behind = tops-behind flags interval base most (suc k) pairs s.room;
      room = omega (arith, tops-room flags interval base most (suc k) pairs (omega arith), s.room);
    }

pub partitions-say : (o : IndexOptions) (ends : List BlockEnd) → AreOptions o → AreEnds ends
    → All (λ (part : List IndexPair). IndexRows (flags_of o.version ends).user_key (flags_of o.version ends).delta (index_block (flags_of o.version ends) o.interval part) part)
    (parts_of o.parts (pairs_of o.version ends))
partitions-say o ends options stand =
    let pairs = pairs_of o.version ends in
    parts-say (flags_of o.version ends) o.interval (length pairs) o.parts pairs (omega (arith, options.least)) (pairs-stand o.version ends stand)

pub top-says : (o : IndexOptions) (base : ℕ) (ends : List BlockEnd) → AreOptions o → AreEnds ends → base < 2 ^ 40
    → IndexRows (flags_of o.version ends).user_key (flags_of o.version ends).delta
    (top_block (flags_of o.version ends) o.interval o.parts base (pairs_of o.version ends)) (top_pairs (flags_of o.version ends) o.interval o.parts base (pairs_of o.version ends))
top-says o base ends options stand near =
    let flags = flags_of o.version ends in
    let pairs = pairs_of o.version ends in
    standing-says flags o.interval (top_pairs flags o.interval o.parts base pairs) (omega (arith, options.least))
    (tops-standing flags o.interval base o.parts pairs near (pairs-stand o.version ends stand))
