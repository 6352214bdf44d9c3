-- One partition more is written, and led to.
use Rattle.std.proofs.Common.{◌≡◌, ℕ, ◌+◌, ◌-◌, ◌^◌, ◌<◌, ◌≤◌, min, Bool, false, List, [], ◌∷◌, ◌++◌, length, length-append, length-drop, take, drop, All, sum_by, refl, sym, ap, ◌∙◌, subst, append_assoc, arith}
use Rattle.std.proofs.Math.ListN.{drop_of_length-le}
use Rattle.std.proofs.lemmas.List.{append-nil, length-map, take_min, drop_min, drop-drop}
use Rattle.std.proofs.lemmas.List.Elements.{All-head, All-tail, All-weaker}
use Rattle.std.proofs.lemmas.List.Sums.{sum_by-take-le}
use Rattle.sst_key.specs.Limits.{stored_key_limit}
use Rattle.sst_block.specs.IndexRows.{IndexPair}
use Rattle.sst_device.specs.Framed.{frame_of}
use Rattle.sst_index.specs.declared.flags.IndexFlags.{IndexFlags}
use Rattle.sst_index.specs.declared.builder.IndexBuilder.{IndexBuilder}
use Rattle.sst_index.specs.declared.top.TopBuilder.{TopBuilder}
use Rattle.sst_index.specs.IndexBlock.{index_block}
use Rattle.sst_index.specs.IndexBytes.{parts_of, part_pair, part_pairs, stored_parts}
use Rattle.sst_index.specs.Index.{IsReady, Rise, kept_pair, kept_pairs, pair_room, rows_between}
use Rattle.sst_index.specs.Parted.{ArePut}
use Rattle.sst_index.specs.Top.{HoldsPairs, IsPair, CanAddPair}
use Rattle.sst_index.specs.Behind.{AreBehind}
use Rattle.sst_index.proofs.Behind.{behind-front}
use Rattle.sst_index.proofs.Parts.{parts-step, stored-more, part_pairs-more, part_pairs-append, tops-all, tops-rise, tops-room, all-front, rise-front, room-front}
use Rattle.sst_index.proofs.PartsBehind.{tops-behind}
use Rattle.sst_index.proofs.Ready.{drop-room}
use Rattle.sst_index.proofs.Room.{block-room, takes_next}

-- the next partition
pub next_part : (k : ℕ) (pairs : List IndexPair) (from to : ℕ) → to ≡ from + min (length pairs - from) k → take (to - from) (drop from pairs) ≡ take k (drop from pairs)
next_part k pairs from to e =
    let rest = drop from pairs in
    let n : to - from ≡ min k (length rest) = omega (arith, e, length-drop from pairs) in
    ap (λ (m : ℕ). take m rest) n ∙ take_min k rest

-- and what follows it
behind_part : (k : ℕ) (pairs : List IndexPair) (from to : ℕ) → to ≡ from + min (length pairs - from) k → drop to pairs ≡ drop k (drop from pairs)
behind_part k pairs from to e =
    let rest = drop from pairs in
    let n : to ≡ from + min k (length rest) = omega (arith, e, length-drop from pairs) in
    ap (λ (m : ℕ). drop m pairs) n ∙ sym (drop-drop (min k (length rest)) from pairs) ∙ drop_min k rest

-- the partitions with the next, and what follows
split_next : (k : ℕ) (pairs : List IndexPair) (from to : ℕ) (done : List (List IndexPair)) → 1 ≤ k → from < length pairs → to ≡ from + min (length pairs - from) k
    → parts_of k pairs ≡ done ++ parts_of k (drop from pairs)
    → parts_of k pairs ≡ (done ++ take (to - from) (drop from pairs) ∷ []) ++ parts_of k (drop to pairs)
split_next k pairs from to done some there e whole =
    let rest = drop from pairs in
    let step = parts-step k rest some (omega (arith, length-drop from pairs)) in
    whole ∙ ap (λ (l : List (List IndexPair)). done ++ l)
    (step ∙ ap (λ (p : List IndexPair). p ∷ parts_of k (drop k rest)) (sym (next_part k pairs from to e))
    ∙ ap (λ (r : List IndexPair). take (to - from) rest ∷ parts_of k r) (sym (behind_part k pairs from to e)))
    ∙ sym (append_assoc done (take (to - from) rest ∷ []) (parts_of k (drop to pairs)))

-- where the next partition stands
place_next : (flags : IndexFlags) (interval base at : ℕ) (done : List (List IndexPair)) (old now : List ℕ) → now ≡ old ++ stored_parts flags interval done
    → at ≡ base + (length now - length old) → at ≡ base + length (stored_parts flags interval done)
place_next flags interval base at done old now bytes e =
    omega (arith, e, ap length bytes, length-append old (stored_parts flags interval done))

pub put_next : (flags : IndexFlags) (interval k base : ℕ) (pairs : List IndexPair) (from to at : ℕ) (old now new : List ℕ) (top next : TopBuilder)
    → ArePut flags interval k base pairs from old now top → 1 ≤ k → from < length pairs → to ≡ from + min (length pairs - from) k
    → at ≡ base + (length now - length old)
    → new ≡ now ++ frame_of (index_block flags interval (take (to - from) (drop from pairs)))
    → ((ps : List IndexPair) → HoldsPairs top flags interval ps → HoldsPairs next flags interval (ps ++ part_pair flags interval at (take (to - from) (drop from pairs)) ∷ []))
    → ArePut flags interval k base pairs to old new next
put_next flags interval k base pairs from to at old now new top next put some there e place bytes added =
    let part = take (to - from) (drop from pairs) in
    let here = place_next flags interval base at put.done old now put.bytes place in
    record {
      done = put.done ++ part ∷ [];
      whole = split_next k pairs from to put.done some there e put.whole;
      bytes = bytes ∙ ap (λ (l : List ℕ). l ++ frame_of (index_block flags interval part)) put.bytes
          ∙ append_assoc old (stored_parts flags interval put.done) (frame_of (index_block flags interval part))
          ∙ ap (λ (l : List ℕ). old ++ l) (sym (stored-more flags interval put.done part));
      holds = subst (λ (l : List IndexPair). HoldsPairs next flags interval l) (sym (part_pairs-more flags interval base at put.done part here))
          (added (part_pairs flags interval base put.done) put.holds);
      within = omega (arith, e);
    }

-- a block of some of the pairs is short
part-short : (flags : IndexFlags) (interval : ℕ) (pairs : List IndexPair) (from n : ℕ) → sum_by pair_room pairs + 8 < 2 ^ 29
    → length (index_block flags interval (take n (drop from pairs))) < 2 ^ 29
part-short flags interval pairs from n room =
    omega (arith, block-room flags interval (take n (drop from pairs)), sum_by-take-le pair_room (drop from pairs) n, drop-room pairs from, room)

all-last : (P : IndexPair → Type 0) (xs : List IndexPair) (x : IndexPair) → All P (xs ++ x ∷ []) → P x
all-last P [] x all = All-head P x [] all
all-last P (y ∷ xs) x all = all-last P xs x (All-tail P y (xs ++ x ∷ []) all)

-- what a separator is
abbrev IsSeparator : Bool → List ℕ → Type 0
IsSeparator user_key s = (length s ≤ stored_key_limit) × (user_key ≡ false → 8 ≤ length s)

-- the top block takes the pair of the next partition
pub can_put : (b : IndexBuilder) (flags : IndexFlags) → IsReady b flags → (k base from to at : ℕ) (old now : List ℕ) (top : TopBuilder)
    → ArePut flags b.interval k base (kept_pairs flags.user_key b) from old now top → 1 ≤ k → from < length (kept_pairs flags.user_key b)
    → to ≡ from + min (length (kept_pairs flags.user_key b) - from) k → at ≡ base + (length now - length old) → at < 2 ^ 64
    → CanAddPair top (part_pair flags b.interval at (rows_between flags b from to))
can_put b flags ready k base from to at old now top put some there e place fits =
    let u = flags.user_key in
    let interval = b.interval in
    let pairs = kept_pairs u b in
    let part = take (to - from) (drop from pairs) in
    let here = place_next flags interval base at put.done old now put.bytes place in
    let tops = part_pairs flags interval base put.done in
    let pair = part_pair flags interval at part in
    let more = part_pairs-more flags interval base at put.done part here in
    let behind = part_pairs flags interval (base + length (stored_parts flags interval (put.done ++ part ∷ []))) (parts_of k (drop to pairs)) in
    let all : part_pairs flags interval base (parts_of k pairs) ≡ (tops ++ pair ∷ []) ++ behind =
    ap (part_pairs flags interval base) (split_next k pairs from to put.done some there e put.whole)
    ∙ part_pairs-append flags interval base (put.done ++ part ∷ []) (parts_of k (drop to pairs))
    ∙ ap (λ (l : List IndexPair). l ++ behind) more in
    let S : IndexPair → Type 0 = λ (q : IndexPair). IsSeparator u q.separator in
    let seps = tops-all (IsSeparator u) flags interval base (length pairs) k pairs some (All-weaker (IsPair u) S (λ q is. (is.short, is.tagged)) pairs ready.each) in
    let sep = all-last S tops pair (all-front S (tops ++ pair ∷ []) behind (subst (λ (l : List IndexPair). All S l) all seps)) in
    let rise = tops-rise flags u interval base (length pairs) k pairs some ready.rise in
    let short = part-short flags interval pairs from (to - from) ready.room in
    let stand = tops-behind flags interval base (length pairs) k pairs ready.room in
    takes_next top flags interval tops pair put.holds
    (record { short = sep.0; tagged = sep.1; offset = fits; size = omega (arith, short) })
    (behind-front (tops ++ pair ∷ []) behind (subst AreBehind all stand))
    (rise-front u (tops ++ pair ∷ []) behind (subst (λ (l : List IndexPair). Rise u l) all rise))
    (omega (arith, room-front (tops ++ pair ∷ []) behind, ap (λ (l : List IndexPair). sum_by pair_room l) all, tops-room flags interval base (length pairs) k pairs some, ready.room))

-- nothing is put at first
pub put_none : (flags : IndexFlags) (interval k base : ℕ) (pairs : List IndexPair) (old : List ℕ) (top : TopBuilder) → HoldsPairs top flags interval []
    → ArePut flags interval k base pairs 0 old old top
put_none flags interval k base pairs old top holds =
    record { done = []; whole = refl; bytes = sym (append-nil old); holds = holds; within = omega arith }

-- all are put in the end
pub put_all : (flags : IndexFlags) (interval k base : ℕ) (pairs : List IndexPair) (from : ℕ) (old now : List ℕ) (top : TopBuilder)
    → ArePut flags interval k base pairs from old now top → length pairs ≤ from
    → (now ≡ old ++ stored_parts flags interval (parts_of k pairs)) × HoldsPairs top flags interval (part_pairs flags interval base (parts_of k pairs))
    × (base + (length now - length old) ≡ base + length (stored_parts flags interval (parts_of k pairs)))
put_all flags interval k base pairs from old now top put past =
    let none : drop from pairs ≡ [] = drop_of_length-le pairs past in
    let done : put.done ≡ parts_of k pairs =
    sym (put.whole ∙ ap (λ (l : List IndexPair). put.done ++ parts_of k l) none ∙ append-nil put.done) in
    let bytes = put.bytes ∙ ap (λ (parts : List (List IndexPair)). old ++ stored_parts flags interval parts) done in (
      bytes,
      subst (λ (parts : List (List IndexPair)). HoldsPairs top flags interval (part_pairs flags interval base parts)) done put.holds,
      omega (arith, ap length bytes, length-append old (stored_parts flags interval (parts_of k pairs))),
    )

pub kept-length : (user_key : Bool) (b : IndexBuilder) → length (kept_pairs user_key b) ≡ length b.rows.items
kept-length user_key b = length-map b.rows.items (kept_pair user_key b.keys.items)

-- how far the next partition goes
pub next_end : (user_key : Bool) (b : IndexBuilder) (count from n k : ℕ) → count ≡ length b.rows.items → n ≡ min (count - from) k
    → from + n ≡ from + min (length (kept_pairs user_key b) - from) k
next_end user_key b count from n k c e =
    ap (λ (m : ℕ). from + m) e ∙ ap (λ (m : ℕ). from + min (m - from) k) (c ∙ sym (kept-length user_key b))
