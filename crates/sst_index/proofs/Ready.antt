-- The rows of a builder go into a block one after the other.
use Rattle.std.proofs.Common.{◌≡◌, ℕ, zero, suc, ◌+◌, ◌-◌, ◌<◌, ◌≤◌, List, [], ◌∷◌, ◌++◌, length, take, drop, All, sum_by, Some, slice_get, refl, sym, ap, ◌∙◌, subst, add-one, arith}
use Rattle.std.proofs.Math.Seq.{take-suc}
use Rattle.std.proofs.lemmas.List.Elements.{All-drop, All-get_or}
use Rattle.std.proofs.lemmas.List.Sums.{sum_by-take-le, sum_by-take-drop}
use Rattle.std.proofs.lemmas.Option.{slice_get_within, get_or_from_slice_get}
use Rattle.sst_num.specs.declared.block_handle.Handle.{Handle}
use Rattle.sst_block.specs.IndexRows.{IndexPair}
use Rattle.sst_index.specs.declared.builder.IndexBuilder.{IndexBuilder}
use Rattle.sst_index.specs.declared.flags.IndexFlags.{IndexFlags}
use Rattle.sst_index.specs.declared.top.TopBuilder.{TopBuilder}
use Rattle.sst_index.specs.IndexBlock.{index_block}
use Rattle.sst_index.specs.IndexBytes.{last_separator, part_pair}
use Rattle.sst_index.specs.Index.{IsReady, Rise, kept_pairs, pair_room, rows_between}
use Rattle.sst_index.specs.Top.{HoldsPairs, IsPair, CanAddPair}
use Rattle.sst_index.specs.Behind.{AreBehind}
use Rattle.sst_index.proofs.Behind.{behind-take, behind-drop}
use Rattle.sst_index.proofs.Order.{rise-take, rise-drop}
use Rattle.sst_index.proofs.Room.{takes_next}

-- the first n and the next are the first n + 1
pub pairs_more : (pairs : List IndexPair) (n : ℕ) (pair : IndexPair) → slice_get pairs n ≡ Some pair → take n pairs ++ pair ∷ [] ≡ take (n + 1) pairs
pairs_more pairs n pair at =
    let within = slice_get_within pairs n pair at in
    let is = get_or_from_slice_get pairs n pair pair at in
    sym (rw (add-one, take-suc pairs n pair, is) refl)

-- the one with the number row, counted from another on
pub at_drop : (pairs : List IndexPair) (from row n : ℕ) (pair : IndexPair) → row ≡ from + n → slice_get pairs row ≡ Some pair → slice_get (drop from pairs) n ≡ Some pair
at_drop pairs zero row n pair e at = let same : row ≡ n = omega (arith, e) in ap (slice_get pairs) (sym same) ∙ at
at_drop [] (suc from) row n pair e at = cc
at_drop (p ∷ pairs) (suc from) zero n pair e at = absurd (omega arith)
at_drop (p ∷ pairs) (suc from) (suc row) n pair e at = at_drop pairs from row n pair (omega arith) at

pub is_pair_at : (u : IndexPair → Type 0) (pairs : List IndexPair) (n : ℕ) (pair : IndexPair) → All u pairs → slice_get pairs n ≡ Some pair → u pair
is_pair_at u pairs n pair all at =
    subst u (get_or_from_slice_get pairs n pair pair at) (All-get_or u pairs n pair (slice_get_within pairs n pair at) all)

-- the room of some of the pairs
pub drop-room : (pairs : List IndexPair) (from : ℕ) → sum_by pair_room (drop from pairs) ≤ sum_by pair_room pairs
drop-room pairs from = omega (arith, sum_by-take-drop pair_room pairs from)

-- a block of the rows takes the next
pub ready_takes : (b : IndexBuilder) (flags : IndexFlags) → IsReady b flags → (t : TopBuilder) (from n : ℕ) (pair : IndexPair)
    → slice_get (drop from (kept_pairs flags.user_key b)) n ≡ Some pair
    → HoldsPairs t flags b.interval (take n (drop from (kept_pairs flags.user_key b))) → CanAddPair t pair
ready_takes b flags ready t from n pair at holds =
    let pairs = kept_pairs flags.user_key b in
    let rest = drop from pairs in
    let more = pairs_more rest n pair at in
    takes_next t flags b.interval (take n rest) pair holds
    (is_pair_at (IsPair flags.user_key) rest n pair (All-drop (IsPair flags.user_key) from pairs ready.each) at)
    (subst AreBehind (sym more) (behind-take (n + 1) rest (behind-drop from pairs ready.behind)))
    (subst (λ (l : List IndexPair). Rise flags.user_key l) (sym more) (rise-take flags.user_key (n + 1) rest (rise-drop flags.user_key from pairs ready.rise)))
    (omega (arith, ap (λ (l : List IndexPair). sum_by pair_room l) more, sum_by-take-le pair_room rest (n + 1), drop-room pairs from, ready.room))

last_separator-more : (before : List ℕ) (pairs : List IndexPair) (pair : IndexPair) → last_separator before (pairs ++ pair ∷ []) ≡ pair.separator
last_separator-more before [] pair = refl
last_separator-more before (p ∷ pairs) pair = last_separator-more p.separator pairs pair

-- the last of the rows from one to before another
pub last_between : (pairs : List IndexPair) (from to : ℕ) (pair : IndexPair) → from < to → slice_get pairs (to - 1) ≡ Some pair
    → last_separator [] (take (to - from) (drop from pairs)) ≡ pair.separator
last_between pairs from to pair some at =
    let n = to - 1 - from in
    let there = at_drop pairs from (to - 1) n pair (omega arith) at in
    let long : to - from ≡ n + 1 = omega arith in
    ap (λ (m : ℕ). last_separator [] (take m (drop from pairs))) long
    ∙ ap (λ (l : List IndexPair). last_separator [] l) (sym (pairs_more (drop from pairs) n pair there))
    ∙ last_separator-more [] (take n (drop from pairs)) pair

-- the pair that leads to a partition
pub leads_to_part : (b : IndexBuilder) (flags : IndexFlags) (from to at : ℕ) (separator block : List ℕ) (handle found : Handle) → from < to
    → slice_get (kept_pairs flags.user_key b) (to - 1) ≡ Some (record { separator = separator; handle = found })
    → handle ≡ record { offset = at; size = length block } → block ≡ index_block flags b.interval (rows_between flags b from to)
    → ◌≡◌ {A = IndexPair} (record { separator = separator; handle = handle }) (part_pair flags b.interval at (rows_between flags b from to))
leads_to_part b flags from to at separator block handle found some last place is =
    let s : separator ≡ last_separator [] (rows_between flags b from to) =
    sym (last_between (kept_pairs flags.user_key b) from to (record { separator = separator; handle = found }) some last) in
    rw (place, is, s) refl
