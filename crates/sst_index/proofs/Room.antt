-- A block of pairs takes a pair whose separator comes next, where there is room for all.
use Rattle.std.proofs.Common.{inr, ℕ, zero, suc, ◌+◌, ◌%◌, ◌^◌, ◌==◌, ◌<◌, ◌≤◌, pos, ◌-ℤ◌, if◌then◌else◌, Bool, true, false, List, [], ◌∷◌, ◌++◌, length, length-append, sum_by, arith}
use Rattle.std.proofs.lemmas.List.Sums.{sum_by-cons}
use Rattle.sst_num.specs.Spelling.{varint, zigzag, handle_spelling}
use Rattle.sst_num.specs.declared.block_handle.Handle.{Handle}
use Rattle.sst_block.specs.Block.{common, no_handle}
use Rattle.sst_block.specs.Builder.{row_room}
use Rattle.sst_block.specs.IndexRows.{IndexPair}
use Rattle.sst_block.proofs.Size.{length-varint, block_of-le}
use Rattle.sst_index.specs.declared.flags.IndexFlags.{IndexFlags}
use Rattle.sst_index.specs.declared.top.TopBuilder.{TopBuilder}
use Rattle.sst_index.specs.Behind.{AreBehind}
use Rattle.sst_index.specs.IndexBlock.{form_of, handle_value, index_rows, rows_of_pairs, index_block}
use Rattle.sst_index.specs.Index.{Rise, pair_room}
use Rattle.sst_index.specs.Top.{HoldsPairs, IsPair, CanAddPair}
use Rattle.sst_index.proofs.PairRows.{row_of}
use Rattle.sst_index.proofs.Order.{ordered-from_rise}

-- no value of a row has more than twenty bytes
length-handle : (h : Handle) → length (handle_spelling h) ≤ 20
length-handle h = omega (arith, length-varint h.offset, length-varint h.size, length-append (varint h.offset) (varint h.size))

length-value : (delta : Bool) (shared : ℕ) (before h : Handle) → length (handle_value delta shared before h) ≤ 20
length-value false shared before h = length-handle h
length-value true zero before h = length-handle h
length-value true (suc shared) before h = omega (arith, length-varint (zigzag (pos h.size -ℤ pos before.size)))

-- the rows have no more room than their pairs
rows-room : (delta : Bool) (interval i : ℕ) (key : List ℕ) (before : Handle) (pairs : List IndexPair)
    → sum_by row_room (index_rows delta interval i key before pairs) ≤ sum_by pair_room pairs
rows-room delta interval i key before [] = omega arith
rows-room delta interval i key before (p ∷ pairs) =
    let shared = if i % interval == 0 then 0 else common key p.separator in
    let rest = index_rows delta interval (i + 1) p.separator p.handle pairs in
    omega (
      arith,
      rows-room delta interval (i + 1) p.separator p.handle pairs,
      length-value delta shared before p.handle,
      sum_by-cons row_room (row_of delta shared before p) rest,
      sum_by-cons pair_room p pairs,
    )

-- nor has their block, and eight bytes
pub block-room : (flags : IndexFlags) (interval : ℕ) (pairs : List IndexPair) → length (index_block flags interval pairs) ≤ sum_by pair_room pairs + 8
block-room flags interval pairs =
    omega (arith, block_of-le (form_of flags) interval (rows_of_pairs flags interval pairs), rows-room flags.delta interval 0 [] no_handle pairs)

-- a builder takes the pair that comes next
pub takes_next : (t : TopBuilder) (flags : IndexFlags) (interval : ℕ) (pairs : List IndexPair) (pair : IndexPair) → HoldsPairs t flags interval pairs
    → IsPair flags.user_key pair → AreBehind (pairs ++ pair ∷ []) → Rise flags.user_key (pairs ++ pair ∷ []) → sum_by pair_room (pairs ++ pair ∷ []) + 8 < 2 ^ 29 → CanAddPair t pair
takes_next t flags interval pairs pair holds is behind rise room =
    let more = pairs ++ pair ∷ [] in
    inr (record {
      flags = flags;
      interval = interval;
      pairs = pairs;
      holds = holds;
      form = is;
      behind = λ _. behind;
      ordered = ordered-from_rise flags.user_key flags.delta interval 0 [] no_handle more rise;
      short = omega (arith, block-room flags interval more, room);
    })
