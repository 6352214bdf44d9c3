-- How long the stored index is.
use Rattle.std.proofs.Common.{ℕ, zero, suc, ◌+◌, ◌*◌, ◌^◌, ◌<◌, ◌≤◌, List, [], ◌∷◌, length, length-append, take, drop, sum_by, arith}
use Rattle.std.proofs.lemmas.List.Sums.{sum_by-cons, sum_by-take-drop}
use Rattle.sst_block.specs.IndexRows.{IndexPair}
use Rattle.sst_device.specs.Framed.{frame_of}
use Rattle.sst_meta.proofs.FramedParts.{length-frame}
use Rattle.sst_index.specs.declared.flags.IndexFlags.{IndexFlags}
use Rattle.sst_index.specs.Ends.{AreEnds, BlockEnd, flags_of, pairs_of}
use Rattle.sst_index.specs.Index.{pair_room}
use Rattle.sst_index.specs.IndexBlock.{index_block}
use Rattle.sst_index.specs.IndexBytes.{IndexOptions, below_top, in_parts, index_bytes, stored_parts, top_block, top_pairs}
use Rattle.sst_index.proofs.Kept.{pairs-stand}
use Rattle.sst_index.proofs.Parts.{tops-room}
use Rattle.sst_index.proofs.Room.{block-room}

-- partitions take at most twice the room of their pairs
parts-le : (flags : IndexFlags) (interval most k : ℕ) (pairs : List IndexPair) → 1 ≤ k → length (stored_parts flags interval (in_parts most k pairs)) ≤ 2 * sum_by pair_room pairs
parts-le flags interval zero k pairs some = omega arith
parts-le flags interval (suc most) k [] some = omega arith
parts-le flags interval (suc most) zero (p ∷ pairs) some = absurd (omega arith)
parts-le flags interval (suc most) (suc k) (p ∷ pairs) some =
    let part = p ∷ take k pairs in
    let block = index_block flags interval part in
    omega (
      arith,
      parts-le flags interval most (suc k) (drop k pairs) some,
      block-room flags interval part,
      length-frame block,
      length-append (frame_of block) (stored_parts flags interval (in_parts most (suc k) (drop k pairs))),
      sum_by-cons pair_room p (take k pairs),
      sum_by-cons pair_room p pairs,
      sum_by-take-drop pair_room pairs k,
    )

below-le : (flags : IndexFlags) (interval parts : ℕ) (pairs : List IndexPair) → length (below_top flags interval parts pairs) ≤ 2 * sum_by pair_room pairs
below-le flags interval zero pairs = omega arith
below-le flags interval (suc k) pairs = parts-le flags interval (length pairs) (suc k) pairs (omega arith)

-- and the top block no more than all pairs
pub top-le : (flags : IndexFlags) (interval parts base : ℕ) (pairs : List IndexPair) → length (top_block flags interval parts base pairs) ≤ sum_by pair_room pairs + 8
top-le flags interval zero base pairs = block-room flags interval pairs
top-le flags interval (suc k) base pairs =
    omega (arith, block-room flags interval (top_pairs flags interval (suc k) base pairs), tops-room flags interval base (length pairs) (suc k) pairs (omega arith))

pub index_bytes-short : (o : IndexOptions) (base : ℕ) (ends : List BlockEnd) → AreEnds ends → length (index_bytes o base ends) < 2 ^ 31
index_bytes-short o base ends stand =
    let flags = flags_of o.version ends in
    let pairs = pairs_of o.version ends in
    let block = top_block flags o.interval o.parts base pairs in
    omega (
      arith,
      below-le flags o.interval o.parts pairs,
      top-le flags o.interval o.parts base pairs,
      length-append (below_top flags o.interval o.parts pairs) (frame_of block),
      length-frame block,
      (pairs-stand o.version ends stand).room,
    )
