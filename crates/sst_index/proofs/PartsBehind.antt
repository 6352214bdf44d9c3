-- The partitions of an index stand one behind the other.
use Rattle.std.proofs.Common.{◌≡◌, ℕ, zero, suc, ◌+◌, ◌^◌, ◌<◌, List, [], ◌∷◌, length, take, drop, sum_by, refl, arith}
use Rattle.std.proofs.lemmas.List.Sums.{sum_by-take-le}
use Rattle.sst_num.specs.declared.block_handle.Handle.{Handle}
use Rattle.sst_block.specs.IndexRows.{IndexPair}
use Rattle.sst_index.specs.declared.flags.IndexFlags.{IndexFlags}
use Rattle.sst_index.specs.Behind.{ComeBehind, AreBehind}
use Rattle.sst_index.specs.IndexBlock.{index_block}
use Rattle.sst_index.specs.IndexBytes.{in_parts, part_pair, part_pairs}
use Rattle.sst_index.specs.Index.{pair_room}
use Rattle.sst_index.proofs.Behind.{is_behind}
use Rattle.sst_index.proofs.Ready.{drop-room}
use Rattle.sst_index.proofs.Room.{block-room}

-- a partition of pairs that have room is short
part-small : (flags : IndexFlags) (interval k : ℕ) (pairs : List IndexPair) → sum_by pair_room pairs + 8 < 2 ^ 29
    → length (index_block flags interval (take k pairs)) < 2 ^ 29
part-small flags interval k pairs room = omega (arith, block-room flags interval (take k pairs), sum_by-take-le pair_room pairs k, room)

come-parts : (flags : IndexFlags) (interval at most k : ℕ) (pairs : List IndexPair) (before : Handle) → sum_by pair_room pairs + 8 < 2 ^ 29
    → at ≡ before.offset + before.size + 5 → before.size < 2 ^ 29 → ComeBehind before (part_pairs flags interval at (in_parts most k pairs))
come-parts flags interval at zero k pairs before room begins short = tt
come-parts flags interval at (suc most) k [] before room begins short = tt
come-parts flags interval at (suc most) k (p ∷ pairs) before room begins short =
    let part = take k (p ∷ pairs) in
    let pair = part_pair flags interval at part in
    let small = part-small flags interval k (p ∷ pairs) room in (
      is_behind before pair.handle begins short small,
      come-parts flags interval (at + length (index_block flags interval part) + 5) most k (drop k (p ∷ pairs)) pair.handle
          (omega (arith, drop-room (p ∷ pairs) k, room)) refl small,
    )

pub tops-behind : (flags : IndexFlags) (interval at most k : ℕ) (pairs : List IndexPair) → sum_by pair_room pairs + 8 < 2 ^ 29
    → AreBehind (part_pairs flags interval at (in_parts most k pairs))
tops-behind flags interval at zero k pairs room = tt
tops-behind flags interval at (suc most) k [] room = tt
tops-behind flags interval at (suc most) k (p ∷ pairs) room =
    let part = take k (p ∷ pairs) in
    come-parts flags interval (at + length (index_block flags interval part) + 5) most k (drop k (p ∷ pairs)) (part_pair flags interval at part).handle
    (omega (arith, drop-room (p ∷ pairs) k, room)) refl (part-small flags interval k (p ∷ pairs) room)
