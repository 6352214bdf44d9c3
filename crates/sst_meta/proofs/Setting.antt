-- When a builder takes a pair, told by the lengths of its names and values.
use Rattle.std.proofs.Common.{◌+◌, ◌^◌, ◌<◌, ◌≤◌, inr, List, [], ◌∷◌, ◌++◌, length, sum_by, arith}
use Rattle.sst_block.specs.declared.row_form.RowForm.TheVariants.{Names}
use Rattle.sst_block.specs.Block.{Row, AreOrdered}
use Rattle.sst_block.specs.Builder.{row_room}
use Rattle.sst_block.proofs.Size.{block_of-le}
use Rattle.sst_meta.specs.declared.builder.PropsBuilder.{PropsBuilder}
use Rattle.sst_meta.specs.Builder.{Holds, CanSet}

pub can_set : (b : PropsBuilder) (pairs : List Row) (pair : Row) → Holds b pairs → length pair.key ≤ 65544 → AreOrdered Names (pairs ++ pair ∷ [])
    → length pairs < 65536 → sum_by row_room (pairs ++ pair ∷ []) + 8 < 2 ^ 29 → CanSet b pair
can_set b pairs pair holds short_name after few room =
    inr (record {
      pairs = pairs;
      holds = holds;
      short_name = short_name;
      after = after;
      few = few;
      short = omega (arith, block_of-le Names 65536 (pairs ++ pair ∷ []), room);
    })
