use Rattle.std.proofs.Common.{[], refl, arith}
use Rattle.sst_meta.proofs.Setting.{can_set}
use Rattle.sst_tests_blocks.proofs.properties.two_properties.Goals as goal

pub set-requires : goal.set-requires
set-requires g c = can_set _ [] _ c.in_ok-builder.ensures (omega arith) tt (omega arith) (omega arith)

pub set-requires-2 : goal.set-requires-2
set-requires-2 g c =
    can_set _ _ _ (c.in_ok-set.ensures.ok [] c.in_ok-builder.ensures) (omega arith) (refl, tt) (omega arith) (omega arith)
