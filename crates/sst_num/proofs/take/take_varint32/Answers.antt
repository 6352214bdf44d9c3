use Rattle.std.proofs.Common.{arith}
use Rattle.sst_num.proofs.NumberReading.{varint32-too_large}
use Rattle.sst_num.proofs.take.take_varint32.Goals as goal

pub returns-else-v-clause-none : goal.returns-else-v-clause-none
returns-else-v-clause-none c =
    varint32-too_large _ _ _ c.in_ok-v.ensures.exact (omega (arith, c.if-v.false))
