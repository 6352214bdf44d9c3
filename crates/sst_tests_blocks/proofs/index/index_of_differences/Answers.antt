use Rattle.std.proofs.Common.{inr}
use Rattle.sst_tests_blocks.proofs.index.index_of_differences.Goals as goal

pub flags-requires : goal.flags-requires
flags-requires g c = (_, _, c.in_ok-add_blocks.ensures _ c.in_ok-builder.ensures.holds)

pub finish-requires-clause-state : goal.finish-requires-clause-state
finish-requires-clause-state g c = inr (_, _, c.in_ok-add_blocks.ensures _ c.in_ok-builder.ensures.holds)
