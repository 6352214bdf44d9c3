use Rattle.std.proofs.Common.{inr, arith}
use Rattle.sst_tests_blocks.proofs.index.index_of_blocks_that_share.Goals as goal

pub separator-requires : goal.separator-requires
separator-requires g c = (_, _, c.in_ok-add_blocks.ensures _ c.in_ok-builder.ensures.holds, omega arith)

pub separator-requires-2 : goal.separator-requires-2
separator-requires-2 g c = (_, _, c.in_ok-add_blocks.ensures _ c.in_ok-builder.ensures.holds, omega arith)

pub finish-requires-clause-state : goal.finish-requires-clause-state
finish-requires-clause-state g c = inr (_, _, c.in_ok-add_blocks.ensures _ c.in_ok-builder.ensures.holds)

pub flags-requires : goal.flags-requires
flags-requires g c = (_, _, c.in_ok-add_blocks-2.ensures _ c.in_ok-builder-2.ensures.holds)

pub finish-requires-2-clause-state : goal.finish-requires-2-clause-state
finish-requires-2-clause-state g c = inr (_, _, c.in_ok-add_blocks-2.ensures _ c.in_ok-builder-2.ensures.holds)
