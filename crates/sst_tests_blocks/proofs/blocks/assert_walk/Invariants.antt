use Rattle.sst_block.proofs.Walking.{Moved}
use Rattle.sst_tests_blocks.proofs.blocks.assert_walk.Given as goal

abbrev pub invariant-loop-key : goal.invariant-loop-key
invariant-loop-key g l = Moved l.walk l.there
