use Rattle.sst_tests_blocks.proofs.BackWalks.{BackWalk}
use Rattle.sst_tests_blocks.proofs.blocks.assert_walk_back.Given as goal

abbrev pub invariant-loop-key : goal.invariant-loop-key
invariant-loop-key g l = BackWalk l.walk l.there
