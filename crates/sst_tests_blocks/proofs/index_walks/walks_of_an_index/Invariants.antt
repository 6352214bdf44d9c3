use Rattle.sst_tests_blocks.specs.IndexWalks.{Goes}
use Rattle.sst_tests_blocks.proofs.index_walks.walks_of_an_index.Given as goal

-- the walk goes over its pairs, and stands at one if so
abbrev pub invariant-loop-step : goal.invariant-loop-step
invariant-loop-step g l = Goes l.walk l.stands
