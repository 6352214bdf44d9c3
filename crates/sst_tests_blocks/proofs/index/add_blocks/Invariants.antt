use Rattle.std.proofs.Common.{[], take}
use Rattle.sst_index.specs.Index.{Holds}
use Rattle.sst_index.specs.IndexBytes.{IndexOptions}
use Rattle.sst_tests_blocks.specs.LedBlocks.{ends_of}
use Rattle.sst_tests_blocks.proofs.index.add_blocks.Given as goal

-- the builder holds the blocks so far
abbrev pub invariant-loop-last : goal.invariant-loop-last
invariant-loop-last l = (o : IndexOptions) → Holds l.fn.builder o [] → Holds l.builder o (take l.last-index (ends_of l.blocks))
