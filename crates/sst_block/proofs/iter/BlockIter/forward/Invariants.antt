use Rattle.std.proofs.Common.{length}
use Rattle.sst_block.proofs.Forward.{ComesTo}
use Rattle.sst_block.proofs.iter.BlockIter.forward.Given as goal

abbrev pub invariant-loop-self : goal.invariant-loop-self
invariant-loop-self l = ComesTo l.fn.self l.self l.left

abbrev pub decreases-loop-self : goal.decreases-loop-self
decreases-loop-self l = length l.self.after.now
