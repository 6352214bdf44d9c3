use Rattle.std.proofs.Common.{length}
use Rattle.sst_block.proofs.Seeking.{CameTo}
use Rattle.sst_block.proofs.iter.BlockIter.forward_to.Given as goal

abbrev pub invariant-loop-self : goal.invariant-loop-self
invariant-loop-self l = CameTo l.fn.self l.self l.target

abbrev pub decreases-loop-self : goal.decreases-loop-self
decreases-loop-self l = length l.self.after.now
