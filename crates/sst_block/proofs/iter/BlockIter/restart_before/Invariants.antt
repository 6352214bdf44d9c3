use Rattle.std.proofs.Common.{◌-◌}
use Rattle.sst_block.proofs.Back.{Searches}
use Rattle.sst_block.proofs.iter.BlockIter.restart_before.Given as goal

abbrev pub invariant-loop-high : goal.invariant-loop-high
invariant-loop-high l = Searches l.self.places.now l.self.count l.place l.low l.high

abbrev pub decreases-loop-high : goal.decreases-loop-high
decreases-loop-high l = l.high - l.low
