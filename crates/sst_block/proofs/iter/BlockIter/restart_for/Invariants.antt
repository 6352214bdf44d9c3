use Rattle.std.proofs.Common.{◌-◌}
use Rattle.sst_block.proofs.Seeking.{Halves}
use Rattle.sst_block.proofs.iter.BlockIter.restart_for.Given as goal

abbrev pub invariant-loop-high : goal.invariant-loop-high
invariant-loop-high l = Halves l.fn.self l.self l.target l.low l.high

abbrev pub decreases-loop-high : goal.decreases-loop-high
decreases-loop-high l = l.high - l.low
