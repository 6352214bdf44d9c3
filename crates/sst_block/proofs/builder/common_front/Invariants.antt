use Rattle.std.proofs.Common.{◌≡◌, ◌+◌, drop}
use Rattle.sst_block.specs.Block.{common}
use Rattle.sst_block.proofs.builder.common_front.Given as goal

abbrev pub invariant-loop-at : goal.invariant-loop-at
invariant-loop-at l = l.at + common (drop l.at l.a) (drop l.at l.b) ≡ common l.a l.b
