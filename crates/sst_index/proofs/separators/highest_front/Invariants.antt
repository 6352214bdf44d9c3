use Rattle.std.proofs.Common.{◌≡◌, ◌+◌, drop}
use Rattle.sst_index.specs.Separators.{highest_front}
use Rattle.sst_index.proofs.separators.highest_front.Given as goal

abbrev pub invariant-loop-at : goal.invariant-loop-at
invariant-loop-at l = l.at + highest_front (drop l.at l.user) ≡ highest_front l.user
