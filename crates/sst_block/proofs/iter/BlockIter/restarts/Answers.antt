use Rattle.std.proofs.Common.{sym, subst, ℕ, ◌<◌}
use Rattle.sst_block.proofs.Halves.{restarts-some}
use Rattle.sst_block.proofs.iter.BlockIter.restarts.Goals as goal

pub returns : goal.returns
returns c = λ form bytes rows b place w. (w.count, subst (λ (n : ℕ). 0 < n) (sym w.count) (restarts-some form bytes rows b))
