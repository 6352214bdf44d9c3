use Rattle.sst_num.proofs.FixedAt.{fixed_at-fixed}
use Rattle.sst_num.proofs.laws.fixed_is_taken_again.Goals as goal

pub returns : goal.returns
returns c = fixed_at-fixed
