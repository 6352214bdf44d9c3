use Rattle.sst_num.proofs.Fixed.{fixed_value-fixed}
use Rattle.sst_num.proofs.laws.fixed_reads_back.Goals as goal

pub returns : goal.returns
returns c = fixed_value-fixed
