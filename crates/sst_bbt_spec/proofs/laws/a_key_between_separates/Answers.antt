use Rattle.sst_bbt_spec.proofs.Separating.{between-separates}
use Rattle.sst_bbt_spec.proofs.laws.a_key_between_separates.Goals as goal

pub returns : goal.returns
returns c = between-separates
