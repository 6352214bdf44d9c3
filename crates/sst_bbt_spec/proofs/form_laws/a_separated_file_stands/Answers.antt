use Rattle.sst_bbt_spec.proofs.Stands.{separated-stands}
use Rattle.sst_bbt_spec.proofs.form_laws.a_separated_file_stands.Goals as goal

pub returns : goal.returns
returns c = separated-stands
