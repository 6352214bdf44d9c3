use Rattle.sst_meta.proofs.OneRestart.{one-restart}
use Rattle.sst_meta.proofs.laws.properties_have_one_restart.Goals as goal

pub returns : goal.returns
returns c = λ pairs few. one-restart 65536 pairs few
