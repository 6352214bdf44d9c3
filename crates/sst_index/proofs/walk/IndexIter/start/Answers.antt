use Rattle.std.proofs.Common.{refl}
use Rattle.sst_index.proofs.walk.IndexIter.start.Goals as goal

pub returns : goal.returns
returns c = λ pairs says. record { says = says; user_key_is = refl; walks = c.start.ensures.within says.rows says.block }
