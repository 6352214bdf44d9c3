use Rattle.sst_num.proofs.Varints.{varint-spells}
use Rattle.sst_num.proofs.laws.varint_is_the_spelling.Goals as goal

pub returns : goal.returns
returns c = varint-spells
