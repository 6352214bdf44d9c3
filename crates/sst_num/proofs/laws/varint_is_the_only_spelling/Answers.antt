use Rattle.sst_num.proofs.Varints.{varint-only}
use Rattle.sst_num.proofs.laws.varint_is_the_only_spelling.Goals as goal

pub returns : goal.returns
returns c = varint-only
