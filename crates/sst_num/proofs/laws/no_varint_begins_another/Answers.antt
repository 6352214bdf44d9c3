use Rattle.sst_num.proofs.Varints.{varint-prefix}
use Rattle.sst_num.proofs.laws.no_varint_begins_another.Goals as goal

pub returns : goal.returns
returns c = varint-prefix
