use Rattle.sst_num.proofs.NumberReading.{varint_at-varint}
use Rattle.sst_num.proofs.laws.varint_is_taken_again.Goals as goal

pub returns : goal.returns
returns c = varint_at-varint
