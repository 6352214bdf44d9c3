use Rattle.sst_num.proofs.NumberReading.{varint32_at-varint}
use Rattle.sst_num.proofs.laws.varint32_is_taken_again.Goals as goal

pub returns : goal.returns
returns c = varint32_at-varint
