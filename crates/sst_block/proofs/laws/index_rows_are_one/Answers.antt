use Rattle.sst_block.proofs.OneReading.{one-pairs, some-pairs}
use Rattle.sst_block.proofs.laws.index_rows_are_one.Goals as goal

pub returns : goal.returns
returns c = record { one = one-pairs; some = some-pairs }
