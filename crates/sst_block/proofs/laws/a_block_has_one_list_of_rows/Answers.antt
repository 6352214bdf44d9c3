use Rattle.sst_block.proofs.OneReading.{one-list, no-rows, some-fault}
use Rattle.sst_block.proofs.laws.a_block_has_one_list_of_rows.Goals as goal

pub returns : goal.returns
returns c = record { one = one-list; short = λ form bytes rows block. block.short; none = no-rows; fault = some-fault }
