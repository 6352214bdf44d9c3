use Rattle.sst_bbt_write.proofs.Stands.{table_is_written}
use Rattle.sst_bbt_write.proofs.laws.written_file_stands_for_its_list.Goals as goal

pub returns : goal.returns
returns c = table_is_written
