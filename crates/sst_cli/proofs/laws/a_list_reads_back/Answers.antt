use Rattle.sst_cli.proofs.ListRoundTrip.{read_input-lines}
use Rattle.sst_cli.proofs.laws.a_list_reads_back.Goals as goal

pub returns : goal.returns
returns c = read_input-lines
