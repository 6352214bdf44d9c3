use Rattle.sst_cli.proofs.CallRoundTrip.{read_calls-text}
use Rattle.sst_cli.proofs.laws.a_call_list_reads_back.Goals as goal

pub returns : goal.returns
returns c = read_calls-text
