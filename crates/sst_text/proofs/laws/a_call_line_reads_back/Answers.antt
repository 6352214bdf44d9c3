use Rattle.sst_text.proofs.CallRoundTrip.{call_of_line-call_line}
use Rattle.sst_text.proofs.laws.a_call_line_reads_back.Goals as goal

pub returns : goal.returns
returns c = call_of_line-call_line
