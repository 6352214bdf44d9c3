use Rattle.sst_text.proofs.LineRoundTrip.{entry_of_line-entry_line}
use Rattle.sst_text.proofs.laws.an_entry_line_reads_back.Goals as goal

pub returns : goal.returns
returns c = entry_of_line-entry_line
