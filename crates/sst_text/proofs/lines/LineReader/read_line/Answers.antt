use Rattle.sst_text.proofs.PastLine.{near_short}
use Rattle.sst_text.proofs.lines.LineReader.read_line.Goals as goal

pub returns-in-Some-clause-near : goal.returns-in-Some-clause-near
returns-in-Some-clause-near g c = near_short c.args.self.now
