use Rattle.sst_cli.proofs.Taken.{near_read}
use Rattle.sst_cli.proofs.input.entries.next_line.Goals as goal

pub returns-in-Long-clause-near : goal.returns-in-Long-clause-near
returns-in-Long-clause-near g c = λ short refusal is text told.
    near_read _ (g.I.Intake.left c.read_line.new.input) c.read_line.new.self c.in_ok-n.ensures.told (c.in_ok-n.ensures.near short) text told

pub returns-in-Unended-clause-near : goal.returns-in-Unended-clause-near
returns-in-Unended-clause-near g c = λ short refusal is text told.
    near_read _ (g.I.Intake.left c.read_line.new.input) c.read_line.new.self c.in_ok-n.ensures.told (c.in_ok-n.ensures.near short) text told
