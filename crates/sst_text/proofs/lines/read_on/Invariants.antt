use Rattle.std.proofs.Common.{◌-◌, vec_len}
use Rattle.sst_text.proofs.ReadOn.{ReadOn}
use Rattle.sst_text.proofs.lines.read_on.Given as goal

abbrev pub invariant-loop-bytes : goal.invariant-loop-bytes
invariant-loop-bytes g l =
    ReadOn (g.I.Intake.left l.initial.input) (g.I.Intake.left l.input) l.initial.bytes.items l.bytes.items (g.I.Intake.faults l.initial.input) (g.I.Intake.faults l.input)

abbrev pub decreases-loop-bytes : goal.decreases-loop-bytes
decreases-loop-bytes g l = 40000001 - vec_len l.bytes
