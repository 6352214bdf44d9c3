use Rattle.std.proofs.Common.{◌-◌, length}
use Rattle.std.specs.Io.KnownBytes.{prepend_known}
use Rattle.sst_cli.proofs.CallReading.{ReadingCalls}
use Rattle.sst_cli.proofs.input.calls.read_calls.Given as goal

abbrev pub invariant-loop-calls : goal.invariant-loop-calls
invariant-loop-calls g l =
    ReadingCalls (g.I.Intake.left l.initial.input) (prepend_known l.lines (g.I.Intake.left l.input)) l.lines l.calls (g.I.Intake.faults l.initial.input) (g.I.Intake.faults l.input)

abbrev pub decreases-loop-calls : goal.decreases-loop-calls
decreases-loop-calls g l = 1048576 - length l.calls
