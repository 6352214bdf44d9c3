use Rattle.std.proofs.Common.{◌-◌, ◌^◌}
use Rattle.std.specs.Io.KnownBytes.{prepend_known}
use Rattle.sst_cli.proofs.Adding.{Adding}
use Rattle.sst_cli.proofs.input.entries.add_lines.Given as goal

abbrev pub invariant-loop-lines : goal.invariant-loop-lines
invariant-loop-lines g l =
    Adding (g.I.Intake.left l.initial.input) (prepend_known l.lines (g.I.Intake.left l.input)) l.lines l.initial.writer l.writer l.file.items (g.I.Intake.faults l.initial.input) (g.I.Intake.faults l.input)

abbrev pub decreases-loop-lines : goal.decreases-loop-lines
decreases-loop-lines g l = 2 ^ 28 - l.writer.weight
