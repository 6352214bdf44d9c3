use Rattle.std.proofs.Common.{Some, refl, ap, ◌∙◌}
use Rattle.std.specs.Option.{option_map}
use Rattle.sst_cli.specs.Command.{seen}
use Rattle.sst_cli.specs.GetCommand.{get_command}
use Rattle.sst_cli.specs.ScanCommand.{scan_command}
use Rattle.sst_cli.specs.NoCommand.{no_command}
use Rattle.sst_cli.specs.declared.command.Command.TheVariants as code
use Rattle.sst_cli.proofs.Carried.{carries-seen, carries-spared, carries-untaken}
use Rattle.sst_cli.proofs.program.carry_out.Goals as goal

pub returns-in-Some-Write : goal.returns-in-Some-Write
returns-in-Some-Write g c =
    let step = c.in-Some-Write in
    carries-seen c.args.command step.field-0 (code.Write step.line) _ _ c.write.result _ _ step.is step.field-0-is c.write.ensures

pub returns-in-Some-Get : goal.returns-in-Some-Get
returns-in-Some-Get g c =
    let step = c.in-Some-Get in
    let line = get_command (record { name = step.line.name.now; target = step.line.target }) in
    let carried = carries-untaken line _ _ c.get.result _ _ _ refl
    (c.get.ensures (g.I.Intake.left c.args.input.now) (g.I.Intake.faults c.args.input.now)) in
    carries-seen c.args.command step.field-0 (code.Get step.line) _ _ c.get.result _ _ step.is step.field-0-is carried

pub returns-in-Some-Scan : goal.returns-in-Some-Scan
returns-in-Some-Scan g c =
    let step = c.in-Some-Scan in
    let line = scan_command (record { name = step.line.name.now; snapshot = step.line.snapshot }) in
    let carried = carries-untaken line _ _ c.scan.result _ _ _ refl
    (c.scan.ensures (g.I.Intake.left c.args.input.now) (g.I.Intake.faults c.args.input.now)) in
    carries-seen c.args.command step.field-0 (code.Scan step.line) _ _ c.scan.result _ _ step.is step.field-0-is carried

pub returns-in-None : goal.returns-in-None
returns-in-None g c =
    let none = c.in-None.is in
    rw none (carries-spared no_command _ _ c.print_usage.result _ _ _ _ refl refl
    (c.print_usage.ensures (g.F.Folder.held c.args.files.now) (g.I.Intake.left c.args.input.now) (g.F.Folder.faults c.args.files.now) (g.I.Intake.faults c.args.input.now)))

pub write-requires : goal.write-requires
write-requires g c =
    let step = c.in-Some-Write in
    let whole = step.is ∙ ap Some step.field-0-is in
    c.requires (record { name = step.line.name.now; options = step.line.options }) (ap (option_map seen) whole)
