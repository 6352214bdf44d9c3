use Rattle.std.proofs.Common.{refl, ◌∙◌}
use Rattle.sst_num.specs.declared.stops.Stop.TheVariants as stop
use Rattle.sst_cli.proofs.OneReading.{with_ok}
use Rattle.sst_cli.specs.ScanCommand.{scan_text}
use Rattle.sst_cli.specs.OpenFile.{done_with}
use Rattle.sst_cli.proofs.FileOpened.{carries-opened, carries-damaged}
use Rattle.sst_cli.proofs.commands.scan.scan.Goals as goal

pub returns-in-Ok : goal.returns-in-Ok
returns-in-Ok g c = λ left intake.
    let kept = c.in-Ok.ensures.kept in
    let quiet = with_ok c.open.result c.in-Ok.reader stop.Device _ c.in-Ok.is c.open.ensures.folder.hides_none in
    let after = c.print_all.ensures.folder in
    carries-opened c.args.line.name.now (λ blocks. done_with (scan_text c.args.line.snapshot blocks)) c.open.result c.in-Ok.reader kept.0 _ _ c.print_all.result _ c.in-Ok.is
    kept.1.1 c.open.ensures.absent kept.2 (after.0 ∙ c.open.ensures.folder.same_files) (after.1 ∙ quiet) refl refl (c.print_all.ensures.printed kept.0 kept.1)

pub returns-in-Err-Damage : goal.returns-in-Err-Damage
returns-in-Err-Damage g c = λ left intake.
    let told = rw c.in-Err-Damage.field-0-is at c.in-Err-Damage.is in
    let reads = rw c.in-Err-Damage.field-0-is at c.in-Err-Damage.ensures.told in
    carries-damaged c.args.line.name.now (λ blocks. done_with (scan_text c.args.line.snapshot blocks)) c.open.result c.in-Err-Damage.fault _ _ c.print_fault.result _ told
    c.open.ensures.absent reads c.open.ensures.folder.same_files c.open.ensures.folder.hides_none refl refl c.print_fault.ensures
