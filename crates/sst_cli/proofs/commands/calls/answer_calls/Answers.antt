use Rattle.std.proofs.Common.{refl, ◌∙◌}
use Rattle.sst_num.specs.declared.stops.Stop.TheVariants as stop
use Rattle.sst_cli.specs.CallsCommand.{answers_of}
use Rattle.sst_cli.specs.OpenFile.{Damaged, Opened, on_file}
use Rattle.sst_cli.proofs.Carried.{carries-printed}
use Rattle.sst_cli.proofs.FileFound.{file_opens, file_damaged}
use Rattle.sst_cli.proofs.OneReading.{with_ok, with_err}
use Rattle.sst_cli.proofs.commands.calls.answer_calls.Goals as goal

pub returns-in-Ok : goal.returns-in-Ok
returns-in-Ok g c = λ left intake.
    let kept = c.in-Ok.ensures.kept in
    let held = g.F.Folder.held c.args.files.now in
    let is = file_opens held c.args.name.now c.open.result c.in-Ok.reader kept.0 c.in-Ok.is c.open.ensures.absent kept.2 in
    let quiet = with_ok c.open.result c.in-Ok.reader stop.Device _ c.in-Ok.is c.open.ensures.folder.hides_none in
    let after = c.print_all.ensures.folder in
    let same = after.0 ∙ c.open.ensures.folder.same_files in
    carries-printed (on_file c.args.name.now (answers_of c.args.calls.now)) (Opened kept.0) _ _ c.print_all.result _ _ (kept.1.1, is)
    (same, refl) same (λ none. absurd none) (λ spared. tt) (after.1 ∙ quiet) refl (c.print_all.ensures.printed kept.0 kept.1)

pub returns-in-Err-Damage : goal.returns-in-Err-Damage
returns-in-Err-Damage g c = λ left intake.
    let fault = c.in-Err-Damage.fault in
    let told = rw c.in-Err-Damage.field-0-is at c.in-Err-Damage.is in
    let reads = rw c.in-Err-Damage.field-0-is at c.in-Err-Damage.ensures.told in
    let is = file_damaged (g.F.Folder.held c.args.files.now) c.args.name.now c.open.result fault told c.open.ensures.absent reads in
    let quiet = with_err c.open.result (stop.Damage fault) stop.Device _ told (λ e. cc) c.open.ensures.folder.hides_none in
    carries-printed (on_file c.args.name.now (answers_of c.args.calls.now)) (Damaged fault) _ _ c.print_fault.result _ _ is
    (c.open.ensures.folder.same_files, refl) c.open.ensures.folder.same_files (λ none. absurd none) (λ spared. tt) quiet refl c.print_fault.ensures
