use Rattle.std.proofs.Common.{Ok, Err, refl, inl, inr}
use Rattle.sst_cli.specs.WriteCommand.{write_command}
use Rattle.sst_cli.specs.Words.{WriteLine}
use Rattle.sst_cli.specs.declared.input.entries.InputStop.TheVariants as stop
use Rattle.sst_device.specs.declared.folder.DevStop.TheVariants as device
use Rattle.sst_cli.proofs.Carried.{carries-printed, carries-fault}
use Rattle.sst_cli.proofs.OneReading.{with_ok, with_err}
use Rattle.sst_cli.proofs.Stops.{failed_stop, stop_failed, refused_apart}
use Rattle.sst_cli.proofs.commands.write.write.Goals as goal

pub returns-in-Ok : goal.returns-in-Ok
returns-in-Ok g c =
    let line : WriteLine = record { name = c.args.line.name.now; options = c.args.line.options } in
    let made = c.in-Ok.ensures.ok in
    let quiet = with_ok c.produce.result c.in-Ok.count (stop.Device device.Failed) _ c.in-Ok.is c.produce.ensures.hides_none in
    let printed = rw made.counted at c.print_done.ensures in
    carries-printed (write_command line) (Ok made.entries) _ _ c.print_done.result _ _ made.said (made.file, made.read) c.produce.ensures.others (λ none. absurd none) (λ none. absurd none) quiet.0 quiet.1 printed

pub returns-in-Err-Refused : goal.returns-in-Err-Refused
returns-in-Err-Refused g c =
    let line : WriteLine = record { name = c.args.line.name.now; options = c.args.line.options } in
    let refusal = c.in-Err-Refused.refusal in
    let told = rw c.in-Err-Refused.field-0-is at c.in-Err-Refused.is in
    let quiet = with_err c.produce.result (stop.Refused refusal) (stop.Device device.Failed) _ told (refused_apart refusal device.Failed) c.produce.ensures.hides_none in
    carries-printed (write_command line) (Err refusal) _ _ c.print_refusal.result _ _ (c.produce.ensures.refused refusal told)
    (c.produce.ensures.begun refusal told, c.produce.ensures.near refusal told) c.produce.ensures.others (λ none. absurd none) (λ none. absurd none) quiet.0 quiet.1 c.print_refusal.ensures

pub returns-in-Err-Device : goal.returns-in-Err-Device
returns-in-Err-Device g c =
    let line : WriteLine = record { name = c.args.line.name.now; options = c.args.line.options } in
    let told = rw c.in-Err-Device.field-0-is at c.in-Err-Device.is in
    carries-fault (write_command line) _ _ c.status_of.result _ _ _ c.status_of.ensures.fault
    (λ is. elim (c.produce.ensures.failed (failed_stop c.produce.result c.in-Err-Device.stop told (c.status_of.ensures.device is))) [ inl folder ↦ inl folder | inr intake ↦ inr (inl intake) ])
    (λ failed. c.status_of.ensures.failed (stop_failed c.produce.result c.in-Err-Device.stop told failed)) c.produce.ensures.hides_none refl refl
    c.produce.ensures.others (λ none. absurd none) (λ none. absurd none)
