use Rattle.std.proofs.Common.{refl, inl, inr}
use Rattle.sst_cli.specs.CallsCommand.{calls_command}
use Rattle.sst_cli.specs.CallsCommand as found
use Rattle.sst_cli.specs.declared.input.entries.InputStop.TheVariants as stop
use Rattle.sst_device.specs.declared.folder.DevStop.TheVariants as device
use Rattle.sst_cli.proofs.CallsCarried.{carries-read}
use Rattle.sst_cli.proofs.Carried.{carries-printed, carries-fault}
use Rattle.sst_cli.proofs.OneReading.{with_ok, with_err}
use Rattle.sst_cli.proofs.Stops.{failed_stop, stop_failed, refused_apart}
use Rattle.sst_cli.proofs.commands.calls.calls.Goals as goal

pub returns-in-Ok : goal.returns-in-Ok
returns-in-Ok g c =
    let quiet = with_ok c.read_calls.result c.in-Ok.calls (stop.Device device.Failed) _ c.in-Ok.is c.read_calls.ensures.faults.hides_none in
    let intake = g.I.Intake.faults c.args.input.now in
    let carried = rw c.as_slice.ensures at (c.answer_calls.ensures (g.I.Intake.left c.read_calls.new.input) intake) in
    carries-read c.args.name.now c.in-Ok.calls _ _ (g.I.Intake.left c.args.input.now) (g.I.Intake.left c.read_calls.new.input) _ _ _ _ intake (g.I.Intake.faults c.read_calls.new.input) _ _ c.answer_calls.result _ _
    c.in-Ok.ensures.ok quiet carried

pub returns-in-Err-Refused : goal.returns-in-Err-Refused
returns-in-Err-Refused g c =
    let refusal = c.in-Err-Refused.refusal in
    let told = rw c.in-Err-Refused.field-0-is at c.in-Err-Refused.is in
    let quiet = with_err c.read_calls.result (stop.Refused refusal) (stop.Device device.Failed) _ told (refused_apart refusal device.Failed) c.read_calls.ensures.faults.hides_none in
    carries-printed (calls_command c.args.name.now) (found.Refused refusal) _ _ c.print_refusal.result _ _ (c.read_calls.ensures.refused refusal told)
    (refl, c.read_calls.ensures.near refusal told) refl (λ spared. refl) (λ none. absurd none) refl quiet c.print_refusal.ensures

pub returns-in-Err-Device : goal.returns-in-Err-Device
returns-in-Err-Device g c =
    let told = rw c.in-Err-Device.field-0-is at c.in-Err-Device.is in
    let faults = c.read_calls.ensures.faults in
    carries-fault (calls_command c.args.name.now) _ _ c.status_of.result _ _ _ c.status_of.ensures.fault
    (λ is. inr (inl (faults.cause (failed_stop c.read_calls.result c.in-Err-Device.stop told (c.status_of.ensures.device is)))))
    (λ failed. c.status_of.ensures.failed (stop_failed c.read_calls.result c.in-Err-Device.stop told failed))
    (elim faults.hides_none [ inl failed ↦ inl failed | inr quiet ↦ inr (refl, quiet) ]) refl refl
    refl (λ spared. refl) (λ none. absurd none)
