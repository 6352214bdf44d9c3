-- How a function that carries out a command comes to its clause, whatever the command.
use Rattle.std.proofs.Common.{◌≡◌, ◌⊎◌, ℕ, List, [], Option, None, Some, refl, sym, ap, subst, ◌∙◌, inl, inr}
use Rattle.std.specs.Io.KnownBytes.{append_known}
use Rattle.std.proofs.lemmas.List.{append-nil}
use Rattle.sst_device.specs.Faults.{Rose}
use Rattle.sst_device.specs.Folder.{Files}
use Rattle.sst_cli.specs.Behaviour.{World, Outcome, Behaviour, IsFault, IsStop, HasFailed, HidesNone, Ends, Carries}
use Rattle.std.specs.Option.{option_map}
use Rattle.sst_cli.specs.Command.{Command, Write, Calls, Get, Scan, behaviour, seen}
use Rattle.sst_cli.specs.declared.command.Command.{Command as Code}
use Rattle.sst_cli.specs.Printed.{IsPrinted}
use Rattle.sst_cli.specs.declared.status.Status.{Status}
use Rattle.sst_cli.specs.declared.status.Status.TheVariants.{Device, Memory}

-- nothing more is what was there
pub append_known-nil : (known : Option (List ℕ)) → known ≡ append_known known []
append_known-nil None = refl
append_known-nil (Some bytes) = ap Some (sym (append-nil bytes))

-- a fault that the sink counted stopped the run
stop-sink : (before after : World) (status : Status) → IsFault status → (status ≡ Device → Rose before.sink after.sink) → IsStop before after status
stop-sink before after status (inl device) cause = inl (device, inr (inr (cause device)))
stop-sink before after status (inr memory) cause = inr memory

-- something was found, and its text was printed or cut short
ends-printed : (b : Behaviour) (found : b.Found) (before after : World) (status : Status)
    → b.IsFound before.told found → b.Leaves found before.told after.told
    → IsPrinted status (b.outcome found) before.written after.written before.sink after.sink → Ends b before after status
ends-printed b found before after status is leaves (inl whole) =
    inr (found, is, inl (record { ends = whole.ends; leaves = leaves; printed = whole.printed }))
ends-printed b found before after status is leaves (inr short) =
    inr (found, is, inr (record { stop = stop-sink before after status short.ends short.faults.cause; count = short.count; printed = short.printed }))

-- where neither the folder nor the input failed
hides-either : (before after : World) (status : Status) → after.folder ≡ before.folder → after.intake ≡ before.intake
    → (status ≡ Device) ⊎ (after.sink ≡ before.sink) → HidesNone before after status
hides-either before after status folder intake (inl device) = inl device
hides-either before after status folder intake (inr quiet) = inr (folder, (intake, quiet))

hides-printed : (outcome : Outcome) (before after : World) (status : Status) → after.folder ≡ before.folder → after.intake ≡ before.intake
    → IsPrinted status outcome before.written after.written before.sink after.sink → HidesNone before after status
hides-printed outcome before after status folder intake (inl whole) = inr (folder, (intake, whole.quiet))
hides-printed outcome before after status folder intake (inr short) = hides-either before after status folder intake short.faults.hides_none

-- the clause, where something was found and only the output may have failed
pub carries-printed : (b : Behaviour) (found : b.Found) (before after : World) (status : Status) (P Q : Type 0)
    → b.IsFound before.told found → b.Leaves found before.told after.told → b.MayChange before.told.held after.told.held
    → (b.SparesFolder before.told status → P) → (b.SparesInput before.told status → Q)
    → after.folder ≡ before.folder → after.intake ≡ before.intake
    → IsPrinted status (b.outcome found) before.written after.written before.sink after.sink → Carries b before after status P Q
carries-printed b found before after status P Q is leaves changes folder_spared input_spared folder intake printed = record {
  ends = ends-printed b found before after status is leaves printed;
  changes = changes;
  hides_none = hides-printed (b.outcome found) before after status folder intake printed;
  spares_folder = folder_spared;
  spares_input = input_spared;
}

-- a fault with a counted cause stopped the run
stop-caused : (before after : World) (status : Status) → IsFault status → (status ≡ Device → HasFailed before after) → IsStop before after status
stop-caused before after status (inl device) cause = inl (device, cause device)
stop-caused before after status (inr memory) cause = inr memory

-- nothing was counted, or the status says so
hides-told : (before after : World) (status : Status) (P : Type 0) → (P → status ≡ Device)
    → P ⊎ ((after.folder ≡ before.folder) × (after.intake ≡ before.intake)) → after.sink ≡ before.sink → HidesNone before after status
hides-told before after status P device (inl failed) quiet = inl (device failed)
hides-told before after status P device (inr none) quiet = inr (none.0, (none.1, quiet))

-- the clause, where a fault of the folder or the input, which is told as `Failed`, or out of memory, stopped the run
-- before anything was printed
pub carries-fault : (b : Behaviour) (before after : World) (status : Status) (P Q Failed : Type 0)
    → IsFault status → (status ≡ Device → HasFailed before after) → (Failed → status ≡ Device)
    → Failed ⊎ ((after.folder ≡ before.folder) × (after.intake ≡ before.intake)) → after.sink ≡ before.sink → after.written ≡ before.written
    → b.MayChange before.told.held after.told.held → (b.SparesFolder before.told status → P) → (b.SparesInput before.told status → Q)
    → Carries b before after status P Q
carries-fault b before after status P Q Failed fault cause failed hides sink printed changes folder_spared input_spared = record {
  ends = inl (record { stop = stop-caused before after status fault cause; printed = printed });
  changes = changes;
  hides_none = hides-told before after status Failed failed hides sink;
  spares_folder = folder_spared;
  spares_input = input_spared;
}

-- out of memory before anything was touched
pub carries-memory : (b : Behaviour) (before after : World) (status : Status) (P Q : Type 0) → status ≡ Memory
    → after.folder ≡ before.folder → after.intake ≡ before.intake → after.sink ≡ before.sink → after.written ≡ before.written
    → b.MayChange before.told.held after.told.held → P → Q → Carries b before after status P Q
carries-memory b before after status P Q memory folder intake sink printed changes same_folder same_input = record {
  ends = inl (record { stop = inr memory; printed = printed });
  changes = changes;
  hides_none = inr (folder, (intake, sink));
  spares_folder = λ spared. same_folder;
  spares_input = λ spared. same_input;
}

-- where the folder and the input weren't handed on
pub carries-spared : (b : Behaviour) (before after : World) (status : Status) (P Q R S : Type 0) → R → S → Carries b before after status P Q → Carries b before after status R S
carries-spared b before after status P Q R S folder input carried = record {
  ends = carried.ends;
  changes = carried.changes;
  hides_none = carried.hides_none;
  spares_folder = λ spared. folder;
  spares_input = λ spared. input;
}

-- where the input wasn't handed on
pub carries-untaken : (b : Behaviour) (before after : World) (status : Status) (P Q S : Type 0) → S → Carries b before after status P Q → Carries b before after status P S
carries-untaken b before after status P Q S input carried = record {
  ends = carried.ends;
  changes = carried.changes;
  hides_none = carried.hides_none;
  spares_folder = carried.spares_folder;
  spares_input = λ spared. input;
}

-- any command may change nothing
pub may-keep : (command : Option Command) (held : Option Files) → (behaviour command).MayChange held held
may-keep None held = refl
may-keep (Some (Write line)) held = inl refl
may-keep (Some (Calls name)) held = refl
may-keep (Some (Get line)) held = refl
may-keep (Some (Scan line)) held = refl

-- the command that the code has
pub carries-seen : (command : Option Code) (some other : Code) (before after : World) (status : Status) (P Q : Type 0) → command ≡ Some some → some ≡ other
    → Carries (behaviour (Some (seen other))) before after status P Q → Carries (behaviour (option_map seen command)) before after status P Q
carries-seen command some other before after status P Q is same carried =
    subst (λ (o : Option Code). Carries (behaviour (option_map seen o)) before after status P Q) (sym (is ∙ ap Some same)) carried
