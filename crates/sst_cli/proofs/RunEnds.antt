-- What follows for every command from how it ends: its status, and what it printed.
use Rattle.std.proofs.Common.{◌≡◌, ◌≢◌, ◌⊎◌, ℕ, List, refl, inl, inr}
use Rattle.std.specs.Io.KnownBytes.{append_known}
use Rattle.sst_cli.specs.Behaviour.{World, Behaviour, IsFault, HasFailed, IsStop, IsWhole, Ends, CallsFor, MayPrint}
use Rattle.sst_cli.specs.Printed.{Prints}
use Rattle.sst_cli.specs.declared.status.Status.{Status}
use Rattle.sst_cli.specs.declared.status.Status.TheVariants.{Done, Usage, Input, File, Exhausted, Device, Memory}

-- a run that was stopped ended with a fault
pub stop-fault : (before after : World) (status : Status) → IsStop before after status → IsFault status
stop-fault before after status (inl failed) = inl failed.0
stop-fault before after status (inr memory) = inr memory

-- one that was stopped and ended with Device had a counted fault
pub stop-device : (before after : World) (status : Status) → IsStop before after status → status ≡ Device → HasFailed before after
stop-device before after status (inl failed) device = failed.1
stop-device before after status (inr memory) device = absurd (cc (memory, device))

-- A run ends whole, of something that may be found, or is stopped.
pub whole_or_fault : (b : Behaviour) (before after : World) (status : Status) → Ends b before after status
    → IsFault status ⊎ ((found : b.Found) × b.IsFound before.told found × IsWhole b found before after status)
whole_or_fault b before after status (inl stopped) = inl (stop-fault before after status stopped.stop)
whole_or_fault b before after status (inr (found, is, inl whole)) = inr (found, is, whole)
whole_or_fault b before after status (inr (found, is, inr cut)) = inl (stop-fault before after status cut.stop)

pub called : (b : Behaviour) (before after : World) (status : Status) → Ends b before after status
    → IsFault status ⊎ CallsFor b before.told status
called b before after status ends =
    elim (whole_or_fault b before after status ends) [
      | inl fault ↦ inl fault
      | inr found ↦ inr (found.0, found.1, found.2.ends)
    ]

pub device : (b : Behaviour) (before after : World) (status : Status) → Ends b before after status → status ≡ Device
    → CallsFor b before.told Device ⊎ HasFailed before after
device b before after status (inl stopped) is = inr (stop-device before after status stopped.stop is)
device b before after status (inr (found, may, inl whole)) is = let both = whole.ends in inl (found, may, cc)
device b before after status (inr (found, may, inr cut)) is = inr (stop-device before after status cut.stop is)

pub printed : (b : Behaviour) (before after : World) (status : Status) → Ends b before after status
    → (after.written ≡ before.written) ⊎ ((text : List ℕ) × MayPrint b before.told text × Prints status text before.written after.written)
printed b before after status (inl stopped) = inl stopped.printed
printed b before after status (inr (found, may, inl whole)) = inr ((b.outcome found).text, (found, may, refl), inl whole.printed)
printed b before after status (inr (found, may, inr cut)) =
    inr ((b.outcome found).text, (found, may, refl), inr (stop-fault before after status cut.stop, (cut.count, cut.printed)))

-- these are no fault
pub not_done : (status : Status) → status ≡ Done → IsFault status → ⊥
not_done status is (inl device) = cc
not_done status is (inr memory) = cc

pub not_usage : (status : Status) → status ≡ Usage → IsFault status → ⊥
not_usage status is (inl device) = cc
not_usage status is (inr memory) = cc

pub not_input : (status : Status) → status ≡ Input → IsFault status → ⊥
not_input status is (inl device) = cc
not_input status is (inr memory) = cc

pub not_file : (status : Status) → status ≡ File → IsFault status → ⊥
not_file status is (inl device) = cc
not_file status is (inr memory) = cc

pub not_exhausted : (status : Status) → status ≡ Exhausted → IsFault status → ⊥
not_exhausted status is (inl device) = cc
not_exhausted status is (inr memory) = cc

not_either : (status : Status) → status ≢ Device → status ≢ Memory → IsFault status → ⊥
not_either status no_device no_memory (inl device) = no_device device
not_either status no_device no_memory (inr memory) = no_memory memory

-- a run that ends with a status that is no fault is whole
pub whole_unless : (b : Behaviour) (before after : World) (status : Status) → Ends b before after status → (IsFault status → ⊥)
    → (found : b.Found) × b.IsFound before.told found × IsWhole b found before after status
whole_unless b before after status ends none =
    elim (whole_or_fault b before after status ends) [
      | inl fault ↦ absurd (none fault)
      | inr found ↦ found
    ]

-- and its whole text is printed
pub whole_text : (b : Behaviour) (before after : World) (status : Status) → Ends b before after status → status ≢ Device → status ≢ Memory
    → (text : List ℕ) × MayPrint b before.told text × (after.written ≡ append_known before.written text)
whole_text b before after status ends no_device no_memory =
    let some = whole_unless b before after status ends (not_either status no_device no_memory) in
    ((b.outcome some.0).text, (some.0, some.1, refl), some.2.printed)
