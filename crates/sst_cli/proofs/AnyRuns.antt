-- What a run of any command comes to, by how it ends.
use Rattle.std.proofs.Common.{◌≡◌, ◌≢◌, ◌⊎◌, ℕ, List, Option, None, Some, option_and_then, Result, Ok, Err, IsTrue, refl, inl, inr}
use Rattle.std.specs.Io.KnownBytes.{append_known}
use Rattle.sst_key.specs.declared.calls.Call.{Call}
use Rattle.sst_cli.specs.InputReading.{read_calls}
use Rattle.sst_key.specs.declared.entries.Entry.{Entry}
use Rattle.sst_device.specs.Folder.{file_of, misses}
use Rattle.sst_bbt_spec.specs.Parts.{Part}
use Rattle.sst_bbt_read.specs.OpeningFaults.{FailsToOpen}
use Rattle.sst_bbt_read.specs.declared.bbt_fault.BbtFault.{BbtFault}
use Rattle.sst_cli.specs.Behaviour.{Told, World, IsFault, Ends, CallsFor}
use Rattle.sst_cli.specs.CallsCommand.{FoundCalls, Refused, Read, calls_outcome}
use Rattle.sst_cli.specs.Command.{Command, Write, Calls, Get, Scan, behaviour, file_read}
use Rattle.sst_cli.specs.NoCommand.{no_command, usage_text}
use Rattle.sst_cli.specs.GetCommand.{way_got_text}
use Rattle.sst_cli.specs.ScanCommand.{scan_text}
use Rattle.sst_cli.specs.OpenFile.{OpenFile, Absent, Damaged, Opened, done_with, file_outcome}
use Rattle.sst_cli.specs.WriteCommand.{write_outcome}
use Rattle.sst_cli.specs.declared.input.refusal.Refusal.{Refusal}
use Rattle.sst_cli.specs.declared.status.Status.{Status}
use Rattle.sst_cli.specs.declared.status.Status.TheVariants.{Done, Usage, Input, File, Exhausted, Device}
use Rattle.sst_cli.proofs.CallsRuns.{whole_file, device_found}
use Rattle.sst_cli.proofs.FileRuns.{reading_fault, reading_absent}
use Rattle.sst_cli.proofs.RunEnds.{whole_or_fault, whole_unless, not_usage, not_file, not_exhausted}

pub usage : (before after : World) (status : Status) → Ends no_command before after status
    → IsFault status ⊎ ((status ≡ Usage) × (after.written ≡ append_known before.written usage_text))
usage before after status ends =
    elim (whole_or_fault no_command before after status ends) [
      | inl fault ↦ inl fault
      | inr found ↦ inr (found.2.ends, found.2.printed)
    ]

-- ---- the statuses that a command has

write_status : (reading : Result (List Entry) Refusal) (status : Status) → status ≡ (write_outcome reading).status → (status ≡ Done) ⊎ (status ≡ Input)
write_status (Ok entries) status is = inl is
write_status (Err refusal) status is = inr is

calls_status : (found : FoundCalls) (status : Status) → status ≡ (calls_outcome found).status
    → (status ≡ Done) ⊎ ((status ≡ Input) ⊎ ((status ≡ File) ⊎ (status ≡ Device)))
calls_status (Refused refusal) status is = inr (inl is)
calls_status (Read calls Absent) status is = inr (inr (inr is))
calls_status (Read calls (Damaged fault)) status is = inr (inr (inl is))
calls_status (Read calls (Opened parts)) status is = inl is

neither_of : (status other : Status) → (status ≡ Done) ⊎ (status ≡ Input) → status ≡ other → (other ≡ Done → ⊥) → (other ≡ Input → ⊥) → ⊥
neither_of status other (inl done) is not_done not_input = not_done cc
neither_of status other (inr input) is not_done not_input = not_input cc

-- of a command that opens its file and prints a text
reading_status : (text : List Part → List ℕ) (found : OpenFile) (status : Status) → status ≡ (file_outcome (λ parts. done_with (text parts)) found).status
    → (status ≡ Done) ⊎ ((status ≡ Input) ⊎ ((status ≡ File) ⊎ (status ≡ Device)))
reading_status text Absent status is = inr (inr (inr is))
reading_status text (Damaged fault) status is = inr (inr (inl is))
reading_status text (Opened parts) status is = inl is

none_of : (status other : Status) → (status ≡ Done) ⊎ ((status ≡ Input) ⊎ ((status ≡ File) ⊎ (status ≡ Device))) → status ≡ other
    → (other ≡ Done → ⊥) → (other ≡ Input → ⊥) → (other ≡ File → ⊥) → (other ≡ Device → ⊥) → ⊥
none_of status other (inl done) is a b c d = a cc
none_of status other (inr (inl input)) is a b c d = b cc
none_of status other (inr (inr (inl file))) is a b c d = c cc
none_of status other (inr (inr (inr device))) is a b c d = d cc

usage_found : (command : Option Command) (found : (behaviour command).Found) (status : Status) → status ≡ ((behaviour command).outcome found).status
    → status ≡ Usage → command ≡ None
usage_found None found status ends is = refl
usage_found (Some (Write write)) found status ends is = absurd (neither_of status Usage (write_status found status ends) is (λ e. cc) (λ e. cc))
usage_found (Some (Calls name)) found status ends is = absurd (none_of status Usage (calls_status found status ends) is (λ e. cc) (λ e. cc) (λ e. cc) (λ e. cc))
usage_found (Some (Get line)) found status ends is =
    absurd (none_of status Usage (reading_status (way_got_text line.target) found status ends) is (λ e. cc) (λ e. cc) (λ e. cc) (λ e. cc))
usage_found (Some (Scan line)) found status ends is =
    absurd (none_of status Usage (reading_status (scan_text line.snapshot) found status ends) is (λ e. cc) (λ e. cc) (λ e. cc) (λ e. cc))

pub usage_only : (command : Option Command) (before after : World) (status : Status) → Ends (behaviour command) before after status
    → status ≡ Usage → command ≡ None
usage_only command before after status ends is =
    let found = whole_unless (behaviour command) before after status ends (not_usage status is) in
    usage_found command found.0 status found.2.ends is

exhausted_found : (command : Option Command) (found : (behaviour command).Found) (status : Status) → status ≡ ((behaviour command).outcome found).status
    → status ≡ Exhausted → ⊥
exhausted_found None found status ends is = cc
exhausted_found (Some (Write write)) found status ends is = neither_of status Exhausted (write_status found status ends) is (λ e. cc) (λ e. cc)
exhausted_found (Some (Calls name)) found status ends is = none_of status Exhausted (calls_status found status ends) is (λ e. cc) (λ e. cc) (λ e. cc) (λ e. cc)
exhausted_found (Some (Get line)) found status ends is =
    none_of status Exhausted (reading_status (way_got_text line.target) found status ends) is (λ e. cc) (λ e. cc) (λ e. cc) (λ e. cc)
exhausted_found (Some (Scan line)) found status ends is =
    none_of status Exhausted (reading_status (scan_text line.snapshot) found status ends) is (λ e. cc) (λ e. cc) (λ e. cc) (λ e. cc)

pub never : (command : Option Command) (before after : World) (status : Status) → Ends (behaviour command) before after status → status ≢ Exhausted
never command before after status ends is =
    let found = whole_unless (behaviour command) before after status ends (not_exhausted status is) in
    exhausted_found command found.0 status found.2.ends is

-- with File the fault of the file that the command reads is read
pub file_only : (command : Option Command) (before after : World) (status : Status) → Ends (behaviour command) before after status
    → status ≡ File → (name : List ℕ) × (option_and_then file_read command ≡ Some name)
    × ((file : List ℕ) → file_of before.told.held name ≡ Some file → (fault : BbtFault) × (FailsToOpen file fault))
file_only None before after status ends is =
    let found = whole_unless no_command before after status ends (not_file status is) in
    let same = found.2.ends in absurd (cc (same, is))
file_only (Some (Write write)) before after status ends is =
    let found = whole_unless (behaviour (Some (Write write))) before after status ends (not_file status is) in
    absurd (neither_of status File (write_status found.0 status found.2.ends) is (λ e. cc) (λ e. cc))
file_only (Some (Calls name)) before after status ends is =
    let found = whole_unless (behaviour (Some (Calls name))) before after status ends (not_file status is) in
    (name, refl, whole_file name before after status found.0 found.1 found.2 is)
file_only (Some (Get line)) before after status ends is = (line.name, refl, reading_fault line.name (way_got_text line.target) before after status ends is)
file_only (Some (Scan line)) before after status ends is = (line.name, refl, reading_fault line.name (scan_text line.snapshot) before after status ends is)

pub device : (command : Option Command) (told : Told) → CallsFor (behaviour command) told Device
    → (name : List ℕ) × (option_and_then file_read command ≡ Some name) × IsTrue (misses told.held name 0)
    × (command ≡ Some (Calls name) → (text : List ℕ) → told.left ≡ Some text → (calls : List Call) × (read_calls text ≡ Ok calls))
device None told found = let ends = found.2 in absurd (cc ends)
device (Some (Write write)) told found = absurd (neither_of Device Device (write_status found.0 Device found.2) refl (λ e. cc) (λ e. cc))
device (Some (Calls name)) told found =
    let some = device_found name told found.0 found.1 Device found.2 refl in
    (name, refl, some.0, λ same. some.1)
device (Some (Get line)) told found = (line.name, refl, reading_absent line.name (way_got_text line.target) told found.0 found.1 found.2, λ same. absurd cc)
device (Some (Scan line)) told found = (line.name, refl, reading_absent line.name (scan_text line.snapshot) told found.0 found.1 found.2, λ same. absurd cc)
