-- A `calls` whose input is read is carried out as a command that opens its file.
use Rattle.std.proofs.Common.{◌≡◌, ◌⊎◌, ℕ, List, [], Option, Some, Ok, sym, subst, inl, inr}
use Rattle.sst_key.specs.declared.calls.Call.{Call}
use Rattle.sst_device.specs.Folder.{Files}
use Rattle.sst_cli.specs.Behaviour.{World, InputIs, Ends, Carries, world}
use Rattle.sst_cli.specs.CallsCommand.{Read, IsRefusedInput, answers_of, calls_command}
use Rattle.sst_cli.specs.OpenFile.{OpenFile, Absent, Damaged, Opened, file_outcome, on_file}
use Rattle.sst_cli.specs.InputReading.{read_calls}
use Rattle.sst_cli.specs.declared.status.Status.{Status}
use Rattle.sst_cli.specs.declared.status.Status.TheVariants.{Input}
use Rattle.sst_cli.proofs.OneReading.{not_both}
use Rattle.sst_cli.proofs.RunEnds.{whole_or_fault, not_input}

-- what is answered of a file isn't Input
pub file_not_input : (calls : List Call) (file : OpenFile) → (file_outcome (answers_of calls) file).status ≡ Input → ⊥
file_not_input calls Absent is = cc
file_not_input calls (Damaged fault) is = cc
file_not_input calls (Opened blocks) is = cc

never_input : (name : List ℕ) (calls : List Call) (before after : World) (status : Status)
    → Ends (on_file name (answers_of calls)) before after status → status ≡ Input → ⊥
never_input name calls before after status ends is =
    elim (whole_or_fault (on_file name (answers_of calls)) before after status ends) [
      | inl fault ↦ not_input status is fault
      | inr found ↦ file_not_input calls found.0 (let same = found.2.ends in cc)
    ]

ends-read : (name : List ℕ) (calls : List Call) (held new : Option Files) (left later written now : Option (List ℕ)) (folder counted intake sink put : ℕ) (status : Status)
    → InputIs left (λ text. read_calls text ≡ Ok calls) → InputIs left (λ text. later ≡ Some [])
    → Ends (on_file name (answers_of calls)) (world held later written folder intake sink) (world new later now counted intake put) status
    → Ends (calls_command name) (world held left written folder intake sink) (world new later now counted intake put) status
ends-read name calls held new left later written now folder counted intake sink put status reads ended (inl stopped) =
    inl (record { stop = stopped.stop; printed = stopped.printed })
ends-read name calls held new left later written now folder counted intake sink put status reads ended (inr (file, is, inl whole)) =
    inr (Read calls file, (reads, is), inl (record { ends = whole.ends; leaves = (whole.leaves.0, ended); printed = whole.printed }))
ends-read name calls held new left later written now folder counted intake sink put status reads ended (inr (file, is, inr cut)) =
    inr (Read calls file, (reads, is), inr (record { stop = cut.stop; count = cut.count; printed = cut.printed }))

-- where the input reads as calls, the folder is touched
spares-read : (name : List ℕ) (calls : List Call) (left : Option (List ℕ)) (before after : World) (status : Status) (P : Type 0)
    → InputIs left (λ text. read_calls text ≡ Ok calls) → Ends (on_file name (answers_of calls)) before after status
    → (status ≡ Input) ⊎ IsRefusedInput left → P
spares-read name calls left before after status P reads ends (inl input) = absurd (never_input name calls before after status ends input)
spares-read name calls left before after status P reads ends (inr (text, refusal, told, refused)) =
    absurd (not_both (read_calls text) calls refusal (reads text told) refused)

carries-same : (name : List ℕ) (calls : List Call) (held new : Option Files) (left later written now : Option (List ℕ)) (folder counted intake sink put : ℕ) (status : Status) (P Q : Type 0)
    → InputIs left (λ text. read_calls text ≡ Ok calls) → InputIs left (λ text. later ≡ Some [])
    → Carries (on_file name (answers_of calls)) (world held later written folder intake sink) (world new later now counted intake put) status P (Unit {0})
    → Carries (calls_command name) (world held left written folder intake sink) (world new later now counted intake put) status P Q
carries-same name calls held new left later written now folder counted intake sink put status P Q reads ended carried = record {
  ends = ends-read name calls held new left later written now folder counted intake sink put status reads ended carried.ends;
  changes = carried.changes;
  hides_none = carried.hides_none;
  spares_folder = spares-read name calls left (world held later written folder intake sink) (world new later now counted intake put) status P reads carried.ends;
  spares_input = λ none. absurd none;
}

-- the input was read to its end, and no fault of it was counted
pub carries-read : (name : List ℕ) (calls : List Call) (held new : Option Files) (left later written now : Option (List ℕ)) (folder counted intake taken sink put : ℕ) (status : Status) (P Q : Type 0)
    → InputIs left (λ text. (read_calls text ≡ Ok calls) × (later ≡ Some [])) → taken ≡ intake
    → Carries (on_file name (answers_of calls)) (world held later written folder intake sink) (world new later now counted intake put) status P (Unit {0})
    → Carries (calls_command name) (world held left written folder intake sink) (world new later now counted taken put) status P Q
carries-read name calls held new left later written now folder counted intake taken sink put status P Q reads same carried =
    subst (λ n. Carries (calls_command name) (world held left written folder intake sink) (world new later now counted n put) status P Q) (sym same)
    (carries-same name calls held new left later written now folder counted intake sink put status P Q (λ text told. (reads text told).0) (λ text told. (reads text told).1) carried)
