-- What a run of `calls` comes to, by how it ends.
use Rattle.std.proofs.Common.{◌≡◌, ◌⊎◌, ℕ, zero, suc, List, [], take, Some, Ok, Err, IsTrue, refl, sym, ap, subst, ◌∙◌, inl, inr}
use Rattle.std.specs.Io.KnownBytes.{append_known}
use Rattle.sst_key.specs.declared.calls.Call.{Call}
use Rattle.sst_key.specs.declared.entries.Entry.{Entry}
use Rattle.sst_device.specs.Folder.{file_of, misses}
use Rattle.sst_text.specs.Taken.{IsTakenTo}
use Rattle.sst_bbt_spec.specs.BlockBased.{BlockBased, Opens}
use Rattle.sst_bbt_spec.specs.Parts.{Part}
use Rattle.sst_bbt_read.specs.OpeningFaults.{FailsToOpen}
use Rattle.sst_bbt_read.specs.declared.bbt_fault.BbtFault.{BbtFault}
use Rattle.sst_bbt_read.proofs.FaultsShown.{fails-shown}
use Rattle.sst_bbt_read.proofs.OpeningDecided.{opens-apart_fails}
use Rattle.sst_cli.specs.Behaviour.{Told, World, IsFault, IsWhole, Ends}
use Rattle.sst_cli.specs.CallsCommand.{Answered, AnsweredByWay, IsDamaged, FoundCalls, Refused, Read, AreFoundCalls, calls_command, calls_outcome}
use Rattle.sst_cli.specs.OpenFile.{OpenFile, Absent, Damaged, Opened, IsOpenFile}
use Rattle.sst_cli.specs.InputReading.{read_calls}
use Rattle.sst_cli.specs.Refusals.{refusal_text}
use Rattle.sst_cli.specs.Replies.{way_text}
use Rattle.sst_cli.specs.declared.input.refusal.Refusal.{Refusal}
use Rattle.sst_cli.specs.declared.status.Status.{Status}
use Rattle.sst_cli.specs.declared.status.Status.TheVariants.{Done, Input, File, Device}
use Rattle.sst_cli.proofs.CallsCarried.{file_not_input}
use Rattle.sst_cli.proofs.Carried.{append_known-nil}
use Rattle.sst_bbt_spec.proofs.PartsLead.{opens-one}
use Rattle.sst_cli.proofs.FileFound.{file_told, not_missed, there_not_missed}
use Rattle.sst_cli.proofs.ListAnswers.{stands-text}
use Rattle.sst_cli.proofs.OneReading.{same_ok, same_err, not_both}
use Rattle.sst_cli.proofs.RunEnds.{whole_or_fault, whole_unless, not_done, not_input, not_file}

-- what was read of an input that reads as these calls is these calls
whole_read : (name : List ℕ) (before after : World) (status : Status) (text : List ℕ) (calls : List Call) (found : FoundCalls)
    → AreFoundCalls name before.told found → IsWhole (calls_command name) found before after status
    → before.told.left ≡ Some text → read_calls text ≡ Ok calls
    → (file : OpenFile) × IsOpenFile before.told.held name file × IsWhole (calls_command name) (Read calls file) before after status
whole_read name before after status text calls (Refused refusal) is whole told reads = absurd (not_both (read_calls text) calls refusal reads (is text told))
whole_read name before after status text calls (Read some file) is whole told reads =
    (file, is.1, subst (λ (cs : List Call). IsWhole (calls_command name) (Read cs file) before after status) (same_ok (read_calls text) some calls (is.0 text told) reads) whole)

read_or_fault : (name : List ℕ) (before after : World) (status : Status) (text : List ℕ) (calls : List Call)
    → Ends (calls_command name) before after status → before.told.left ≡ Some text → read_calls text ≡ Ok calls
    → IsFault status ⊎ ((file : OpenFile) × IsOpenFile before.told.held name file × IsWhole (calls_command name) (Read calls file) before after status)
read_or_fault name before after status text calls ends told reads =
    elim (whole_or_fault (calls_command name) before after status ends) [
      | inl fault ↦ inl fault
      | inr found ↦ inr (whole_read name before after status text calls found.0 found.1 found.2 told reads)
    ]

-- ---- a file that opens

whole_answered : (name : List ℕ) (before after : World) (status : Status) (file text : List ℕ) (parts : List Part) (calls : List Call) (found : OpenFile)
    → IsOpenFile before.told.held name found → IsWhole (calls_command name) (Read calls found) before after status
    → Opens file parts → file_of before.told.held name ≡ Some file → before.told.left ≡ Some text
    → AnsweredByWay status parts calls before.told.held after.told.held after.told.left before.written after.written
whole_answered name before after status file text parts calls Absent is whole opens there told = absurd (not_missed before.told.held name file is there)
whole_answered name before after status file text parts calls (Damaged fault) is whole opens there told =
    absurd (opens-apart_fails file parts fault opens (file_told before.told.held name file (λ f. FailsToOpen f fault) is there))
whole_answered name before after status file text parts calls (Opened some) is whole opens there told =
    let same = opens-one file some parts (file_told before.told.held name file (λ f. Opens f some) is.1 there) opens in
    record {
      done = whole.ends;
      kept = whole.leaves.0;
      read = whole.leaves.1 text told;
      printed = whole.printed ∙ ap (λ (bs : List Part). append_known before.written (way_text bs calls)) same;
    }

pub answered : (name : List ℕ) (before after : World) (status : Status) (file text : List ℕ) (parts : List Part) (calls : List Call)
    → Ends (calls_command name) before after status → Opens file parts → file_of before.told.held name ≡ Some file
    → before.told.left ≡ Some text → read_calls text ≡ Ok calls
    → IsFault status ⊎ AnsweredByWay status parts calls before.told.held after.told.held after.told.left before.written after.written
answered name before after status file text parts calls ends opens there told reads =
    elim (read_or_fault name before after status text calls ends told reads) [
      | inl fault ↦ inl fault
      | inr found ↦ inr (whole_answered name before after status file text parts calls found.0 found.1 found.2 opens there told)
    ]

pub answered_as_list : (name : List ℕ) (before after : World) (status : Status) (file text : List ℕ) (entries : List Entry) (calls : List Call)
    → Ends (calls_command name) before after status → file_of before.told.held name ≡ Some file → BlockBased file entries
    → before.told.left ≡ Some text → read_calls text ≡ Ok calls
    → IsFault status ⊎ Answered status entries calls before.told.held after.told.held after.told.left before.written after.written
answered_as_list name before after status file text entries calls ends there stands told reads =
    elim (answered name before after status file text stands.parts calls ends stands.opens there told reads) [
      | inl fault ↦ inl fault
      | inr way ↦ inr (record {
        done = way.done;
        kept = way.kept;
        read = way.read;
        printed = way.printed ∙ ap (append_known before.written) (stands-text file entries stands calls);
      })
    ]

-- ---- a file that doesn't

whole_damaged : (name : List ℕ) (before after : World) (status : Status) (file text : List ℕ) (calls : List Call) (found : OpenFile)
    → IsOpenFile before.told.held name found → IsWhole (calls_command name) (Read calls found) before after status
    → file_of before.told.held name ≡ Some file → ((parts : List Part) → Opens file parts → ⊥) → before.told.left ≡ Some text
    → IsDamaged status file after.told.left before.written after.written
whole_damaged name before after status file text calls Absent is whole there closed told = absurd (not_missed before.told.held name file is there)
whole_damaged name before after status file text calls (Damaged fault) is whole there closed told =
    let first = file_told before.told.held name file (λ f. FailsToOpen f fault) is there in
    record {
      ends = whole.ends;
      read = whole.leaves.1 text told;
      fault = fault;
      first = first;
      shown = λ bytes. fails-shown file fault bytes first;
      printed = whole.printed;
    }
whole_damaged name before after status file text calls (Opened parts) is whole there closed told =
    absurd (closed parts (file_told before.told.held name file (λ f. Opens f parts) is.1 there))

pub damaged : (name : List ℕ) (before after : World) (status : Status) (file text : List ℕ) (calls : List Call)
    → Ends (calls_command name) before after status → file_of before.told.held name ≡ Some file
    → ((parts : List Part) → Opens file parts → ⊥) → before.told.left ≡ Some text → read_calls text ≡ Ok calls
    → IsFault status ⊎ IsDamaged status file after.told.left before.written after.written
damaged name before after status file text calls ends there closed told reads =
    elim (read_or_fault name before after status text calls ends told reads) [
      | inl fault ↦ inl fault
      | inr found ↦ inr (whole_damaged name before after status file text calls found.0 found.1 found.2 there closed told)
    ]

-- ---- an input that is refused

whole_refusal : (name : List ℕ) (before after : World) (status : Status) (text : List ℕ) (refusal : Refusal) (found : FoundCalls)
    → AreFoundCalls name before.told found → IsWhole (calls_command name) found before after status
    → before.told.left ≡ Some text → read_calls text ≡ Err refusal → IsWhole (calls_command name) (Refused refusal) before after status
whole_refusal name before after status text refusal (Refused some) is whole told reads =
    subst (λ (r : Refusal). IsWhole (calls_command name) (Refused r) before after status) (same_err (read_calls text) some refusal (is text told) reads) whole
whole_refusal name before after status text refusal (Read calls file) is whole told reads = absurd (not_both (read_calls text) calls refusal (is.0 text told) reads)

pub refused : (name : List ℕ) (before after : World) (status : Status) (text : List ℕ) (refusal : Refusal)
    → Ends (calls_command name) before after status → before.told.left ≡ Some text → read_calls text ≡ Err refusal
    → IsFault status ⊎ ((status ≡ Input) × (after.written ≡ append_known before.written (refusal_text refusal)))
refused name before after status text refusal ends told reads =
    elim (whole_or_fault (calls_command name) before after status ends) [
      | inl fault ↦ inl fault
      | inr found ↦ let whole = whole_refusal name before after status text refusal found.0 found.1 found.2 told reads in inr (whole.ends, whole.printed)
    ]

pub near : (name : List ℕ) (before after : World) (status : Status) (text : List ℕ) (refusal : Refusal)
    → Ends (calls_command name) before after status → before.told.left ≡ Some text → read_calls text ≡ Err refusal → status ≡ Input
    → IsTakenTo refusal.line text after.told.left
near name before after status text refusal ends told reads input =
    let found = whole_unless (calls_command name) before after status ends (not_input status input) in
    let whole = whole_refusal name before after status text refusal found.0 found.1 found.2 told reads in
    whole.leaves.1 text told

-- ---- a file that isn't there

missed_only : (name : List ℕ) (before : World) (found : OpenFile) → IsTrue (misses before.told.held name 0) → IsOpenFile before.told.held name found → found ≡ Absent
missed_only name before Absent missed is = refl
missed_only name before (Damaged fault) missed is = absurd (there_not_missed before.told.held name (λ f. FailsToOpen f fault) missed is)
missed_only name before (Opened parts) missed is = absurd (there_not_missed before.told.held name (λ f. Opens f parts) missed is.1)

whole_absent : (name : List ℕ) (before after : World) (status : Status) (found : FoundCalls)
    → AreFoundCalls name before.told found → IsWhole (calls_command name) found before after status → IsTrue (misses before.told.held name 0)
    → (status ≡ Input) ⊎ IsFault status
whole_absent name before after status (Refused refusal) is whole missed = inl whole.ends
whole_absent name before after status (Read calls file) is whole missed =
    let none = missed_only name before file missed is.1 in
    let absent = subst (λ (f : OpenFile). IsWhole (calls_command name) (Read calls f) before after status) none whole in
    inr (inl absent.ends)

pub absent : (name : List ℕ) (before after : World) (status : Status) → Ends (calls_command name) before after status
    → IsTrue (misses before.told.held name 0) → (status ≡ Input) ⊎ IsFault status
absent name before after status ends missed =
    elim (whole_or_fault (calls_command name) before after status ends) [
      | inl fault ↦ inr fault
      | inr found ↦ whole_absent name before after status found.0 found.1 found.2 missed
    ]

pub take-nil : (n : ℕ) → ◌≡◌ {A = List ℕ} (take n []) []
take-nil zero = refl
take-nil (suc n) = refl

-- its text has no byte
prints_none : (name : List ℕ) (before after : World) (status : Status) (text : List ℕ) (calls : List Call) (found : FoundCalls)
    → AreFoundCalls name before.told found → IsTrue (misses before.told.held name 0) → before.told.left ≡ Some text → read_calls text ≡ Ok calls
    → (calls_outcome found).text ≡ []
prints_none name before after status text calls (Refused refusal) is missed told reads = absurd (not_both (read_calls text) calls refusal reads (is text told))
prints_none name before after status text calls (Read some file) is missed told reads =
    ap (λ (f : OpenFile). (calls_outcome (Read some f)).text) (missed_only name before file missed is.1)

pub prints_nothing : (name : List ℕ) (before after : World) (status : Status) (text : List ℕ) (calls : List Call)
    → Ends (calls_command name) before after status → IsTrue (misses before.told.held name 0) → before.told.left ≡ Some text → read_calls text ≡ Ok calls
    → after.written ≡ before.written
prints_nothing name before after status text calls (inl stopped) missed told reads = stopped.printed
prints_nothing name before after status text calls (inr (found, is, inl whole)) missed told reads =
    let none = prints_none name before after status text calls found is missed told reads in
    whole.printed ∙ ap (append_known before.written) none ∙ sym (append_known-nil before.written)
prints_nothing name before after status text calls (inr (found, is, inr cut)) missed told reads =
    let none = prints_none name before after status text calls found is missed told reads in
    cut.printed ∙ ap (λ (t : List ℕ). append_known before.written (take cut.count t)) none
    ∙ ap (append_known before.written) (take-nil cut.count) ∙ sym (append_known-nil before.written)

-- ---- by the status

-- a run that ends with Done found calls and a file that opens
done_opened : (name : List ℕ) (before after : World) (status : Status) (found : FoundCalls)
    → AreFoundCalls name before.told found → IsWhole (calls_command name) found before after status → status ≡ Done
    → (calls : List Call) × (parts : List Part) × AreFoundCalls name before.told (Read calls (Opened parts))
    × IsWhole (calls_command name) (Read calls (Opened parts)) before after status
done_opened name before after status (Refused refusal) is whole done = let ends = whole.ends in absurd (cc (ends, done))
done_opened name before after status (Read calls Absent) is whole done = let ends = whole.ends in absurd (cc (ends, done))
done_opened name before after status (Read calls (Damaged fault)) is whole done = let ends = whole.ends in absurd (cc (ends, done))
done_opened name before after status (Read calls (Opened parts)) is whole done = (calls, parts, is, whole)

pub done : (name : List ℕ) (before after : World) (status : Status) (file text : List ℕ)
    → Ends (calls_command name) before after status → status ≡ Done → file_of before.told.held name ≡ Some file → before.told.left ≡ Some text
    → (parts : List Part) × (calls : List Call) × Opens file parts × (read_calls text ≡ Ok calls)
    × AnsweredByWay status parts calls before.told.held after.told.held after.told.left before.written after.written
done name before after status file text ends is there told =
    let found = whole_unless (calls_command name) before after status ends (not_done status is) in
    let opened = done_opened name before after status found.0 found.1 found.2 is in
    let opens = file_told before.told.held name file (λ f. Opens f opened.1) opened.2.1.1 there in (
      opened.1,
      opened.0,
      opens,
      opened.2.0 text told,
      record {
        done = is;
        kept = opened.3.leaves.0;
        read = opened.3.leaves.1 text told;
        printed = opened.3.printed;
      },
    )

pub done_only : (name : List ℕ) (before after : World) (status : Status) (file : List ℕ)
    → Ends (calls_command name) before after status → status ≡ Done → file_of before.told.held name ≡ Some file
    → (parts : List Part) × Opens file parts
done_only name before after status file ends is there =
    let found = whole_unless (calls_command name) before after status ends (not_done status is) in
    let opened = done_opened name before after status found.0 found.1 found.2 is in
    (opened.1, file_told before.told.held name file (λ f. Opens f opened.1) opened.2.1.1 there)

-- Done and File come after the whole input
done_or_file : (status : Status) → (status ≡ Done) ⊎ (status ≡ File) → IsFault status → ⊥
done_or_file status (inl done) fault = not_done status done fault
done_or_file status (inr file) fault = not_file status file fault

no_refusal : (status : Status) → (status ≡ Done) ⊎ (status ≡ File) → status ≡ Input → ⊥
no_refusal status (inl done) input = cc
no_refusal status (inr file) input = cc

whole_ended : (name : List ℕ) (before after : World) (status : Status) (text : List ℕ) (found : FoundCalls)
    → AreFoundCalls name before.told found → IsWhole (calls_command name) found before after status → (status ≡ Input → ⊥) → before.told.left ≡ Some text
    → ((calls : List Call) × (read_calls text ≡ Ok calls)) × (after.told.left ≡ Some [])
whole_ended name before after status text (Refused refusal) is whole none told = absurd (none whole.ends)
whole_ended name before after status text (Read calls file) is whole none told = ((calls, is.0 text told), whole.leaves.1 text told)

pub read_to_its_end : (name : List ℕ) (before after : World) (status : Status) (text : List ℕ)
    → Ends (calls_command name) before after status → (status ≡ Done) ⊎ (status ≡ File) → before.told.left ≡ Some text
    → ((calls : List Call) × (read_calls text ≡ Ok calls)) × (after.told.left ≡ Some [])
read_to_its_end name before after status text ends is told =
    let found = whole_unless (calls_command name) before after status ends (done_or_file status is) in
    whole_ended name before after status text found.0 found.1 found.2 (no_refusal status is) told

whole_input : (name : List ℕ) (before after : World) (status : Status) (text : List ℕ) (found : FoundCalls)
    → AreFoundCalls name before.told found → IsWhole (calls_command name) found before after status → status ≡ Input → before.told.left ≡ Some text
    → (refusal : Refusal) × (read_calls text ≡ Err refusal)
whole_input name before after status text (Refused refusal) is whole input told = (refusal, is text told)
whole_input name before after status text (Read calls file) is whole input told =
    let same = whole.ends in absurd (file_not_input calls file (cc (same, input)))

pub input_only : (name : List ℕ) (before after : World) (status : Status) (text : List ℕ)
    → Ends (calls_command name) before after status → status ≡ Input → before.told.left ≡ Some text
    → (refusal : Refusal) × (read_calls text ≡ Err refusal)
input_only name before after status text ends is told =
    let found = whole_unless (calls_command name) before after status ends (not_input status is) in
    whole_input name before after status text found.0 found.1 found.2 is told

-- with File the fault of a file that is told is read
pub whole_file : (name : List ℕ) (before after : World) (status : Status) (found : FoundCalls)
    → AreFoundCalls name before.told found → IsWhole (calls_command name) found before after status → status ≡ File
    → (file : List ℕ) → file_of before.told.held name ≡ Some file → (fault : BbtFault) × (FailsToOpen file fault)
whole_file name before after status (Refused refusal) is whole ends = let same = whole.ends in absurd (cc (same, ends))
whole_file name before after status (Read calls Absent) is whole ends = let same = whole.ends in absurd (cc (same, ends))
whole_file name before after status (Read calls (Damaged fault)) is whole ends =
    λ file there. (fault, file_told before.told.held name file (λ f. FailsToOpen f fault) is.1 there)
whole_file name before after status (Read calls (Opened parts)) is whole ends = let same = whole.ends in absurd (cc (same, ends))

pub whole_status : (name : List ℕ) (before after : World) (status : Status) (found : FoundCalls)
    → IsWhole (calls_command name) found before after status → (status ≡ Done) ⊎ ((status ≡ Input) ⊎ ((status ≡ File) ⊎ IsFault status))
whole_status name before after status (Refused refusal) whole = inr (inl whole.ends)
whole_status name before after status (Read calls Absent) whole = inr (inr (inr (inl whole.ends)))
whole_status name before after status (Read calls (Damaged fault)) whole = inr (inr (inl whole.ends))
whole_status name before after status (Read calls (Opened parts)) whole = inl whole.ends

pub statuses : (name : List ℕ) (before after : World) (status : Status) → Ends (calls_command name) before after status
    → (status ≡ Done) ⊎ ((status ≡ Input) ⊎ ((status ≡ File) ⊎ IsFault status))
statuses name before after status ends =
    elim (whole_or_fault (calls_command name) before after status ends) [
      | inl fault ↦ inr (inr (inr fault))
      | inr found ↦ whole_status name before after status found.0 found.2
    ]

-- with Device, but for a fault, the file isn't there, after the refusals of the input
pub device_found : (name : List ℕ) (told : Told) (found : FoundCalls) → AreFoundCalls name told found → (status : Status) → status ≡ (calls_outcome found).status → status ≡ Device
    → IsTrue (misses told.held name 0) × ((text : List ℕ) → told.left ≡ Some text → (calls : List Call) × (read_calls text ≡ Ok calls))
device_found name told (Refused refusal) is status ends device = absurd (cc (ends, device))
device_found name told (Read calls Absent) is status ends device = (is.1, λ text left. (calls, is.0 text left))
device_found name told (Read calls (Damaged fault)) is status ends device = absurd (cc (ends, device))
device_found name told (Read calls (Opened parts)) is status ends device = absurd (cc (ends, device))
