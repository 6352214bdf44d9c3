-- What a run of a command comes to that opens its file and prints a text, by how it ends.
use Rattle.std.proofs.Common.{◌≡◌, ◌⊎◌, ℕ, List, [], Some, IsTrue, take, refl, sym, ap, subst, ◌∙◌, inl, inr}
use Rattle.std.specs.Io.KnownBytes.{append_known}
use Rattle.sst_device.specs.Folder.{file_of, misses}
use Rattle.sst_bbt_spec.specs.BlockBased.{Opens}
use Rattle.sst_bbt_spec.specs.Parts.{Part}
use Rattle.sst_bbt_read.specs.OpeningFaults.{FailsToOpen}
use Rattle.sst_bbt_read.specs.declared.bbt_fault.BbtFault.{BbtFault}
use Rattle.sst_bbt_read.proofs.FaultsShown.{fails-shown}
use Rattle.sst_bbt_read.proofs.OpeningDecided.{opens-apart_fails}
use Rattle.sst_cli.specs.Behaviour.{Told, World, IsFault, IsWhole, Ends}
use Rattle.sst_cli.specs.OpenFile.{OpenFile, Absent, Damaged, Opened, IsOpenFile, HasShown, TellsDamage, done_with, file_outcome, prints_of_file}
use Rattle.sst_cli.specs.declared.status.Status.{Status}
use Rattle.sst_cli.specs.declared.status.Status.TheVariants.{Done, File, Device}
use Rattle.sst_cli.proofs.CallsRuns.{take-nil}
use Rattle.sst_cli.proofs.Carried.{append_known-nil}
use Rattle.sst_bbt_spec.proofs.PartsLead.{opens-one}
use Rattle.sst_cli.proofs.FileFound.{file_told, not_missed, there_not_missed}
use Rattle.sst_cli.proofs.RunEnds.{whole_or_fault, whole_unless, not_done, not_file}

-- ---- a file that opens

whole_printed : (name : List ℕ) (text : List Part → List ℕ) (before after : World) (status : Status) (file : List ℕ) (parts : List Part) (found : OpenFile)
    → IsOpenFile before.told.held name found → IsWhole (prints_of_file name text) found before after status
    → Opens file parts → file_of before.told.held name ≡ Some file → HasShown status (text parts) before after
whole_printed name text before after status file parts Absent is whole opens there = absurd (not_missed before.told.held name file is there)
whole_printed name text before after status file parts (Damaged fault) is whole opens there =
    absurd (opens-apart_fails file parts fault opens (file_told before.told.held name file (λ f. FailsToOpen f fault) is there))
whole_printed name text before after status file parts (Opened some) is whole opens there =
    let same = opens-one file some parts (file_told before.told.held name file (λ f. Opens f some) is.1 there) opens in
    record {
      done = whole.ends;
      kept = whole.leaves.0;
      left = whole.leaves.1;
      printed = whole.printed ∙ ap (λ (bs : List Part). append_known before.written (text bs)) same;
    }

pub printed : (name : List ℕ) (text : List Part → List ℕ) (before after : World) (status : Status) (file : List ℕ) (parts : List Part)
    → Ends (prints_of_file name text) before after status → Opens file parts → file_of before.told.held name ≡ Some file
    → IsFault status ⊎ HasShown status (text parts) before after
printed name text before after status file parts ends opens there =
    elim (whole_or_fault (prints_of_file name text) before after status ends) [
      | inl fault ↦ inl fault
      | inr found ↦ inr (whole_printed name text before after status file parts found.0 found.1 found.2 opens there)
    ]

-- ---- a file that doesn't

whole_damaged : (name : List ℕ) (text : List Part → List ℕ) (before after : World) (status : Status) (file : List ℕ) (found : OpenFile)
    → IsOpenFile before.told.held name found → IsWhole (prints_of_file name text) found before after status
    → file_of before.told.held name ≡ Some file → ((parts : List Part) → Opens file parts → ⊥) → TellsDamage status file before after
whole_damaged name text before after status file Absent is whole there closed = absurd (not_missed before.told.held name file is there)
whole_damaged name text before after status file (Damaged fault) is whole there closed =
    let first = file_told before.told.held name file (λ f. FailsToOpen f fault) is there in
    record {
      ends = whole.ends;
      kept = whole.leaves.0;
      left = whole.leaves.1;
      fault = fault;
      first = first;
      shown = λ bytes. fails-shown file fault bytes first;
      printed = whole.printed;
    }
whole_damaged name text before after status file (Opened parts) is whole there closed =
    absurd (closed parts (file_told before.told.held name file (λ f. Opens f parts) is.1 there))

pub damaged : (name : List ℕ) (text : List Part → List ℕ) (before after : World) (status : Status) (file : List ℕ)
    → Ends (prints_of_file name text) before after status → file_of before.told.held name ≡ Some file
    → ((parts : List Part) → Opens file parts → ⊥) → IsFault status ⊎ TellsDamage status file before after
damaged name text before after status file ends there closed =
    elim (whole_or_fault (prints_of_file name text) before after status ends) [
      | inl fault ↦ inl fault
      | inr found ↦ inr (whole_damaged name text before after status file found.0 found.1 found.2 there closed)
    ]

-- ---- a file that isn't there

missed_only : (name : List ℕ) (told : Told) (found : OpenFile) → IsTrue (misses told.held name 0) → IsOpenFile told.held name found → found ≡ Absent
missed_only name told Absent missed is = refl
missed_only name told (Damaged fault) missed is = absurd (there_not_missed told.held name (λ f. FailsToOpen f fault) missed is)
missed_only name told (Opened parts) missed is = absurd (there_not_missed told.held name (λ f. Opens f parts) missed is.1)

whole_absent : (name : List ℕ) (text : List Part → List ℕ) (before after : World) (status : Status) (found : OpenFile)
    → IsOpenFile before.told.held name found → IsWhole (prints_of_file name text) found before after status → IsTrue (misses before.told.held name 0)
    → IsFault status
whole_absent name text before after status found is whole missed =
    let none = missed_only name before.told found missed is in
    let absent = subst (λ (f : OpenFile). IsWhole (prints_of_file name text) f before after status) none whole in
    inl absent.ends

pub absent : (name : List ℕ) (text : List Part → List ℕ) (before after : World) (status : Status)
    → Ends (prints_of_file name text) before after status → IsTrue (misses before.told.held name 0) → IsFault status
absent name text before after status ends missed =
    elim (whole_or_fault (prints_of_file name text) before after status ends) [
      | inl fault ↦ fault
      | inr found ↦ whole_absent name text before after status found.0 found.1 found.2 missed
    ]

-- its text has no byte
prints_none : (name : List ℕ) (text : List Part → List ℕ) (before : World) (found : OpenFile)
    → IsOpenFile before.told.held name found → IsTrue (misses before.told.held name 0) → ((prints_of_file name text).outcome found).text ≡ []
prints_none name text before found is missed =
    ap (λ (f : OpenFile). ((prints_of_file name text).outcome f).text) (missed_only name before.told found missed is)

pub prints_nothing : (name : List ℕ) (text : List Part → List ℕ) (before after : World) (status : Status)
    → Ends (prints_of_file name text) before after status → IsTrue (misses before.told.held name 0) → after.written ≡ before.written
prints_nothing name text before after status (inl stopped) missed = stopped.printed
prints_nothing name text before after status (inr (found, is, inl whole)) missed =
    whole.printed ∙ ap (append_known before.written) (prints_none name text before found is missed) ∙ sym (append_known-nil before.written)
prints_nothing name text before after status (inr (found, is, inr cut)) missed =
    cut.printed ∙ ap (λ (t : List ℕ). append_known before.written (take cut.count t)) (prints_none name text before found is missed)
    ∙ ap (append_known before.written) (take-nil cut.count) ∙ sym (append_known-nil before.written)

-- ---- by the status

whole_done : (name : List ℕ) (text : List Part → List ℕ) (before after : World) (status : Status) (file : List ℕ) (found : OpenFile)
    → IsOpenFile before.told.held name found → IsWhole (prints_of_file name text) found before after status → status ≡ Done
    → file_of before.told.held name ≡ Some file → (parts : List Part) × Opens file parts × HasShown status (text parts) before after
whole_done name text before after status file Absent is whole done there = let ends = whole.ends in absurd (cc (ends, done))
whole_done name text before after status file (Damaged fault) is whole done there = let ends = whole.ends in absurd (cc (ends, done))
whole_done name text before after status file (Opened parts) is whole done there =
    let opens = file_told before.told.held name file (λ f. Opens f parts) is.1 there in
    (parts, opens, whole_printed name text before after status file parts (Opened parts) is whole opens there)

pub done : (name : List ℕ) (text : List Part → List ℕ) (before after : World) (status : Status) (file : List ℕ)
    → Ends (prints_of_file name text) before after status → status ≡ Done → file_of before.told.held name ≡ Some file
    → (parts : List Part) × Opens file parts × HasShown status (text parts) before after
done name text before after status file ends is there =
    let found = whole_unless (prints_of_file name text) before after status ends (not_done status is) in
    whole_done name text before after status file found.0 found.1 found.2 is there

whole_status : (name : List ℕ) (text : List Part → List ℕ) (before after : World) (status : Status) (found : OpenFile)
    → IsWhole (prints_of_file name text) found before after status → (status ≡ Done) ⊎ ((status ≡ File) ⊎ IsFault status)
whole_status name text before after status Absent whole = inr (inr (inl whole.ends))
whole_status name text before after status (Damaged fault) whole = inr (inl whole.ends)
whole_status name text before after status (Opened parts) whole = inl whole.ends

pub statuses : (name : List ℕ) (text : List Part → List ℕ) (before after : World) (status : Status)
    → Ends (prints_of_file name text) before after status → (status ≡ Done) ⊎ ((status ≡ File) ⊎ IsFault status)
statuses name text before after status ends =
    elim (whole_or_fault (prints_of_file name text) before after status ends) [
      | inl fault ↦ inr (inr fault)
      | inr found ↦ whole_status name text before after status found.0 found.2
    ]

-- with File the fault of a file that is told is read
whole_fault : (name : List ℕ) (text : List Part → List ℕ) (before after : World) (status : Status) (found : OpenFile)
    → IsOpenFile before.told.held name found → IsWhole (prints_of_file name text) found before after status → status ≡ File
    → (file : List ℕ) → file_of before.told.held name ≡ Some file → (fault : BbtFault) × (FailsToOpen file fault)
whole_fault name text before after status Absent is whole ends = let same = whole.ends in absurd (cc (same, ends))
whole_fault name text before after status (Damaged fault) is whole ends =
    λ file there. (fault, file_told before.told.held name file (λ f. FailsToOpen f fault) is there)
whole_fault name text before after status (Opened parts) is whole ends = let same = whole.ends in absurd (cc (same, ends))

pub reading_fault : (name : List ℕ) (text : List Part → List ℕ) (before after : World) (status : Status)
    → Ends (prints_of_file name text) before after status → status ≡ File
    → (file : List ℕ) → file_of before.told.held name ≡ Some file → (fault : BbtFault) × (FailsToOpen file fault)
reading_fault name text before after status ends is =
    let found = whole_unless (prints_of_file name text) before after status ends (not_file status is) in
    whole_fault name text before after status found.0 found.1 found.2 is

-- with Device, but for a fault, the file isn't there
pub reading_absent : (name : List ℕ) (text : List Part → List ℕ) (told : Told) (found : OpenFile) → IsOpenFile told.held name found
    → Device ≡ (file_outcome (λ parts. done_with (text parts)) found).status → IsTrue (misses told.held name 0)
reading_absent name text told Absent is ends = is
reading_absent name text told (Damaged fault) is ends = absurd cc
reading_absent name text told (Opened parts) is ends = absurd cc
