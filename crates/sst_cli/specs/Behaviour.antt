-- What a command comes to, in one form for every command: what it may find in the world, what it answers and prints for
-- that, what it leaves, and what it may change.
--
-- A command is said by what it finds: of the texts and files that are told, what they read as. Its status and its text
-- are a function of that. A command that reads two files, or changes some bytes of one, has no more than that to say:
-- files are spoken of as the whole of the folder. Where damage is met midway, what was found is the answers so far and the
-- fault (`cut_by`, OpenFile). A command that is added brings its behaviour and its code in files of their own, and a case
-- wherever the commands stand in a row; no definition or proof of another command changes. So `scan`, which lists the entries
-- of a file, has specs/ScanCommand (`prints_of_file`, with the entries' lines as the text), src/commands/scan and its printing in
-- src/output/listing, and a case in specs/Words (its words), specs/Command (`Command`, `seen`, `command_by`, `behaviour`,
-- `file_read`), src/command, src/commands and src/program (one arm), and in the lemmas over all commands (proofs/CommandWords,
-- OneOutcome, AnyRuns, Carried).
use Rattle.std.specs.Prelude.{◌≡◌, ◌⊎◌, ℕ, List, take, Option, Some}
use Rattle.std.specs.Io.KnownBytes.{append_known}
use Rattle.std.specs.FinMap.{get}
use Rattle.sst_device.specs.Faults.{Rose}
use Rattle.sst_device.specs.Folder.{Files}
use Rattle.sst_cli.specs.declared.status.Status.{Status}
use Rattle.sst_cli.specs.declared.status.Status.TheVariants.{Device, Memory}

-- what the outside tells: the files of the folder, and the text that is left of the input; it may tell neither
-- Pinned by: run.ends
pub record Told : Type 0 where
  pub held : Option Files
  pub left : Option (List ℕ)

abbrev pub tells : Option Files → Option (List ℕ) → Told
tells held left = record { held = held; left = left }

-- the outside at one moment: what it tells, what was printed so far, and how many faults the folder, the input and the
-- output counted
-- Pinned by: run.ends, run.device
pub record World : Type 0 where
  pub told : Told
  pub written : Option (List ℕ)
  pub folder : ℕ
  pub intake : ℕ
  pub sink : ℕ

abbrev pub world : Option Files → Option (List ℕ) → Option (List ℕ) → ℕ → ℕ → ℕ → World
world held left written folder intake sink =
    record { told = tells held left; written = written; folder = folder; intake = intake; sink = sink }

-- the input is so, where it is told
-- Pinned by: run.ends, what_a_write_comes_to.refused
abbrev pub InputIs : Option (List ℕ) → (List ℕ → Type 0) → Type 0
InputIs left P = (text : List ℕ) → left ≡ Some text → P text

-- the named file is there and is so, where the files are told
-- Pinned by: run.ends, what_calls_come_to.damaged
abbrev pub FileIs : Option Files → List ℕ → (List ℕ → Type 0) → Type 0
FileIs held name P = (files : Files) → held ≡ Some files → (file : List ℕ) × (get files name ≡ Some file) × P file

-- what a run answers: its status, and the text that it prints
-- Pinned by: run.ends
pub record Outcome : Type 0 where
  pub status : Status
  pub text : List ℕ

-- what a command comes to
-- Pinned by: run.ends, run.changes, run.spares_folder, run.spares_input
pub record Behaviour : Type 1 where
  -- what it finds
  pub Found : Type 0
  -- where the outside tells this, it may find that
  pub IsFound : Told → Found → Type 0
  -- what it answers then
  pub outcome : Found → Outcome
  -- what is told after it, where it isn't stopped
  pub Leaves : Found → Told → Told → Type 0
  -- what may become of the files, stopped or not
  pub MayChange : Option Files → Option Files → Type 0
  -- where it ends so, the folder wasn't touched; and the same of the input
  pub SparesFolder : Told → Status → Type 0
  pub SparesInput : Told → Status → Type 0

-- a fault outside, or out of memory
-- Pinned by: run.called, run.headline_write, run.headline_calls
abbrev pub IsFault : Status → Type 0
IsFault status = (status ≡ Device) ⊎ (status ≡ Memory)

-- a count of faults rose: the folder's, the input's or the output's
-- Pinned by: run.device
abbrev pub HasFailed : World → World → Type 0
HasFailed before after =
    Rose before.folder after.folder ⊎ (Rose before.intake after.intake ⊎ Rose before.sink after.sink)

-- the run was stopped: by a counted fault, or because it was out of memory
-- Pinned by: run.ends, run.device
abbrev pub IsStop : World → World → Status → Type 0
IsStop before after status = ((status ≡ Device) × HasFailed before after) ⊎ (status ≡ Memory)

-- each fault that was counted is told as one
-- Pinned by: run.hides_none
abbrev pub HidesNone : World → World → Status → Type 0
HidesNone before after status =
    (status ≡ Device)
    ⊎ ((after.folder ≡ before.folder) × ((after.intake ≡ before.intake) × (after.sink ≡ before.sink)))

-- the command came to its end: it answered and printed all that goes with what it found, and left what goes with it
-- Pinned by: run.ends
pub record IsWhole (b : Behaviour) (found : b.Found) (before after : World) (status : Status) : Type 0 where
  pub ends : status ≡ (b.outcome found).status
  pub leaves : b.Leaves found before.told after.told
  pub printed : after.written ≡ append_known before.written (b.outcome found).text

-- it was stopped while it printed
-- Pinned by: run.ends, run.printed
pub record IsCut (b : Behaviour) (found : b.Found) (before after : World) (status : Status) : Type 0 where
  pub stop : IsStop before after status
  pub count : ℕ
  pub printed : after.written ≡ append_known before.written (take count (b.outcome found).text)

-- it was stopped before it printed anything
-- Pinned by: run.ends, run.printed
pub record IsStopped (before after : World) (status : Status) : Type 0 where
  pub stop : IsStop before after status
  pub printed : after.written ≡ before.written

-- How a command ends. It may be stopped before it finds anything, or it finds something that may be found: then it comes to
-- its end, or is stopped while it prints.
-- Pinned by: run.ends
abbrev pub Ends : Behaviour → World → World → Status → Type 0
Ends b before after status =
    IsStopped before after status
    ⊎ ((found : b.Found) × b.IsFound before.told found × (IsWhole b found before after status ⊎ IsCut b found before after status))

-- the status goes with something that may be found
-- Pinned by: run.called, run.device
abbrev pub CallsFor : Behaviour → Told → Status → Type 0
CallsFor b told status = (found : b.Found) × b.IsFound told found × (status ≡ (b.outcome found).status)

-- the text goes with something that may be found
-- Pinned by: run.printed
abbrev pub MayPrint : Behaviour → Told → List ℕ → Type 0
MayPrint b told text = (found : b.Found) × b.IsFound told found × (text ≡ (b.outcome found).text)

-- A command is carried out: the one clause of each function that does so. `SameFolder` and `SameInput` say that the folder
-- and the input are the very ones that were handed in.
-- Pinned by: run.ends, run.changes, run.hides_none, run.spares_folder, run.spares_input
pub record Carries (b : Behaviour) (before after : World) (status : Status) (SameFolder SameInput : Type 0) : Type 0 where
  pub ends : Ends b before after status
  pub changes : b.MayChange before.told.held after.told.held
  pub hides_none : HidesNone before after status
  pub spares_folder : b.SparesFolder before.told status → SameFolder
  pub spares_input : b.SparesInput before.told status → SameInput
