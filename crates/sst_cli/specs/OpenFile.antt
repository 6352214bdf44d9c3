-- A command that opens a file and prints something of it: what the file may be found as, and what is answered then.
use Rattle.std.specs.Prelude.{◌≡◌, ℕ, List, [], ◌++◌, Option, IsTrue, All}
use Rattle.std.specs.Io.KnownBytes.{append_known}
use Rattle.hex.specs.Hex.{IsBytes}
use Rattle.sst_meta.specs.Footer.{later_length}
use Rattle.sst_meta.specs.FooterReading.{last_bytes}
use Rattle.sst_bbt_spec.specs.BlockBased.{Opens}
use Rattle.sst_bbt_spec.specs.Rows.{HasSeq}
use Rattle.sst_bbt_spec.specs.Parts.{Part, stored_in}
use Rattle.sst_bbt_read.specs.FaultText.{fault_text}
use Rattle.sst_bbt_read.specs.OpeningFaults.{FailsToOpen}
use Rattle.sst_bbt_read.specs.OpeningSteps.{Shows}
use Rattle.sst_bbt_read.specs.declared.bbt_fault.BbtFault.{BbtFault}
use Rattle.sst_device.specs.Folder.{Files, misses}
use Rattle.sst_cli.specs.Behaviour.{World, Outcome, Behaviour, FileIs}
use Rattle.sst_cli.specs.declared.status.Status.{Status}
use Rattle.sst_cli.specs.declared.status.Status.TheVariants.{Done, File, Device}

-- what a file may be found as: the folder tells that it isn't there; this fault is the first thing that is wrong with
-- it; it opens to these parts of its index
-- Pinned by: run.ends
pub data OpenFile : Type 0 where
  Absent : OpenFile
  Damaged : BbtFault → OpenFile
  Opened : List Part → OpenFile

-- Where the folder tells its files, the named one is found so. The sequence numbers of what a file opens to are in
-- range, be the files told or not.
-- Pinned by: what_calls_come_to.answered, what_calls_come_to.damaged, what_calls_come_to.absent
abbrev pub IsOpenFile : Option Files → List ℕ → OpenFile → Type 0
IsOpenFile held name Absent = IsTrue (misses held name 0)
IsOpenFile held name (Damaged fault) = FileIs held name (λ file. FailsToOpen file fault)
IsOpenFile held name (Opened parts) = All HasSeq (stored_in parts) × FileIs held name (λ file. Opens file parts)

-- the command did all, and this is its text
-- Pinned by: what_calls_come_to.answered
abbrev pub done_with : List ℕ → Outcome
done_with text = record { status = Done; text = text }

-- a fault ended the text: so much of it comes before, and then the line of the fault
-- Pinned by: what_calls_come_to.damaged
abbrev pub cut_by : List ℕ → BbtFault → Outcome
cut_by text fault = record { status = File; text = text ++ fault_text fault }

-- what is answered of a file, by what is answered of the parts to which it opens. Of one that isn't there nothing is
-- printed.
-- Pinned by: what_calls_come_to.damaged, what_calls_come_to.absent
abbrev pub file_outcome : (List Part → Outcome) → OpenFile → Outcome
file_outcome answer Absent = record { status = Device; text = [] }
file_outcome answer (Damaged fault) = cut_by [] fault
file_outcome answer (Opened parts) = answer parts

-- the command that opens the named file and answers so of its parts; it changes nothing and takes no input
-- Pinned by: run.ends
abbrev pub on_file : List ℕ → (List Part → Outcome) → Behaviour
on_file name answer =
    record {
      Found = OpenFile;
      IsFound = λ told file. IsOpenFile told.held name file;
      outcome = file_outcome answer;
      Leaves = λ file before after. (after.held ≡ before.held) × (after.left ≡ before.left);
      MayChange = λ old new. new ≡ old;
      SparesFolder = λ told status. ⊥;
      SparesInput = λ told status. Unit {0};
    }

-- the command that opens the named file and prints this text of its parts
-- Pinned by: what_reading_a_file_comes_to.printed
abbrev pub prints_of_file : List ℕ → (List Part → List ℕ) → Behaviour
prints_of_file name text = on_file name (λ parts. done_with (text parts))

-- the command did all: this text was printed, no file changed, and the input wasn't touched
-- Pinned by: what_reading_a_file_comes_to.printed, what_a_get_comes_to.got_as_list
pub record HasShown (status : Status) (text : List ℕ) (before after : World) : Type 0 where
  pub done : status ≡ Done
  pub kept : after.told.held ≡ before.told.held
  pub left : after.told.left ≡ before.told.left
  pub printed : after.written ≡ append_known before.written text

-- The first thing that is wrong with the file was printed, and the file shows it; no file changed, and the input wasn't
-- touched. That it is shown needs that the last numbers of the file, as many as a footer has, are bytes, as those of a real
-- one are.
-- Pinned by: what_reading_a_file_comes_to.damaged
pub record TellsDamage (status : Status) (file : List ℕ) (before after : World) : Type 0 where
  pub ends : status ≡ File
  pub kept : after.told.held ≡ before.told.held
  pub left : after.told.left ≡ before.told.left
  pub fault : BbtFault
  pub first : FailsToOpen file fault
  pub shown : IsBytes (last_bytes later_length file) → Shows file fault
  pub printed : after.written ≡ append_known before.written (fault_text fault)
