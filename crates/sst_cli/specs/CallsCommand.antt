-- What a `calls` comes to: it reads its whole input before it opens its file, and answers the calls from the file.
use Rattle.std.specs.Prelude.{◌≡◌, ◌⊎◌, ℕ, List, [], Option, Some, Ok, Err}
use Rattle.std.specs.Io.KnownBytes.{append_known}
use Rattle.hex.specs.Hex.{IsBytes}
use Rattle.sst_key.specs.declared.entries.Entry.{Entry}
use Rattle.sst_key.specs.declared.calls.Call.{Call}
use Rattle.sst_meta.specs.Footer.{later_length}
use Rattle.sst_meta.specs.FooterReading.{last_bytes}
use Rattle.sst_bbt_spec.specs.Parts.{Part}
use Rattle.sst_bbt_read.specs.FaultText.{fault_text}
use Rattle.sst_bbt_read.specs.OpeningFaults.{FailsToOpen}
use Rattle.sst_bbt_read.specs.OpeningSteps.{Shows}
use Rattle.sst_bbt_read.specs.declared.bbt_fault.BbtFault.{BbtFault}
use Rattle.sst_device.specs.Folder.{Files}
use Rattle.sst_text.specs.Taken.{IsTakenTo}
use Rattle.sst_cli.specs.Behaviour.{Told, Outcome, Behaviour, InputIs}
use Rattle.sst_cli.specs.OpenFile.{OpenFile, IsOpenFile, done_with, file_outcome}
use Rattle.sst_cli.specs.InputReading.{read_calls}
use Rattle.sst_cli.specs.Refusals.{refusal_text}
use Rattle.sst_cli.specs.Replies.{answers_text, way_text}
use Rattle.sst_cli.specs.declared.input.refusal.Refusal.{Refusal}
use Rattle.sst_cli.specs.declared.status.Status.{Status}
use Rattle.sst_cli.specs.declared.status.Status.TheVariants.{Done, Input, File}

-- a `calls` whose input reads as these calls is carried out on a file with these entries: their answers are printed,
-- the input is read to its end, and no file changed
-- Pinned by: run.headline_calls
pub record Answered (result : Status) (entries : List Entry) (calls : List Call) (old new : Option Files) (left before now : Option (List ℕ)) : Type 0 where
  pub done : result ≡ Done
  pub kept : new ≡ old
  pub read : left ≡ Some []
  pub printed : now ≡ append_known before (answers_text entries calls)

-- the same on a file with these parts: the answers by their way are printed
-- Pinned by: what_calls_come_to.answered, what_calls_come_to.done
pub record AnsweredByWay (result : Status) (parts : List Part) (calls : List Call) (old new : Option Files) (left before now : Option (List ℕ)) : Type 0 where
  pub done : result ≡ Done
  pub kept : new ≡ old
  pub read : left ≡ Some []
  pub printed : now ≡ append_known before (way_text parts calls)

-- the first thing that is wrong with the file was printed, the file shows it, and the input is read to its end; that
-- it is shown needs that the last numbers of the file, as many as a footer has, are bytes, as those of a real one are
-- Pinned by: what_calls_come_to.damaged
pub record IsDamaged (result : Status) (file : List ℕ) (left before now : Option (List ℕ)) : Type 0 where
  pub ends : result ≡ File
  pub read : left ≡ Some []
  pub fault : BbtFault
  pub first : FailsToOpen file fault
  pub shown : IsBytes (last_bytes later_length file) → Shows file fault
  pub printed : now ≡ append_known before (fault_text fault)

-- what is answered of parts: a line for each call, by their way
-- Pinned by: run.headline_calls, what_calls_come_to.answered
abbrev pub answers_of : List Call → List Part → Outcome
answers_of calls parts = done_with (way_text parts calls)

-- what a `calls` may find: a refusal of its input; or these calls, and then its file as this
-- Pinned by: what_calls_come_to.answered, what_calls_come_to.refused
pub data FoundCalls : Type 0 where
  Refused : Refusal → FoundCalls
  Read : List Call → OpenFile → FoundCalls

-- where the outside tells so, the input of a `calls` on this file says that, and the file is that
-- Pinned by: what_calls_come_to.answered, what_calls_come_to.refused
abbrev pub AreFoundCalls : List ℕ → Told → FoundCalls → Type 0
AreFoundCalls name told (Refused refusal) = InputIs told.left (λ text. read_calls text ≡ Err refusal)
AreFoundCalls name told (Read calls file) =
    InputIs told.left (λ text. read_calls text ≡ Ok calls) × IsOpenFile told.held name file

-- what is answered
-- Pinned by: what_calls_come_to.answered, what_calls_come_to.refused
abbrev pub calls_outcome : FoundCalls → Outcome
calls_outcome (Refused refusal) = record { status = Input; text = refusal_text refusal }
calls_outcome (Read calls file) = file_outcome (answers_of calls) file

-- What is left: the files as they were; and an input of which at most a piece past the refused line is taken, or that is
-- read to its end.
-- Pinned by: what_calls_come_to.near, what_calls_come_to.read_to_its_end
abbrev pub CallsLeave : FoundCalls → Told → Told → Type 0
CallsLeave (Refused refusal) before after =
    (after.held ≡ before.held) × InputIs before.left (λ text. IsTakenTo refusal.line text after.left)
CallsLeave (Read calls file) before after = (after.held ≡ before.held) × InputIs before.left (λ text. after.left ≡ Some [])

-- the input is told and is refused
-- Pinned by: run.spares_folder
abbrev pub IsRefusedInput : Option (List ℕ) → Type 0
IsRefusedInput left = (text : List ℕ) × (refusal : Refusal) × (left ≡ Some text) × (read_calls text ≡ Err refusal)

-- what a `calls` comes to: it changes no file, and where its input is refused it doesn't touch the folder
-- Pinned by: run.headline_calls
abbrev pub calls_command : List ℕ → Behaviour
calls_command name =
    record {
      Found = FoundCalls;
      IsFound = AreFoundCalls name;
      outcome = calls_outcome;
      Leaves = CallsLeave;
      MayChange = λ old new. new ≡ old;
      SparesFolder = λ told status. (status ≡ Input) ⊎ IsRefusedInput told.left;
      SparesInput = λ told status. ⊥;
    }
