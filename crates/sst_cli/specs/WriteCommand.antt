-- What a `write` comes to: it finds what its input says, and writes the file of it.
use Rattle.std.specs.Prelude.{◌≡◌, ◌⊎◌, ℕ, List, [], ◌++◌, codes, length, Option, Some, Result, Ok, Err}
use Rattle.std.specs.Fmt.{decimal}
use Rattle.std.specs.Io.KnownBytes.{append_known}
use Rattle.sst_key.specs.declared.entries.Entry.{Entry}
use Rattle.sst_device.specs.Folder.{Files, put_file}
use Rattle.sst_text.specs.Taken.{IsTakenTo}
use Rattle.sst_bbt_write.specs.Written.{Written}
use Rattle.sst_cli.specs.Behaviour.{Told, Outcome, Behaviour, InputIs}
use Rattle.sst_cli.specs.InputReading.{read_input}
use Rattle.sst_cli.specs.Refusals.{refusal_text}
use Rattle.sst_cli.specs.Words.{WriteLine}
use Rattle.sst_cli.specs.declared.input.refusal.Refusal.{Refusal}
use Rattle.sst_cli.specs.declared.status.Status.{Status}
use Rattle.sst_cli.specs.declared.status.Status.TheVariants.{Done, Input}

-- the line for a file of so many entries that was written
-- Pinned by: worked_files, forty_entries
abbrev pub done_text : ℕ → List ℕ
done_text count = codes "wrote " ++ (decimal count ++ codes "\n")

-- what is answered of an input that says this: how many entries were written, or the refusal
-- Pinned by: what_a_write_comes_to.written, what_a_write_comes_to.refused
abbrev pub write_outcome : Result (List Entry) Refusal → Outcome
write_outcome (Ok entries) = record { status = Done; text = done_text (length entries) }
write_outcome (Err refusal) = record { status = Input; text = refusal_text refusal }

-- the named file is as it was or holds any bytes, and no other file changed
-- Pinned by: run.changes
abbrev pub ChangesOnly : List ℕ → Option Files → Option Files → Type 0
ChangesOnly name old new = (new ≡ old) ⊎ ((bytes : List ℕ) × (new ≡ put_file old name bytes))

-- the named file holds the bytes that are written for the list with the options, and no other file changed
-- Pinned by: run.headline_write, what_a_write_comes_to.done
abbrev pub HoldsWritten : WriteLine → List Entry → Option Files → Option Files → Type 0
HoldsWritten line entries old new = (bytes : List ℕ) × Written line.options bytes entries × (new ≡ put_file old line.name bytes)

-- a `write` of this list is carried out: the named file holds what is written for it, no other file changed, the
-- input is read to its end, and the text says how many entries there are
-- Pinned by: run.headline_write, what_a_write_comes_to.done
pub record Wrote (result : Status) (line : WriteLine) (entries : List Entry) (old new : Option Files) (left : Option (List ℕ)) (before now : Option (List ℕ)) : Type 0 where
  pub done : result ≡ Done
  pub file : HoldsWritten line entries old new
  pub read : left ≡ Some []
  pub printed : now ≡ append_known before (done_text (length entries))

-- What a `write` leaves. Of a list: the file that is written for it, and an input that is read to its end. Of a refusal: any
-- bytes in the file, and an input of which at most a piece past the refused line is taken.
-- Pinned by: what_a_write_comes_to.written, what_a_write_comes_to.near, what_a_write_comes_to.begun
abbrev pub WriteLeaves : WriteLine → Result (List Entry) Refusal → Told → Told → Type 0
WriteLeaves line (Ok entries) before after =
    HoldsWritten line entries before.held after.held × InputIs before.left (λ text. after.left ≡ Some [])
WriteLeaves line (Err refusal) before after =
    ((bytes : List ℕ) × (after.held ≡ put_file before.held line.name bytes))
    × InputIs before.left (λ text. IsTakenTo refusal.line text after.left)

-- what a `write` comes to: it finds what its input says, and changes no file but its own
-- Pinned by: run.headline_write
abbrev pub write_command : WriteLine → Behaviour
write_command line =
    record {
      Found = Result (List Entry) Refusal;
      IsFound = λ told reading. InputIs told.left (λ text. read_input text ≡ reading);
      outcome = write_outcome;
      Leaves = WriteLeaves line;
      MayChange = ChangesOnly line.name;
      SparesFolder = λ told status. ⊥;
      SparesInput = λ told status. ⊥;
    }
