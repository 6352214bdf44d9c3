-- In a told world what a command may find has one outcome, and there is always something to find.
use Rattle.std.proofs.Common.{◌≡◌, ℕ, List, Option, None, Some, Result, Ok, Err, refl, sym, ap, ◌∙◌}
use Rattle.sst_key.specs.declared.calls.Call.{Call}
use Rattle.sst_device.specs.Folder.{Files}
use Rattle.sst_cli.specs.Behaviour.{InputIs, tells}
use Rattle.sst_cli.specs.CallsCommand.{FoundCalls, Refused, Read, AreFoundCalls, answers_of, calls_outcome}
use Rattle.sst_cli.specs.Command.{Command, Write, Calls, Get, Scan, behaviour}
use Rattle.sst_cli.specs.InputReading.{read_calls, read_input}
use Rattle.sst_cli.specs.WriteCommand.{write_outcome}
use Rattle.sst_cli.specs.GetCommand.{way_got_text}
use Rattle.sst_cli.specs.ScanCommand.{scan_text}
use Rattle.sst_cli.specs.OpenFile.{done_with, file_outcome}
use Rattle.sst_cli.specs.declared.input.refusal.Refusal.{Refusal}
use Rattle.sst_cli.proofs.FileFound.{found_file, one_file_outcome}
use Rattle.sst_cli.proofs.OneReading.{same_ok, same_err, not_both}

calls_outcome-one : (name : List ℕ) (files : Files) (text : List ℕ) (some other : FoundCalls)
    → AreFoundCalls name (tells (Some files) (Some text)) some → AreFoundCalls name (tells (Some files) (Some text)) other
    → calls_outcome some ≡ calls_outcome other
calls_outcome-one name files text (Refused a) (Refused b) is same =
    ap (λ (r : Refusal). calls_outcome (Refused r)) (same_err (read_calls text) a b (is text refl) (same text refl))
calls_outcome-one name files text (Refused a) (Read calls file) is same = absurd (not_both (read_calls text) calls a (same.0 text refl) (is text refl))
calls_outcome-one name files text (Read calls file) (Refused b) is same = absurd (not_both (read_calls text) calls b (is.0 text refl) (same text refl))
calls_outcome-one name files text (Read calls file) (Read others next) is same =
    ap (λ (cs : List Call). file_outcome (answers_of cs) file) (same_ok (read_calls text) calls others (is.0 text refl) (same.0 text refl))
    ∙ one_file_outcome (answers_of others) files name file next is.1 same.1

pub outcome-one : (command : Option Command) (files : Files) (text : List ℕ) (some other : (behaviour command).Found)
    → (behaviour command).IsFound (tells (Some files) (Some text)) some
    → (behaviour command).IsFound (tells (Some files) (Some text)) other
    → (behaviour command).outcome some ≡ (behaviour command).outcome other
outcome-one None files text some other is same = refl
outcome-one (Some (Write write)) files text some other is same = ap write_outcome (sym (is text refl) ∙ same text refl)
outcome-one (Some (Calls name)) files text some other is same = calls_outcome-one name files text some other is same
outcome-one (Some (Get line)) files text some other is same =
    one_file_outcome (λ blocks. done_with (way_got_text line.target blocks)) files line.name some other is same
outcome-one (Some (Scan line)) files text some other is same =
    one_file_outcome (λ blocks. done_with (scan_text line.snapshot blocks)) files line.name some other is same

-- what a told text reads as
reads_so : {A : Type 0} (read : List ℕ → A) (text : List ℕ) (reading : A) → read text ≡ reading → InputIs (Some text) (λ t. read t ≡ reading)
reads_so read text reading is = λ other told. let same : text ≡ other = cc in rw (← same) is

found_calls : (name : List ℕ) (files : Files) (text : List ℕ) (reading : Result (List Call) Refusal) → read_calls text ≡ reading
    → (found : FoundCalls) × AreFoundCalls name (tells (Some files) (Some text)) found
found_calls name files text (Ok calls) reads =
    let file = found_file files name in (Read calls file.0, (reads_so read_calls text (Ok calls) reads, file.1))
found_calls name files text (Err refusal) reads = (Refused refusal, reads_so read_calls text (Err refusal) reads)

pub found-some : (command : Option Command) (files : Files) (text : List ℕ) → (found : (behaviour command).Found)
    × (behaviour command).IsFound (tells (Some files) (Some text)) found
found-some None files text = (tt, tt)
found-some (Some (Write write)) files text = (read_input text, reads_so read_input text (read_input text) refl)
found-some (Some (Calls name)) files text = found_calls name files text (read_calls text) refl
found-some (Some (Get line)) files text = found_file files line.name
found-some (Some (Scan line)) files text = found_file files line.name
