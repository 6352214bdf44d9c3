-- What reading the lines of an input comes to, and adding them to a writer.
use Rattle.std.specs.Prelude.{◌≡◌, ℕ, List, [], ◌∷◌, ◌++◌, Option, Some, Result, Ok, Err}
use Rattle.sst_key.specs.declared.entries.Entry.{Entry}
use Rattle.sst_cli.specs.declared.input.refusal.Refusal.{Refusal}
use Rattle.sst_cli.specs.declared.input.refusal.Reason.{Reason}
use Rattle.sst_bbt_write.specs.declared.bbt_options.BbtOptions.{BbtOptions}
use Rattle.sst_bbt_write.specs.declared.bbt_writer.BbtWriter.{BbtWriter}
use Rattle.sst_bbt_write.specs.After.{After}
use Rattle.sst_cli.specs.InputReading.{read_line, read_input, refused_at}

-- the line is an entry that the writer took
-- Pinned by: add_lines.ok
pub record HasAdded (options : BbtOptions) (entries : List Entry) (bytes line : List ℕ) (writer : BbtWriter) (old new : List ℕ) : Type 0 where
  pub entry : Entry
  pub reads : read_line entries line ≡ Ok entry
  pub piece : List ℕ
  pub put : new ≡ old ++ piece
  pub after : After writer options (entries ++ entry ∷ []) (bytes ++ piece)

-- what the line of this number says is a reason to refuse it, and this is its refusal
-- Pinned by: add_lines.refused, read_calls.refused
pub record IsRefused {A : Type 0} (answer : Result A Reason) (number : ℕ) (refusal : Refusal) : Type 0 where
  pub why : Reason
  pub reads : answer ≡ Err why
  pub said : refusal ≡ refused_at number why

-- the writer, made with the options, took the entries of the whole input, which is read to its end, and appended these bytes
-- Pinned by: produce.ok
pub record HoldsInput (writer : BbtWriter) (options : BbtOptions) (bytes : List ℕ) (input left : Option (List ℕ)) : Type 0 where
  pub entries : List Entry
  pub after : After writer options entries bytes
  pub said : (text : List ℕ) → input ≡ Some text → read_input text ≡ Ok entries
  pub read : (text : List ℕ) → input ≡ Some text → left ≡ Some []
