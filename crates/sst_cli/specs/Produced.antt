-- What producing a file comes to.
use Rattle.std.specs.Prelude.{◌≡◌, ℕ, List, [], length, Option, Some, Ok}
use Rattle.sst_key.specs.declared.entries.Entry.{Entry}
use Rattle.sst_device.specs.Folder.{Files}
use Rattle.sst_cli.specs.InputReading.{read_input}
use Rattle.sst_cli.specs.WriteCommand.{HoldsWritten}
use Rattle.sst_cli.specs.Words.{WriteLine}

-- the file of the input's entries stands there and the input is read to its end
-- Pinned by: what_a_write_comes_to.written
pub record HasProduced (count : ℕ) (line : WriteLine) (old new : Option Files) (input left : Option (List ℕ)) : Type 0 where
  pub entries : List Entry
  pub counted : count ≡ length entries
  pub file : HoldsWritten line entries old new
  pub said : (text : List ℕ) → input ≡ Some text → read_input text ≡ Ok entries
  pub read : (text : List ℕ) → input ≡ Some text → left ≡ Some []
