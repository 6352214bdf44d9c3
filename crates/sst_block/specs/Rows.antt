-- The names that the code's own values have in the reading of a block (specs/BlockReading.antt). Nothing is promised here.
-- For proofs alone.
-- Pinned by: check_block.exact
use Rattle.std.specs.Prelude.{◌≡◌, ℕ, ◌+◌, length, Bool, true, List, Option, None, Some, option_map, ◌<◌, ◌≤◌, if◌then◌else◌}
use Rattle.sst_key.specs.Limits.{stored_key_limit}
use Rattle.sst_block.specs.declared.row.Lengths.{Lengths}
use Rattle.sst_block.specs.Block.{Spelled}
use Rattle.sst_block.specs.BlockReading as reading
use Rattle.sst_block.specs.declared.row_form.RowForm.{RowForm}
use Rattle.sst_block.specs.BlockReading.{row_by, has_tag}

-- the lengths as numbers
abbrev pub numbers : Lengths → reading.Lengths
numbers l = record { shared = l.shared; rest = l.rest; value = l.value; used = l.used }

abbrev pub spelled_lengths : Option Lengths → Option reading.Lengths
spelled_lengths l = option_map numbers l

-- how many bytes the row takes
abbrev pub row_length : Lengths → ℕ
row_length l = l.used + l.rest + l.value

-- the row of these lengths, and how many bytes it takes
abbrev pub row_lent : List ℕ → List ℕ → Lengths → Spelled × ℕ
row_lent before bytes l = (row_by before bytes (numbers l), row_length l)

-- the key before, which is none where the row is the first
abbrev pub key_held : Bool → List ℕ → Option (List ℕ)
key_held first key = if first then None else Some key

-- the lengths agree with the key before and the bytes that are there
pub record FitsIn (before room : ℕ) (l : Lengths) : Type 0 where
  pub front : l.shared ≤ before
  pub within : row_length l ≤ room
  pub key : l.shared + l.rest ≤ stored_key_limit
  pub some : 0 < l.used

-- the key has a tag where the form's keys have one
abbrev pub IsLongEnough : RowForm → List ℕ → Type 0
IsLongEnough form key = has_tag form ≡ true → 8 ≤ length key
