-- How `check_block` meets the restarts on its one way through the rows. Nothing is promised here: what is promised is
-- in Reading.antt, and the proofs join the two.
-- For proofs alone.
-- Pinned by: check_block.exact
use Rattle.std.specs.Prelude.{ℕ, ◌+◌, ◌-◌, ◌==◌, Bool, false, ◌&&◌, nat_lt, if◌then◌else◌, List, [], ◌∷◌, length, drop, Option, None, Some, Result, Ok}
use Rattle.sst_num.specs.NumberReading.{fixed_at}
use Rattle.sst_block.specs.declared.row_form.RowForm.{RowForm}
use Rattle.sst_block.specs.declared.fault.BlockFault.{BlockFault}
use Rattle.sst_block.specs.declared.check.Restarts.{Restarts}
use Rattle.sst_block.specs.Block.{Spelled, row_spelling}
use Rattle.sst_block.specs.BlockReading.{then_read, rows_read}

-- the restarts that aren't met yet: how many they are, the last one that was met, and their bytes
pub record Open : Type 0 where
  pub missing : ℕ
  pub last : ℕ
  pub left : List ℕ

-- the next restart is this place, and is after the last one
abbrev pub is_next : ℕ → ℕ → Option ℕ → Bool
is_next at last None = false
is_next at last (Some restart) = (restart == at) && nat_lt last at

-- a row that shares nothing begins at the place
abbrev pub met : ℕ → Open → Open
met at o =
    if nat_lt 0 o.missing && is_next at o.last (fixed_at 4 o.left)
    then record { missing = o.missing - 1; last = at; left = drop 4 o.left }
    else o

-- a row begins at the place
abbrev pub met_by : ℕ → ℕ → Open → Open
met_by shared at o = if shared == 0 then met at o else o

-- the restarts that aren't met after some rows, the first of which begins at the place
abbrev pub open_after : RowForm → ℕ → Open → List Spelled → Open
open_after form at o [] = o
open_after form at o (s ∷ rows) = open_after form (at + length (row_spelling form s)) (met_by s.shared at o) rows

-- the restarts that the code holds
abbrev pub open_of : Restarts → Open
open_of r = record { missing = r.missing; last = r.last; left = r.left.now }

-- how many rows there are, and how many restarts aren't met at their end
abbrev pub counted : RowForm → Open → List Spelled → ℕ × ℕ
counted form o rows = (length rows, (open_after form 0 o rows).missing)

abbrev pub rows_counted : RowForm → Open → List ℕ → Result (ℕ × ℕ) BlockFault
rows_counted form o bytes = then_read (rows_read form bytes) (λ rows. Ok (counted form o rows))
