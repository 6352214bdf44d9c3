-- An open reader of a block-based file as contracts see it, and its seats: one for each cursor that may be open at a time.
-- Own.
use Rattle.std.specs.Prelude.{◌≡◌, ℕ, Bool, List, length, count_by}
use Rattle.sst_bbt_read.specs.TableBlocks.{OpenTable}

-- the name of the file, what is kept of it, and for each seat whether a cursor has it
-- Own.
-- Pinned by: cursor.full
pub record OpenReader : Type 0 where
  pub name : List ℕ
  pub table : OpenTable
  pub seats : List Bool

-- how many seats there are
-- Own.
-- Pinned by: a_seat_is_given_again
abbrev pub seats_of : OpenReader → ℕ
seats_of r = length r.seats

-- how many of them a cursor has
-- Own.
-- Pinned by: a_seat_is_given_again
abbrev pub open_of : OpenReader → ℕ
open_of r = count_by (λ (taken : Bool). taken) r.seats

-- as many seats as before, and as many that a cursor has
-- Own.
-- Pinned by: next.reader
abbrev pub SameSeats : OpenReader → OpenReader → Type 0
SameSeats old new = (seats_of new ≡ seats_of old) × (open_of new ≡ open_of old)
