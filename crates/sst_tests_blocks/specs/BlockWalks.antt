-- What a test of a walk over the rows of a block knows.
-- Own.
-- Pinned by: seeks
use Rattle.std.specs.Prelude.{◌≡◌, ℕ, Bool, true, List, Option, Some}
use Rattle.sst_block.specs.declared.row_form.RowForm.{RowForm}
use Rattle.sst_block.specs.declared.iter.BlockIter.{BlockIter}
use Rattle.sst_block.specs.declared.place.Place.{Place}
use Rattle.sst_block.specs.Block.{Row, Block}
use Rattle.sst_block.specs.Iter.{Walks}
use Rattle.sst_block.specs.Places.{PausedIn}

-- the walk stands at a row
-- Own.
-- Pinned by: seeks, restarts_of_a_block
abbrev pub StandsAtRow : BlockIter → Type 0
StandsAtRow it = (rows : List Row) × (i : ℕ) × Walks it rows (Some i)

-- it goes over some rows, and stands at one if this is true
-- Own.
-- Pinned by: seeks
pub record GoesOver (it : BlockIter) (stands : Bool) : Type 0 where
  pub walks : (rows : List Row) × (place : Option ℕ) × Walks it rows place
  pub there : stands ≡ true → StandsAtRow it

-- it was paused at a row of the block
-- Own.
-- Pinned by: seeks
abbrev pub PausedAtRow : Place → List ℕ → Type 0
PausedAtRow p bytes = (form : RowForm) × (rows : List Row) × (b : Block form bytes rows) × (i : ℕ) × PausedIn p form bytes rows b (Some i)
