-- What is kept of a walk over the rows of a block that was paused. It has no bytes of the block but a key, so the block may go,
-- and the walk goes on over the same bytes once they are there again.
-- Own.
-- Pinned by: pause, resume.within, seeks
use Rattle.std.specs.Prelude.{◌≡◌, ℕ, ◌+◌, true, false, List, ◌∷◌, length, take, drop, Option, None, Some, slice_get}
use Rattle.std.specs.List.{flat_map}
use Rattle.sst_block.specs.declared.row_form.RowForm.{RowForm}
use Rattle.sst_block.specs.declared.place.Place.{Place}
use Rattle.sst_block.specs.Block.{Row, Spelled, Block, row_spelling, no_handle, LeadTo}

-- the place keeps this row, behind which these come: its key, how many bytes there are from it on and behind it, and how many
-- its value has
-- For proofs alone.
pub record KeepsRow (p : Place) (form : RowForm) (s : Spelled) (more : List Spelled) : Type 0 where
  pub stands : p.stands ≡ true
  pub key : p.key ≡ s.row.key
  pub left : p.left ≡ length (flat_map (row_spelling form) (s ∷ more))
  pub behind : p.behind ≡ length (flat_map (row_spelling form) more)
  pub value : p.value ≡ length s.row.value

-- the walk was paused at the i-th of these rows, from 0, or nowhere
-- For proofs alone.
abbrev pub IsPausedAt : Place → RowForm → List Spelled → Option ℕ → Type 0
IsPausedAt p form spelled None = p.stands ≡ false
IsPausedAt p form spelled (Some i) =
    (s : Spelled) × (slice_get spelled i ≡ Some s) × KeepsRow p form s (drop (i + 1) spelled) × LeadTo form no_handle (take (i + 1) spelled) p.handle

-- the walk over this block was paused at the place
pub record PausedIn (p : Place) (form : RowForm) (bytes : List ℕ) (rows : List Row) (block : Block form bytes rows) (place : Option ℕ) : Type 0 where
  pub is_at : IsPausedAt p form block.spelled place
