-- Where a seek lands in a block: at the first row whose key isn't before the target.
-- RocksDB: DataBlockIter::SeekImpl and IndexBlockIter::SeekImpl in table/block_based/block.cc.
use Rattle.std.specs.Prelude.{◌≡◌, ◌⊎◌, ℕ, ◌<◌, ◌≤◌, Bool, true, false, List, length, count_by, slice_get, Option, None, Some}
use Rattle.std.specs.Ordering.{is_lt}
use Rattle.sst_block.specs.declared.row_form.RowForm.{RowForm}
use Rattle.sst_block.specs.declared.iter.BlockIter.{BlockIter}
use Rattle.sst_block.specs.Block.{Row, Block, key_cmp}
use Rattle.sst_block.specs.BlockReading.{has_tag}
use Rattle.sst_block.specs.Iter.{WalksIn, start_of}

-- the row's key is before the target in the order of the form
-- RocksDB: block.cc, CompareCurrentKey
-- Pinned by: a_seek_passes_the_rows_before, seeks
abbrev pub is_row_before : RowForm → List ℕ → Row → Bool
is_row_before form target row = is_lt (key_cmp form row.key target)

-- how many rows are before the target; where there is a row of this number it is the first that isn't
-- Pinned by: a_seek_passes_the_rows_before, seeks
abbrev pub rows_before : RowForm → List ℕ → List Row → ℕ
rows_before form target rows = count_by (is_row_before form target) rows

-- the target has a tag where the form's keys have one
-- Pinned by: seeks
abbrev pub IsTarget : RowForm → List ℕ → Type 0
IsTarget form target = has_tag form ≡ true → 8 ≤ length target

-- there is a row, and it is before the target
-- For proofs alone.
-- Pinned by: seek.within
abbrev pub is_before : RowForm → List ℕ → Option Row → Bool
is_before form target None = false
is_before form target (Some row) = is_row_before form target row

-- the walk goes over a block of the form that the target is for
-- For proofs alone.
-- Pinned by: seek.within
pub record CanSeek (it : BlockIter) (target : List ℕ) : Type 0 where
  pub form : RowForm
  pub bytes : List ℕ
  pub rows : List Row
  pub block : Block form bytes rows
  pub place : Option ℕ
  pub walks : WalksIn it form bytes rows block place
  pub long : IsTarget form target

-- no row that is before the one that begins at this restart isn't before the target: a seek may begin there
-- For proofs alone.
-- Pinned by: seek.within
abbrev pub MayBegin : (form : RowForm) → List ℕ → {bytes : List ℕ} → {rows : List Row} → Block form bytes rows → ℕ → Type 0
MayBegin form target {bytes} {rows} block i =
    (k : ℕ) → slice_get block.restarts i ≡ Some (start_of form block.spelled k) → (k ≡ 0) ⊎ (k < length rows) → k ≤ rows_before form target rows
