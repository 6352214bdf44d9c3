-- Where the moves of a walk over the rows of a block go.
use Rattle.std.proofs.Common.{◌≡◌, ℕ, ◌∙◌, sym, nat_lt, Bool, true, List, Option, None, length}
use Rattle.sst_block.specs.declared.row_form.RowForm.{RowForm}
use Rattle.sst_block.specs.declared.iter.BlockIter.{BlockIter}
use Rattle.sst_block.specs.declared.place.Place.{Place}
use Rattle.sst_block.specs.Block.{Row, Block}
use Rattle.sst_block.specs.Iter.{Walks, WalksIn, place_of}
use Rattle.sst_block.specs.Places.{PausedIn}
use Rattle.sst_block.specs.Seek.{IsTarget, rows_before}
use Rattle.sst_block.proofs.Walking.{walks-of, Moved-stands}
use Rattle.sst_tests_blocks.specs.BlockWalks.{GoesOver, PausedAtRow}

pub goes-over : (it : BlockIter) (rows : List Row) (i : ℕ) (told : Bool) → told ≡ nat_lt i (length rows) → Walks it rows (place_of rows i) → GoesOver it told
goes-over it rows i told is w =
    record {
      walks = (rows, place_of rows i, w);
      there = Moved-stands it told (record { rows = rows; i = i; walks = w; told = is });
    }

-- a seek has found its row, or that there is none
pub record Found (it : BlockIter) (form : RowForm) (bytes : List ℕ) (told : Bool) : Type 0 where
  pub rows : List Row
  pub block : Block form bytes rows
  pub i : ℕ
  pub told_is : told ≡ nat_lt i (length rows)
  pub walks : WalksIn it form bytes rows block (place_of rows i)

pub sought : (start it : BlockIter) (form : RowForm) (bytes : List ℕ) (rows : List Row) (block : Block form bytes rows) (target : List ℕ) (told : Bool)
    → WalksIn start form bytes rows block None → IsTarget form target
    → ((form : RowForm) (bytes : List ℕ) (rows : List Row) (b : Block form bytes rows) (place : Option ℕ) → WalksIn start form bytes rows b place → IsTarget form target
    → WalksIn it form bytes rows b (place_of rows (rows_before form target rows)))
    → ((form : RowForm) (bytes : List ℕ) (rows : List Row) (b : Block form bytes rows) (place : Option ℕ) → WalksIn start form bytes rows b place → IsTarget form target
    → told ≡ nat_lt (rows_before form target rows) (length rows))
    → Found it form bytes told
sought start it form bytes rows block target told w is moves tells =
    record {
      rows = rows;
      block = block;
      i = rows_before form target rows;
      told_is = tells form bytes rows block None w is;
      walks = moves form bytes rows block None w is;
    }

pub found-goes : (it : BlockIter) (form : RowForm) (bytes : List ℕ) (told : Bool) → Found it form bytes told → GoesOver it told
found-goes it form bytes told f = goes-over it f.rows f.i told f.told_is (walks-of it form bytes f.rows f.block (place_of f.rows f.i) f.walks)

-- it was paused there
pub record Paused (p : Place) (form : RowForm) (bytes : List ℕ) (told : Bool) : Type 0 where
  pub rows : List Row
  pub block : Block form bytes rows
  pub i : ℕ
  pub told_is : told ≡ nat_lt i (length rows)
  pub paused : PausedIn p form bytes rows block (place_of rows i)

paused-copy : (p : Place) (form : RowForm) (bytes copy : List ℕ) (told : Bool) → copy ≡ bytes → Paused p form bytes told → Paused p form copy told
paused-copy p form bytes copy told same at = rw same at

-- over the block, and so over a copy of it
pub found-paused : (it : BlockIter) (p : Place) (form : RowForm) (bytes copy : List ℕ) (told : Bool) → Found it form bytes told
    → ((form : RowForm) (bytes : List ℕ) (rows : List Row) (b : Block form bytes rows) (place : Option ℕ) → WalksIn it form bytes rows b place
    → PausedIn p form bytes rows b place)
    → copy ≡ bytes → Paused p form copy told
found-paused it p form bytes copy told f pauses same =
    paused-copy p form bytes copy told same
    (record {
      rows = f.rows;
      block = f.block;
      i = f.i;
      told_is = f.told_is;
      paused = pauses form bytes f.rows f.block (place_of f.rows f.i) f.walks;
    })

-- what was paused so was paused at a row where it said so
pub paused-there : (p : Place) (form : RowForm) (bytes : List ℕ) (told : Bool) → Paused p form bytes told → told ≡ true → PausedAtRow p bytes
paused-there p form bytes told kept there =
    let within : nat_lt kept.i (length kept.rows) ≡ true = sym kept.told_is ∙ there in
    let paused = kept.paused in
    (form, kept.rows, kept.block, kept.i, rw within at paused)

-- it goes on from there
pub paused-found : (p : Place) (it : BlockIter) (form : RowForm) (bytes : List ℕ) (told : Bool) → Paused p form bytes told
    → ((rows : List Row) (b : Block form bytes rows) (at : Option ℕ) → PausedIn p form bytes rows b at → WalksIn it form bytes rows b at) → Found it form bytes told
paused-found p it form bytes told kept resumes =
    record {
      rows = kept.rows;
      block = kept.block;
      i = kept.i;
      told_is = kept.told_is;
      walks = resumes kept.rows kept.block (place_of kept.rows kept.i) kept.paused;
    }
