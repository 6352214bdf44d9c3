-- The rows of an index block as what they say: separators, and the handles of the blocks to which they lead. A handle stands
-- whole, or as the difference from the one before where the form has differences and the row shares bytes of its key.
-- RocksDB: IndexBlockIter::DecodeCurrentValue in table/block_based/block.cc, IndexValue::EncodeTo and DecodeFrom in
-- table/format.cc; wiki page "Rocksdb BlockBasedTable Format".
use Rattle.std.specs.Prelude.{◌≡◌, ℕ, Bool, List, [], ◌∷◌}
use Rattle.sst_num.specs.declared.block_handle.Handle.{Handle}
use Rattle.sst_block.specs.declared.row_form.RowForm.TheVariants.{Index}
use Rattle.sst_block.specs.Block.{Row, Spelled, Block, no_handle, SaysHandle}

-- what a row of an index says: a separator leads to the block at a handle
-- Pinned by: handle, index_rows_are_one, index_blocks
pub record IndexPair : Type 0 where
  pub separator : List ℕ
  pub handle : Handle

-- the rows say these pairs, one after the other
-- Pinned by: handle, index_rows_are_one, index_blocks
abbrev pub SayPairs : Bool → Handle → List Spelled → List IndexPair → Type 0
SayPairs delta before [] pairs = pairs ≡ []
SayPairs delta before (s ∷ rest) [] = ⊥
SayPairs delta before (s ∷ rest) (pair ∷ pairs) =
    (s.row.key ≡ pair.separator) × SaysHandle delta before s pair.handle × SayPairs delta pair.handle rest pairs

-- the bytes are an index block that says these pairs: its separators are user keys or stored keys, and its handles are
-- differences or stand whole
-- Pinned by: handle, index_rows_are_one, index_blocks
pub record IndexRows (user_key delta : Bool) (bytes : List ℕ) (pairs : List IndexPair) : Type 0 where
  pub rows : List Row
  pub block : Block (Index user_key delta) bytes rows
  pub says : SayPairs delta no_handle block.spelled pairs
