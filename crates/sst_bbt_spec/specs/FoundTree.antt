-- The tree of a file's index as it is found by reading block after block, and when reading is exact.
-- RocksDB: BlockBasedTable::NewDataBlockIterator in table/block_based/block_based_table_reader_impl.h, and
-- PartitionedIndexIterator::InitPartitionedIndexBlock in table/block_based/partitioned_index_iterator.cc.
-- Pinned by: parts_are_found_where_they_lead
use Rattle.std.specs.Prelude.{◌≡◌, ℕ, suc, Bool, true, false, List, [], ◌∷◌, Result, Ok}
use Rattle.sst_num.specs.declared.block_handle.Handle.{Handle}
use Rattle.sst_key.specs.declared.entries.Entry.{Entry}
use Rattle.sst_block.specs.IndexRows.{IndexPair}
use Rattle.sst_meta.specs.declared.index_form.IndexForm.{IndexForm}
use Rattle.sst_bbt_spec.specs.Parts.{separator_of}
use Rattle.sst_bbt_spec.specs.IndexLeads.{HoldsEntries, HoldsPairs}
use Rattle.sst_bbt_spec.specs.FoundParts.{FoundBlock, FoundPart, then_open}

-- How the blocks of a file are read: the entries of the data block at a handle, the pairs of the index block at a
-- handle, or the fault that the block has. The other two name what a walk finds: keys on the wrong side of the
-- separator in the row of this number of the index block at a handle, and a user key that repeats in the first row of
-- the data block at a handle.
-- Own.
pub record Reading (F : Type 0) : Type 0 where
  pub entries : Handle → Result (List Entry) F
  pub pairs : Handle → Result (List IndexPair) F
  pub misplaced : Handle → ℕ → F
  pub repeated : Handle → F

-- the data blocks to which rows of the index block at `index` lead, of which the first has the number `row`
-- Own.
abbrev pub found_blocks : {F : Type 0} → Reading F → Bool → Handle → ℕ → List IndexPair → List (FoundBlock F)
found_blocks reading user_keys index row [] = []
found_blocks reading user_keys index row (pair ∷ pairs) =
    record {
      separator = separator_of user_keys pair.separator;
      entries = reading.entries pair.handle;
      misplaced = reading.misplaced index row;
      repeated = reading.repeated pair.handle;
    }
    ∷ found_blocks reading user_keys index (suc row) pairs

-- the data blocks of a part: those to which the index block at its handle leads; in a whole index the one to which
-- the row of the top block leads itself
-- Own.
abbrev pub found_within : {F : Type 0} → Bool → Reading F → Bool → Handle → ℕ → IndexPair → Result (List (FoundBlock F)) F
found_within true reading user_keys top row pair =
    then_open (reading.pairs pair.handle) (λ pairs. Ok (found_blocks reading user_keys pair.handle 0 pairs))
found_within false reading user_keys top row pair = Ok (found_blocks reading user_keys top row (pair ∷ []))

-- the parts to which rows of the top block lead, of which the first has the number `row`
-- Own.
abbrev pub found_parts : {F : Type 0} → Reading F → IndexForm → Handle → ℕ → List IndexPair → List (FoundPart F)
found_parts reading form top row [] = []
found_parts reading form top row (pair ∷ pairs) =
    record {
      separator = separator_of form.user_key pair.separator;
      blocks = found_within form.parted reading form.user_key top row pair;
      misplaced = reading.misplaced top row;
    }
    ∷ found_parts reading form top (suc row) pairs

-- reading is exact: it finds what stands at a handle, and nothing else
-- Own.
pub record IsExact {F : Type 0} (reading : Reading F) (file : List ℕ) (end : ℕ) (form : IndexForm) : Type 0 where
  pub finds_entries : (handle : Handle) (entries : List Entry) → HoldsEntries file end handle entries → reading.entries handle ≡ Ok entries
  pub has_entries : (handle : Handle) (entries : List Entry) → reading.entries handle ≡ Ok entries → HoldsEntries file end handle entries
  pub finds_pairs : (handle : Handle) (pairs : List IndexPair) → HoldsPairs file end form handle pairs → reading.pairs handle ≡ Ok pairs
  pub has_pairs : (handle : Handle) (pairs : List IndexPair) → reading.pairs handle ≡ Ok pairs → HoldsPairs file end form handle pairs
