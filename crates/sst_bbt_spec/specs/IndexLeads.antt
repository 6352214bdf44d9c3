-- Where the rows of an index lead: those of the top block to the parts, and those of a part to data blocks. Whether the
-- index has parts, and what its separators and handles are, its form says, which the file's properties tell.
-- RocksDB: BlockBasedTable::NewDataBlockIterator in table/block_based/block_based_table_reader.cc and PartitionIndexReader
-- in table/block_based/partitioned_index_reader.h; wiki pages "Rocksdb BlockBasedTable Format" and "Partitioned Index
-- Filters".
-- Pinned by: a_file_stands_for_one_list, a_whole_index_is_parts_of_one_block
use Rattle.std.specs.Prelude.{◌≡◌, ℕ, ◌<◌, Bool, true, false, List, [], ◌∷◌, length, All}
use Rattle.sst_num.specs.declared.block_handle.Handle.{Handle}
use Rattle.sst_key.specs.declared.entries.Entry.{Entry}
use Rattle.sst_block.specs.declared.row_form.RowForm.TheVariants.{Entries}
use Rattle.sst_block.specs.Block.{Block}
use Rattle.sst_block.specs.IndexRows.{IndexPair, IndexRows}
use Rattle.sst_device.specs.Framed.{Framed}
use Rattle.sst_meta.specs.declared.index_form.IndexForm.{IndexForm}
use Rattle.sst_bbt_spec.specs.Rows.{HasSeq, rows_of}
use Rattle.sst_bbt_spec.specs.Way.{IndexedBlock}
use Rattle.sst_bbt_spec.specs.Parts.{Part, separator_of}

-- at the handle stands a data block with these entries, of which there is one at least
pub record HoldsEntries (file : List ℕ) (end : ℕ) (handle : Handle) (entries : List Entry) : Type 0 where
  pub block : List ℕ
  pub framed : Framed file end handle block
  pub rows : Block Entries block (rows_of entries)
  pub some : 0 < length entries
  pub seqs : All HasSeq entries

-- the rows of an index block lead to these data blocks, one after the other
abbrev pub LeadToBlocks : List ℕ → ℕ → Bool → List IndexPair → List IndexedBlock → Type 0
LeadToBlocks file end user_key [] blocks = blocks ≡ []
LeadToBlocks file end user_key (pair ∷ pairs) [] = ⊥
LeadToBlocks file end user_key (pair ∷ pairs) (block ∷ blocks) =
    (separator_of user_key pair.separator ≡ block.separator) × HoldsEntries file end pair.handle block.entries
    × LeadToBlocks file end user_key pairs blocks

-- at the handle stands an index block that says these pairs
pub record SaysPairs (file : List ℕ) (end : ℕ) (form : IndexForm) (handle : Handle) (pairs : List IndexPair) : Type 0 where
  pub block : List ℕ
  pub framed : Framed file end handle block
  pub rows : IndexRows form.user_key form.delta block pairs

-- at the handle stands a part of the index that says these pairs, of which there is one at least
pub record HoldsPairs (file : List ℕ) (end : ℕ) (form : IndexForm) (handle : Handle) (pairs : List IndexPair) : Type 0 where
  pub says : SaysPairs file end form handle pairs
  pub some : 0 < length pairs

-- at the handle stands a part of the index, whose rows lead to these data blocks
pub record HoldsPart (file : List ℕ) (end : ℕ) (form : IndexForm) (handle : Handle) (blocks : List IndexedBlock) : Type 0 where
  pub pairs : List IndexPair
  pub holds : HoldsPairs file end form handle pairs
  pub lead : LeadToBlocks file end form.user_key pairs blocks

-- A row of the top block leads to a part with these data blocks: in an index of parts the part stands at its handle;
-- in a whole index the row is itself the one row of the part.
abbrev pub LeadsWithin : Bool → List ℕ → ℕ → IndexForm → IndexPair → List IndexedBlock → Type 0
LeadsWithin true file end form pair blocks = HoldsPart file end form pair.handle blocks
LeadsWithin false file end form pair blocks = LeadToBlocks file end form.user_key (pair ∷ []) blocks

-- the rows of the top block lead to these parts, one after the other
abbrev pub LeadToParts : List ℕ → ℕ → IndexForm → List IndexPair → List Part → Type 0
LeadToParts file end form [] parts = parts ≡ []
LeadToParts file end form (pair ∷ pairs) [] = ⊥
LeadToParts file end form (pair ∷ pairs) (part ∷ parts) =
    (separator_of form.user_key pair.separator ≡ part.separator)
    × LeadsWithin form.parted file end form pair part.blocks × LeadToParts file end form pairs parts
