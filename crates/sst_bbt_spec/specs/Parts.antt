-- The index of a table as a tree: each row of the top block leads to a part of the index, and each row of a part to a
-- data block. A whole index has no parts of its own: each of its rows counts as a part that has this one row.
-- RocksDB: PartitionedIndexBuilder in table/block_based/index_builder.h, PartitionIndexReader in
-- table/block_based/partitioned_index_reader.h; wiki page "Partitioned Index Filters".
use Rattle.std.specs.Prelude.{ℕ, Bool, true, false, List, [], ◌∷◌, ◌++◌, map}
use Rattle.sst_num.specs.Spelling.{fixed}
use Rattle.sst_key.specs.declared.entries.Entry.{Entry}
use Rattle.sst_bbt_spec.specs.Way.{IndexedBlock, joined}

-- a part of the index as a table has it: its separator in the top block, and the data blocks to which its rows lead
-- Pinned by: the_tree_decides, a_file_stands_for_one_list
pub record Part : Type 0 where
  pub separator : List ℕ
  pub blocks : List IndexedBlock

-- a part as one block, which has all entries of the part: so the top block sees it
-- Own.
-- Pinned by: the_way_over_parts_is_the_lists
abbrev pub whole_of : Part → IndexedBlock
whole_of part = record { separator = part.separator; entries = joined part.blocks }

-- a row of a whole index as a part that has this one row
-- Own.
-- Pinned by: a_whole_index_is_parts_of_one_block
abbrev pub alone : IndexedBlock → Part
alone block = record { separator = block.separator; blocks = block ∷ [] }

-- the stored entries of all parts, in order: the places of entries are numbers in this list
-- Own.
-- Pinned by: the_way_over_parts_is_the_lists, the_tree_decides
abbrev pub stored_in : List Part → List Entry
stored_in parts = joined (map whole_of parts)

-- a separator as a stored key: where separators are user keys, one stands as its stored key with tag 0, which is
-- the last that has this user key
-- RocksDB: table/block_based/index_builder.h, IndexBuilder::seperator_is_key_plus_seq; that the tag is 0 is own
-- Pinned by: user_keys_are_compared_alone
abbrev pub separator_of : Bool → List ℕ → List ℕ
separator_of true key = key ++ fixed 8 0
separator_of false key = key
