-- Where the partitions of an index stand in a file.
-- RocksDB: PartitionedIndexBuilder::Finish in table/block_based/index_builder.cc; PartitionIndexReader in
-- table/block_based/partitioned_index_reader.cc.
-- Pinned by: an_index_stands_in_a_file
use Rattle.std.specs.Prelude.{◌≡◌, ℕ, ◌<◌, List, [], ◌∷◌, length}
use Rattle.sst_block.specs.IndexRows.{IndexPair, IndexRows}
use Rattle.sst_device.specs.Framed.{Framed}
use Rattle.sst_index.specs.declared.flags.IndexFlags.{IndexFlags}
use Rattle.sst_index.specs.IndexBlock.{index_block}
use Rattle.sst_index.specs.IndexBytes.{last_separator}

-- A pair leads to a partition with these pairs: it has the last separator of these, of which there is one at least, and at its
-- handle stands their block. `end` is the file's length without its footer.
-- RocksDB: index_builder.cc, PartitionedIndexBuilder::Finish
-- Pinned by: an_index_stands_in_a_file
pub record LeadsToPartition (file : List ℕ) (end : ℕ) (flags : IndexFlags) (interval : ℕ) (pair : IndexPair) (part : List IndexPair) : Type 0 where
  pub separator : pair.separator ≡ last_separator [] part
  pub framed : Framed file end pair.handle (index_block flags interval part)
  pub says : IndexRows flags.user_key flags.delta (index_block flags interval part) part
  pub some : 0 < length part

-- each of the pairs leads to its partition
-- RocksDB: index_builder.cc, PartitionedIndexBuilder::Finish
-- Pinned by: an_index_stands_in_a_file
abbrev pub LeadToPartitions : List ℕ → ℕ → IndexFlags → ℕ → List IndexPair → List (List IndexPair) → Type 0
LeadToPartitions file end flags interval [] parts = parts ≡ []
LeadToPartitions file end flags interval (pair ∷ pairs) [] = ⊥
LeadToPartitions file end flags interval (pair ∷ pairs) (part ∷ parts) =
    LeadsToPartition file end flags interval pair part × LeadToPartitions file end flags interval pairs parts
