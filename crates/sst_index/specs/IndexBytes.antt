-- The bytes of a whole index: one stored index block, or partitions and then the top block that leads to them.
-- RocksDB: ShortenedIndexBuilder::Finish and PartitionedIndexBuilder::Finish in table/block_based/index_builder.h and
-- index_builder.cc, BlockBasedTableBuilder::WriteIndexBlock in table/block_based/block_based_table_builder.cc; wiki page
-- "Partitioned Index Filters". How many rows a partition has is this project's own.
use Rattle.std.specs.Prelude.{ℕ, zero, suc, ◌+◌, List, [], ◌∷◌, ◌++◌, length, take, drop, map}
use Rattle.std.specs.List.{flat_map}
use Rattle.sst_num.specs.declared.block_handle.Handle.{Handle}
use Rattle.sst_block.specs.IndexRows.{IndexPair}
use Rattle.sst_device.specs.Framed.{frame_of}
use Rattle.sst_index.specs.declared.flags.IndexFlags.{IndexFlags}
use Rattle.sst_index.specs.Ends.{BlockEnd, flags_of, pairs_of}
use Rattle.sst_index.specs.IndexBlock.{index_block}

-- how an index is written: the version of the format, how many rows a restart begins, and how many rows a partition has, or 0
-- where there are no partitions
-- RocksDB: format_version, index_block_restart_interval and metadata_block_size in include/rocksdb/table.h
-- Pinned by: index_of_blocks_that_share, index_of_user_keys
pub record IndexOptions : Type 0 where
  pub version : ℕ
  pub interval : ℕ
  pub parts : ℕ

-- the pairs in parts of k; `most` isn't less than the number of parts
-- Pinned by: partitions_are_the_pairs, index_of_blocks_that_share
abbrev pub in_parts : ℕ → ℕ → List IndexPair → List (List IndexPair)
in_parts zero k pairs = []
in_parts (suc most) k [] = []
in_parts (suc most) k (pair ∷ pairs) = take k (pair ∷ pairs) ∷ in_parts most k (drop k (pair ∷ pairs))

-- the pairs in parts of k, the last perhaps with fewer
-- Own.
-- Pinned by: partitions_are_the_pairs, index_of_blocks_that_share
abbrev pub parts_of : ℕ → List IndexPair → List (List IndexPair)
parts_of k pairs = in_parts (length pairs) k pairs

-- the separator of the last of some pairs; `before` is that before them
-- RocksDB: index_builder.cc, sub_index_last_key_ of PartitionedIndexBuilder
-- Pinned by: index_of_blocks_that_share, index_of_user_keys
abbrev pub last_separator : List ℕ → List IndexPair → List ℕ
last_separator before [] = before
last_separator before (pair ∷ pairs) = last_separator pair.separator pairs

-- the pair that leads to a partition, by its last separator; `at` is where it begins
-- RocksDB: index_builder.cc, PartitionedIndexBuilder::Finish
-- Pinned by: index_of_blocks_that_share, index_of_user_keys
abbrev pub part_pair : IndexFlags → ℕ → ℕ → List IndexPair → IndexPair
part_pair flags interval at part =
    record { separator = last_separator [] part; handle = record { offset = at; size = length (index_block flags interval part) } }

-- the pairs that lead to the partitions, which stand one behind the other; `at` is where the first begins
-- RocksDB: index_builder.cc, PartitionedIndexBuilder::Finish
-- Pinned by: index_of_blocks_that_share, index_of_user_keys
abbrev pub part_pairs : IndexFlags → ℕ → ℕ → List (List IndexPair) → List IndexPair
part_pairs flags interval at [] = []
part_pairs flags interval at (part ∷ parts) =
    part_pair flags interval at part ∷ part_pairs flags interval (at + length (index_block flags interval part) + 5) parts

-- partitions as a file stores them, one after the other
-- RocksDB: block_based_table_builder.cc, WriteIndexBlock
-- Pinned by: finish.bytes, index_of_blocks_that_share
abbrev pub stored_parts : IndexFlags → ℕ → List (List IndexPair) → List ℕ
stored_parts flags interval parts = flat_map (λ (part : List IndexPair). frame_of (index_block flags interval part)) parts

-- what stands before the top block: partitions of so many rows, or nothing
-- Pinned by: finish.bytes
abbrev pub below_top : IndexFlags → ℕ → ℕ → List IndexPair → List ℕ
below_top flags interval zero pairs = []
below_top flags interval (suc k) pairs = stored_parts flags interval (parts_of (suc k) pairs)

-- the pairs of the top block: those of the partitions, or all
-- Pinned by: finish.bytes
abbrev pub top_pairs : IndexFlags → ℕ → ℕ → ℕ → List IndexPair → List IndexPair
top_pairs flags interval zero base pairs = pairs
top_pairs flags interval (suc k) base pairs = part_pairs flags interval base (parts_of (suc k) pairs)

-- the keys of the top block: the last separator of each partition, or all separators
-- Pinned by: separator.exact, an_index_says_its_pairs
abbrev pub top_separators : ℕ → List IndexPair → List (List ℕ)
top_separators zero pairs = map (λ (pair : IndexPair). pair.separator) pairs
top_separators (suc k) pairs = map (last_separator []) (parts_of (suc k) pairs)

-- the top block of the pairs; what stands before it begins at `base` in the file
-- Pinned by: finish.bytes
abbrev pub top_block : IndexFlags → ℕ → ℕ → ℕ → List IndexPair → List ℕ
top_block flags interval parts base pairs = index_block flags interval (top_pairs flags interval parts base pairs)

-- the stored blocks of the pairs
-- Pinned by: finish.bytes
abbrev pub whole_bytes : IndexFlags → ℕ → ℕ → ℕ → List IndexPair → List ℕ
whole_bytes flags interval parts base pairs = below_top flags interval parts pairs ++ frame_of (top_block flags interval parts base pairs)

-- where the top block of the pairs stands
-- Pinned by: finish.handle
abbrev pub whole_handle : IndexFlags → ℕ → ℕ → ℕ → List IndexPair → Handle
whole_handle flags interval parts base pairs =
    record { offset = base + length (below_top flags interval parts pairs); size = length (top_block flags interval parts base pairs) }

-- all bytes of the index of these data blocks, which stand from `base` on in the file
-- Pinned by: finish.bytes
abbrev pub index_bytes : IndexOptions → ℕ → List BlockEnd → List ℕ
index_bytes o base ends = whole_bytes (flags_of o.version ends) o.interval o.parts base (pairs_of o.version ends)

-- where the top block of the index stands
-- Pinned by: finish.handle
abbrev pub top_handle : IndexOptions → ℕ → List BlockEnd → Handle
top_handle o base ends = whole_handle (flags_of o.version ends) o.interval o.parts base (pairs_of o.version ends)

-- how many bytes the index takes, with the trailers of its blocks
-- RocksDB: table/block_based/block_based_table_builder.cc, WritePropertiesBlock (index_size)
-- Pinned by: index_of_blocks_that_share, index_of_user_keys
abbrev pub index_size : IndexOptions → ℕ → List BlockEnd → ℕ
index_size o base ends = length (index_bytes o base ends)
