-- The bytes of a filter in parts: the filter of each part, one behind the other, and then the top block that leads to them.
-- RocksDB: PartitionedFilterBlockBuilder::Finish in table/block_based/partitioned_filter_block.cc,
-- BlockBasedTableBuilder::WriteFilterBlock in table/block_based/block_based_table_builder.cc; wiki page "Partitioned Index
-- Filters". That a part is of the data blocks of one row of the index's top block is this project's own.
-- Pinned by: finish.bytes, filter_of_two_parts
use Rattle.std.specs.Prelude.{ℕ, ◌+◌, List, [], ◌∷◌, ◌++◌, length, map}
use Rattle.std.specs.List.{flat_map}
use Rattle.sst_num.specs.declared.block_handle.Handle.{Handle}
use Rattle.sst_bloom.specs.Filter.{bloom_filter}
use Rattle.sst_block.specs.IndexRows.{IndexPair}
use Rattle.sst_device.specs.Framed.{frame_of}
use Rattle.sst_index.specs.declared.flags.IndexFlags.{IndexFlags}
use Rattle.sst_index.specs.Ends.{BlockEnd, pairs_of}
use Rattle.sst_index.specs.IndexBlock.{index_block}
use Rattle.sst_index.specs.IndexBytes.{IndexOptions, top_separators}

-- how many bytes a block takes in a file, with its trailer
-- RocksDB: kBlockTrailerSize in table/block_based/block_based_table_reader.h
-- Pinned by: finish.bytes, part_off_by_the_trailer
abbrev pub stored_size : ℕ → ℕ
stored_size size = size + 5

-- The pairs that lead to blocks of these sizes, which stand one behind the other, each with its trailer: the i-th separator
-- leads to the i-th block. `at` is where the first begins.
-- RocksDB: PartitionedFilterBlockBuilder::Finish
-- Pinned by: finish.bytes, filter_of_two_parts, part_off_by_the_trailer
abbrev pub leading_pairs : ℕ → List (List ℕ) → List ℕ → List IndexPair
leading_pairs at [] sizes = []
leading_pairs at (separator ∷ separators) [] = []
leading_pairs at (separator ∷ separators) (size ∷ sizes) =
    record { separator = separator; handle = record { offset = at; size = size } } ∷ leading_pairs (at + stored_size size) separators sizes

-- how long the filter of each part is; a part is the list of its user keys, at so many bits each
-- Pinned by: finish.bytes, filter_of_two_parts
abbrev pub filter_sizes : ℕ → List (List (List ℕ)) → List ℕ
filter_sizes bits parts = map (λ (part : List (List ℕ)). length (bloom_filter bits part)) parts

-- the filters of the parts as a file stores them, one after the other
-- RocksDB: block_based_table_builder.cc, WriteFilterBlock
-- Pinned by: finish.bytes, filter_of_two_parts
abbrev pub stored_filters : ℕ → List (List (List ℕ)) → List ℕ
stored_filters bits parts = flat_map (λ (part : List (List ℕ)). frame_of (bloom_filter bits part)) parts

-- the pairs that lead to the filters of the parts, of which the first begins at `base`
-- RocksDB: PartitionedFilterBlockBuilder::Finish
-- Pinned by: finish.bytes, filter_of_two_parts, no_key_of_a_part_is_denied
abbrev pub filter_pairs : ℕ → ℕ → List (List ℕ) → List (List (List ℕ)) → List IndexPair
filter_pairs bits base separators parts = leading_pairs base separators (filter_sizes bits parts)

-- the top block of the parts
-- Pinned by: finish.bytes, filter_of_two_parts
abbrev pub filter_top : IndexFlags → ℕ → ℕ → ℕ → List (List ℕ) → List (List (List ℕ)) → List ℕ
filter_top flags interval bits base separators parts = index_block flags interval (filter_pairs bits base separators parts)

-- all bytes of the filter, which stand from `base` on in the file
-- Pinned by: finish.bytes, filter_of_two_parts
abbrev pub filter_bytes : IndexFlags → ℕ → ℕ → ℕ → List (List ℕ) → List (List (List ℕ)) → List ℕ
filter_bytes flags interval bits base separators parts =
    stored_filters bits parts ++ frame_of (filter_top flags interval bits base separators parts)

-- where the top block of the parts stands
-- Pinned by: finish.handle, filter_of_two_parts
abbrev pub filter_handle : IndexFlags → ℕ → ℕ → ℕ → List (List ℕ) → List (List (List ℕ)) → Handle
filter_handle flags interval bits base separators parts =
    record { offset = base + length (stored_filters bits parts); size = length (filter_top flags interval bits base separators parts) }

-- the separators of the parts: the keys of the top block of the index
-- RocksDB: PartitionedFilterBlockBuilder::CutAFilterBlock (GetPartitionKey)
-- Pinned by: finish.bytes, filter_of_two_parts, part_led_to_by_the_next
abbrev pub part_separators : IndexOptions → List BlockEnd → List (List ℕ)
part_separators o blocks = top_separators o.parts (pairs_of o.version blocks)
