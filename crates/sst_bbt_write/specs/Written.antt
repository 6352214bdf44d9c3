-- The one file that is written for a list with some options: which choices a writer makes, and which lists it takes.
-- RocksDB: BlockBasedTableBuilder::Add and Finish in table/block_based/block_based_table_builder.cc; PropertyBlockBuilder
-- and MetaIndexBuilder in table/meta_blocks.cc. The choices are this project's own.
-- Pinned by: forty_entries
use Rattle.std.specs.Prelude.{◌≡◌, ℕ, zero, suc, ◌+◌, ◌≤◌, Bool, true, false, List, [], ◌∷◌, ◌++◌, length, sum_by, All, Option, None, Some}
use Rattle.std.specs.List.{flat_map}
use Rattle.sst_num.specs.Spelling.{fixed, varint}
use Rattle.sst_num.specs.declared.block_handle.Handle.{Handle}
use Rattle.sst_key.specs.declared.entries.Entry.{Entry}
use Rattle.sst_key.specs.Entry.{IsOrdered, weight, key_of}
use Rattle.sst_block.specs.Block.{Row}
use Rattle.sst_block.specs.Builder.{last_key, interval_limit}
use Rattle.sst_device.specs.Framed.{frame_of}
use Rattle.sst_index.specs.Ends.{BlockEnd, flags_of}
use Rattle.sst_index.specs.IndexBytes.{IndexOptions, index_bytes, top_handle}
use Rattle.sst_index.specs.declared.flags.IndexFlags.{IndexFlags}
use Rattle.sst_meta.specs.Names as names
use Rattle.sst_meta.specs.Put.{ending_of}
use Rattle.sst_bbt_spec.specs.Rows.{HasSeq, rows_of}
use Rattle.sst_bbt_spec.specs.BlockBased.{BlockBased}
use Rattle.sst_bbt_write.specs.Cut.{data_block, blocks_for}
use Rattle.sst_key.specs.Limits.{key_limit, value_limit, weight_limit}
use Rattle.sst_meta.specs.PropertyNames as property_names
use Rattle.sst_meta.specs.declared.name.Name.TheVariants as name
use Rattle.sst_bbt_write.specs.declared.bbt_options.BbtOptions.{BbtOptions}
use Rattle.sst_bbt_write.specs.declared.properties.Sizes.{Sizes}

-- an entry is within the limits of each entry alone
-- Pinned by: add.ok, a_list_reads_back, keys_and_values_at_their_limits, what_a_text_says_fits
pub record IsInLimits (e : Entry) : Type 0 where
  pub key : length e.user ≤ key_limit
  pub value : length e.value ≤ value_limit
  pub seq : HasSeq e

-- a list that is written: it increases, each entry is within its limits, and so is their weight
-- Own.
-- Pinned by: add.ok, a_list_reads_back, what_a_text_says_fits
pub record Fits (entries : List Entry) : Type 0 where
  pub ordered : IsOrdered entries
  pub limits : All IsInLimits entries
  pub light : weight entries ≤ weight_limit

-- the choices may be made: version 2, 3 or 4; a restart at each entry, or at each so many up to 65,536; parts of the index of
-- up to 65,536 rows, or none
-- Own limits.
-- Pinned by: written_file_stands_for_its_list
pub record MayBeChosen (options : BbtOptions) : Type 0 where
  pub version_least : 2 ≤ options.version
  pub version_most : options.version ≤ 4
  pub restart_least : 1 ≤ options.restart
  pub restart_most : options.restart ≤ interval_limit
  pub index_restart_least : 1 ≤ options.index_restart
  pub index_restart_most : options.index_restart ≤ interval_limit
  pub parts_most : options.parts ≤ 65536

-- a stored block takes its bytes and a trailer of five
-- RocksDB: block_based_table_reader.h, kBlockTrailerSize
abbrev pub stored_length : List ℕ → ℕ
stored_length block = length block + 5

-- the stored data blocks
-- Own choice.
abbrev pub data_part : BbtOptions → List (List Entry) → List ℕ
data_part options blocks = flat_map (λ block. frame_of (data_block options block)) blocks

-- how the index is written
-- RocksDB: format_version, index_block_restart_interval and metadata_block_size in include/rocksdb/table.h
abbrev pub index_options : BbtOptions → IndexOptions
index_options options = record { version = options.version; interval = options.index_restart; parts = options.parts }

-- the first key of some blocks; where they have none, the key behind them, if there is one
-- Own.
abbrev pub next_key : List (List Entry) → Option (List ℕ) → Option (List ℕ)
next_key [] after = after
next_key ([] ∷ rest) after = next_key rest after
next_key ((e ∷ block) ∷ rest) after = Some (key_of e)

-- where data blocks end, the first of which stands at this place; `after` is the key of the entry behind them, if there is
-- one
-- RocksDB: IndexBuilder::AddIndexEntry in table/block_based/index_builder.h
-- Pinned by: forty_entries, worked_files
abbrev pub ends_from : BbtOptions → ℕ → List (List Entry) → Option (List ℕ) → List BlockEnd
ends_from options at [] after = []
ends_from options at (block ∷ rest) after =
    record {
      last = last_key [] (rows_of block);
      next_first = next_key rest after;
      handle = record { offset = at; size = length (data_block options block) };
    } ∷ ends_from options (at + stored_length (data_block options block)) rest after

-- those of all data blocks of a list
-- Pinned by: forty_entries, worked_files
abbrev pub ends_of : BbtOptions → List (List Entry) → List BlockEnd
ends_of options blocks = ends_from options 0 blocks None

-- what the separators and handles of the index are
-- Pinned by: files_of_versions
abbrev pub flags_for : BbtOptions → List (List Entry) → IndexFlags
flags_for options blocks = flags_of options.version (ends_of options blocks)

-- the stored index, whole or in parts, which stands behind the data blocks
-- Pinned by: forty_entries, worked_files, files_of_other_intervals
abbrev pub index_part : BbtOptions → List (List Entry) → List ℕ
index_part options blocks = index_bytes (index_options options) (length (data_part options blocks)) (ends_of options blocks)

-- where its top block stands
-- Pinned by: written_file_stands_for_its_list, worked_files
abbrev pub index_place : BbtOptions → List (List Entry) → Handle
index_place options blocks = top_handle (index_options options) (length (data_part options blocks)) (ends_of options blocks)

-- the bytes of all internal keys, and of all values
-- RocksDB: table_properties.h, raw_key_size, raw_value_size
-- Pinned by: forty_entries, a_block_for_each_version
abbrev pub key_bytes : List Entry → ℕ
key_bytes entries = sum_by (λ e. length (key_of e)) entries

abbrev pub value_bytes : List Entry → ℕ
value_bytes entries = sum_by (λ e. length e.value) entries

-- a property
-- RocksDB: table/meta_blocks.cc, AddTableProperty; which they are is own
-- Pinned by: worked_files
abbrev pub property : List ℕ → List ℕ → Row
property name value = record { key = name; value = value }

-- the type of the index: two levels where it has parts, else binary search
-- RocksDB: include/rocksdb/table.h, IndexType
-- Pinned by: worked_files, files_of_versions
abbrev pub index_type : ℕ → ℕ
index_type zero = 0
index_type (suc parts) = 2

-- a flag as a number
-- RocksDB: table/table_properties.cc
-- Pinned by: worked_files, files_of_versions
abbrev pub flag_number : Bool → ℕ
flag_number true = 1
flag_number false = 0

-- the properties, in bytewise order of their names
-- RocksDB: table/meta_blocks.cc, AddTableProperty; which they are is own
-- Pinned by: worked_files, files_of_versions
abbrev pub properties : BbtOptions → IndexFlags → Sizes → List Row
properties options flags sizes =
    property (names.name_bytes name.IndexType) (fixed 4 (index_type options.parts))
    ∷ property names.comparator names.bytewise
    ∷ property property_names.data_size (varint sizes.data_size)
    ∷ property property_names.filter_size (varint 0)
    ∷ property property_names.format_version (varint options.version)
    ∷ property (names.name_bytes name.IndexKeyIsUserKey) (varint (flag_number flags.user_key))
    ∷ property property_names.index_size (varint sizes.index_size)
    ∷ property (names.name_bytes name.IndexValueIsDeltaEncoded) (varint (flag_number flags.delta))
    ∷ property property_names.num_data_blocks (varint sizes.blocks)
    ∷ property property_names.num_entries (varint sizes.entries)
    ∷ property property_names.raw_key_size (varint sizes.keys)
    ∷ property property_names.raw_value_size (varint sizes.values)
    ∷ []

-- the numbers of a list that was cut into these blocks
-- RocksDB: table_properties.h
abbrev pub sizes_of : BbtOptions → List (List Entry) → List Entry → Sizes
sizes_of options blocks entries =
    record {
      data_size = length (data_part options blocks);
      index_size = length (index_part options blocks);
      blocks = length blocks;
      entries = length entries;
      keys = key_bytes entries;
      values = value_bytes entries;
    }

-- what stands after the stored data blocks, by the stored index, what it is like, and where its top block stands: this, and
-- then the end of a file with these properties, which is properties block, metaindex block and footer
-- Pinned by: written_file_stands_for_its_list, worked_files
abbrev pub end_of : BbtOptions → IndexFlags → List ℕ → Handle → Sizes → List ℕ
end_of options flags index at sizes = index ++ ending_of (sizes.data_size + sizes.index_size) options.version at (properties options flags sizes)

-- the same of blocks
-- Pinned by: written_file_stands_for_its_list, worked_files
abbrev pub end_part : BbtOptions → List (List Entry) → Sizes → List ℕ
end_part options blocks sizes = end_of options (flags_for options blocks) (index_part options blocks) (index_place options blocks) sizes

-- the bytes of the file of a list that was cut into these blocks
-- Pinned by: written_file_stands_for_its_list, worked_files
abbrev pub file_of_blocks : BbtOptions → List (List Entry) → List Entry → List ℕ
file_of_blocks options blocks entries = data_part options blocks ++ end_part options blocks (sizes_of options blocks entries)

-- the bytes of the file of a list
-- Pinned by: written_file_stands_for_its_list, forty_entries
unfoldable pub table_of : BbtOptions → List Entry → List ℕ
table_of options entries = file_of_blocks options (blocks_for options entries) entries

-- the file is the one that is written for the list, and it stands for it
-- Own.
-- Pinned by: finish.written, written_file_stands_for_its_list
pub record Written (options : BbtOptions) (file : List ℕ) (entries : List Entry) : Type 0 where
  pub bytes : file ≡ table_of options entries
  pub stands : BlockBased file entries
