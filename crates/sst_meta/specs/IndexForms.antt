-- The form of a file's index, as the properties tell it, whatever the version of the file.
-- RocksDB: the properties rocksdb.block.based.table.index.type (BlockBasedTablePropertyNames::kIndexType in
-- include/rocksdb/table.h), rocksdb.index.key.is.user.key and rocksdb.index.value.is.delta.encoded
-- (include/rocksdb/table_properties.h); CreateIndexReader in table/block_based/block_based_table_reader.cc.
-- Pinned by: index_form.exact, forms_that_files_tell
use Rattle.std.specs.Prelude.{ℕ, Bool, false, not, List, Option, None, Some, bytes_eq}
use Rattle.sst_num.specs.Spelling.{fixed, varint}
use Rattle.sst_block.specs.Block.{Row}
use Rattle.sst_meta.specs.Names.{name_bytes}
use Rattle.sst_meta.specs.Pairs.{value_of}
use Rattle.sst_meta.specs.declared.index_form.IndexForm.{IndexForm}
use Rattle.sst_meta.specs.declared.name.Name.TheVariants as name

-- the type of the index is that of two levels
-- RocksDB: include/rocksdb/table.h, kTwoLevelIndexSearch
-- Pinned by: index_form.exact, forms_that_files_tell
abbrev pub is_two_levels : Option (List ℕ) → Bool
is_two_levels None = false
is_two_levels (Some value) = bytes_eq value (fixed 4 2)

-- the flag is there, and isn't 0
-- RocksDB: table/table_properties.cc
-- Pinned by: index_form.exact, forms_that_files_tell
abbrev pub is_set : Option (List ℕ) → Bool
is_set None = false
is_set (Some value) = not (bytes_eq value (varint 0))

-- the form that these properties tell
-- Pinned by: index_form.exact, forms_that_files_tell
abbrev pub form_said : List Row → IndexForm
form_said props =
    record {
      parted = is_two_levels (value_of (name_bytes name.IndexType) props);
      user_key = is_set (value_of (name_bytes name.IndexKeyIsUserKey) props);
      delta = is_set (value_of (name_bytes name.IndexValueIsDeltaEncoded) props);
    }

-- the form without anything of these: a whole index of stored keys and whole handles
-- Pinned by: index_form.exact, forms_that_files_tell
abbrev pub plain_form : IndexForm
plain_form = record { parted = false; user_key = false; delta = false }

-- the form of the index of a file with these properties, or with none
-- Pinned by: index_form.exact, forms_that_files_tell
abbrev pub index_form : Option (List Row) → IndexForm
index_form None = plain_form
index_form (Some props) = form_said props
