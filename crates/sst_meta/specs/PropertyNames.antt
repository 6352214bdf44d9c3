-- The names of the properties that are written and that a reader doesn't look at, in bytes and in bytewise order.
-- RocksDB: TablePropertiesNames in table/table_properties.cc.
use Rattle.std.specs.Prelude.{ℕ, List, codes}

-- the names, each as it stands in a file
-- Pinned by: worked_files
abbrev pub data_size : List ℕ
data_size = codes "rocksdb.data.size"

abbrev pub filter_size : List ℕ
filter_size = codes "rocksdb.filter.size"

abbrev pub format_version : List ℕ
format_version = codes "rocksdb.format.version"

abbrev pub index_size : List ℕ
index_size = codes "rocksdb.index.size"

abbrev pub num_data_blocks : List ℕ
num_data_blocks = codes "rocksdb.num.data.blocks"

abbrev pub num_entries : List ℕ
num_entries = codes "rocksdb.num.entries"

abbrev pub raw_key_size : List ℕ
raw_key_size = codes "rocksdb.raw.key.size"

abbrev pub raw_value_size : List ℕ
raw_value_size = codes "rocksdb.raw.value.size"
