-- The names of the metaindex and of the properties that a reader looks at, in bytes.
-- RocksDB: kPropertiesBlockName and kRangeDelBlockName in table/meta_blocks.cc; BlockBasedTablePropertyNames in
-- table/block_based/block_based_table_factory.cc; ExternalSstFilePropertyNames in table/sst_file_writer_collectors.h;
-- TablePropertiesNames in table/table_properties.cc; BytewiseComparatorImpl::Name in util/comparator.cc.
use Rattle.std.specs.Prelude.{ℕ, List, codes}
use Rattle.sst_meta.specs.declared.name.Name.{Name}
use Rattle.sst_meta.specs.declared.name.Name.TheVariants.{Properties, IndexType, GlobalSequence, ExternalVersion, IndexKeyIsUserKey, IndexValueIsDeltaEncoded}

-- the bytes of a name that a fault names
-- RocksDB: table/meta_blocks.cc, kPropertiesBlockName; block_based_table_factory.cc, kIndexType;
-- sst_file_writer_collectors.h; table_properties.cc
-- Pinned by: names_that_are_faults, properties_that_are_faults
abbrev pub name_bytes : Name → List ℕ
name_bytes Properties = codes "rocksdb.properties"
name_bytes IndexType = codes "rocksdb.block.based.table.index.type"
name_bytes GlobalSequence = codes "rocksdb.external_sst_file.global_seqno"
name_bytes ExternalVersion = codes "rocksdb.external_sst_file.version"
name_bytes IndexKeyIsUserKey = codes "rocksdb.index.key.is.user.key"
name_bytes IndexValueIsDeltaEncoded = codes "rocksdb.index.value.is.delta.encoded"

-- the metaindex has this name where there is a block of range tombstones
-- Pinned by: names_that_are_faults
abbrev pub range_tombstones : List ℕ
range_tombstones = codes "rocksdb.range_del"

-- the property that names the order of user keys, and its value for the bytewise order
-- RocksDB: table_properties.cc, kComparator; util/comparator.cc
-- Pinned by: properties_that_are_faults, properties_that_are_good
abbrev pub comparator : List ℕ
comparator = codes "rocksdb.comparator"

abbrev pub bytewise : List ℕ
bytewise = codes "leveldb.BytewiseComparator"
