-- Entries as the rows of a data block.
-- RocksDB: BlockBasedTableBuilder::Add in table/block_based/block_based_table_builder.cc; the layout at the top of
-- table/block_based/block_builder.cc.
use Rattle.std.specs.Prelude.{◌^◌, ◌<◌, List, map}
use Rattle.sst_key.specs.declared.entries.Entry.{Entry}
use Rattle.sst_key.specs.Entry.{key_of}
use Rattle.sst_block.specs.Block.{Row}

-- the sequence number is in range
-- RocksDB: db/dbformat.h, kMaxSequenceNumber
-- Pinned by: a_file_stands_for_one_list, add.ok
abbrev pub HasSeq : Entry → Type 0
HasSeq e = e.seq < 2 ^ 56

-- the row of an entry: its internal key, and its value
-- Pinned by: worked_files
abbrev pub row_of : Entry → Row
row_of e = record { key = key_of e; value = e.value }

-- the rows of a list
-- Pinned by: forty_entries
abbrev pub rows_of : List Entry → List Row
rows_of entries = map row_of entries
