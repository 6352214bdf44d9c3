-- The pairs of a name and a value that a meta block has as its rows.
-- RocksDB: ParsePropertiesBlock in table/meta_blocks.cc, which keeps them by name in a map; UserCollectedProperties in
-- include/rocksdb/table_properties.h.
use Rattle.std.specs.Prelude.{◌≡◌, ℕ, List, [], ◌∷◌, map, Option, None, Some, slice_get, bytes_eq, if◌then◌else◌, Result, Ok, Err}
use Rattle.sst_num.specs.declared.stops.Refused.{Refused}
use Rattle.sst_num.specs.declared.stops.Refused.TheVariants.{Cause, Memory}
use Rattle.sst_block.specs.declared.row_form.RowForm.TheVariants.{Names}
use Rattle.sst_block.specs.declared.fault.BlockFault.{BlockFault}
use Rattle.sst_block.specs.Block.{Row}
use Rattle.sst_block.specs.BlockReading.{Reads, block_read}
use Rattle.sst_meta.specs.declared.pair.Pair.{Pair}

-- a pair as a row
-- For proofs alone.
-- Pinned by: get.exact, two_properties_are_read
abbrev pub row_of : Pair → Row
row_of p = record { key = p.name; value = p.value }

abbrev pub rows_of_pairs : List Pair → List Row
rows_of_pairs pairs = map row_of pairs

-- the row is one of the rows
-- Own.
-- Pinned by: a_name_has_one_value
abbrev pub Has : List Row → Row → Type 0
Has rows row = (i : ℕ) × (slice_get rows i ≡ Some row)

-- the value of the first row with this name
-- Pinned by: a_name_has_one_value, two_properties_are_read
abbrev pub value_of : List ℕ → List Row → Option (List ℕ)
value_of name [] = None
value_of name (row ∷ rows) = if bytes_eq row.key name then Some row.value else value_of name rows

-- an answer is what was read of a block of names: its rows, or its first fault; want of memory says nothing
-- Own.
-- Pinned by: load.told
abbrev pub Gives : Result (List Row) (Refused BlockFault) → List ℕ → Type 0
Gives (Ok pairs) block = Reads Names block pairs
Gives (Err Memory) block = Unit {0}
Gives (Err (Cause fault)) block = block_read Names block ≡ Err fault
