-- How many bytes of a file are drawn to load what it says of itself.
-- Pinned by: load.drew (too few), end_drawn_twice (too many)
use Rattle.std.specs.Prelude.{ℕ, ◌+◌, List, Option, None, Some, option_and_then}
use Rattle.sst_num.specs.declared.block_handle.Handle.{Handle}
use Rattle.sst_block.specs.Block.{Row}
use Rattle.sst_device.specs.Drawn.{block_drawn}
use Rattle.sst_meta.specs.Footer.{later_length}
use Rattle.sst_meta.specs.LoadReading.{handle_in}
use Rattle.sst_meta.specs.Names.{name_bytes}
use Rattle.sst_meta.specs.Pairs.{value_of}
use Rattle.sst_meta.specs.declared.loading.Loaded.{Loaded}
use Rattle.sst_meta.specs.declared.name.Name.TheVariants as name

-- the most bytes that are read for the block at a handle, if there is one
-- RocksDB: table/meta_blocks.cc
abbrev pub handle_drawn : Option Handle → ℕ
handle_drawn None = 0
handle_drawn (Some h) = block_drawn h

-- for the properties to which a metaindex with these rows leads
-- RocksDB: table/meta_blocks.cc
abbrev pub props_drawn : List Row → ℕ
props_drawn names = handle_drawn (option_and_then handle_in (value_of (name_bytes name.Properties) names))

-- for all that the file says of itself: its last 53 bytes, its metaindex, its properties
-- RocksDB: table/meta_blocks.cc
abbrev pub loaded_drawn : Loaded → ℕ
loaded_drawn l = later_length + block_drawn l.footer.meta + props_drawn l.names
