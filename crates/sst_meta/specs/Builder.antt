-- What a builder of a block of names and values holds between its calls.
-- RocksDB: PropertyBlockBuilder in table/meta_blocks.h and meta_blocks.cc.
use Rattle.std.specs.Prelude.{◌⊎◌, ℕ, ◌<◌, ◌≤◌, List, [], ◌∷◌, ◌++◌, length}
use Rattle.sst_key.specs.Limits.{stored_key_limit, block_limit}
use Rattle.sst_block.specs.declared.row_form.RowForm.TheVariants.{Names}
use Rattle.sst_block.specs.Block.{Row, AreOrdered}
use Rattle.sst_block.specs.Chosen.{block_of}
use Rattle.sst_block.specs.Builder as rows
use Rattle.sst_meta.specs.declared.builder.PropsBuilder.{PropsBuilder}

-- a restart begins so many pairs: one begins them all, since a block has no more of them
-- Own.
-- Pinned by: finish.exact, two_properties
abbrev pub props_interval : ℕ
props_interval = 65536

-- the builder holds these pairs of a name and a value, which were set in this order
-- Own.
-- Pinned by: finish.exact, two_properties
abbrev pub Holds : PropsBuilder → List Row → Type 0
Holds b pairs = rows.Holds b.rows Names props_interval pairs

-- memory ran out in an earlier call
-- Own.
-- Pinned by: set.err, set.later
abbrev pub HasFailed : PropsBuilder → Type 0
HasFailed b = rows.HasFailed b.rows

-- the pair may come after those that the builder holds: its name is bytewise after the last and isn't too long, there
-- are not more than 65,536 names, and the block stays short
-- Own.
-- Pinned by: set.ok, two_properties
pub record Takes (b : PropsBuilder) (pair : Row) : Type 0 where
  pub pairs : List Row
  pub holds : Holds b pairs
  pub short_name : length pair.key ≤ stored_key_limit
  pub after : AreOrdered Names (pairs ++ pair ∷ [])
  pub few : length pairs < props_interval
  pub short : length (block_of Names props_interval (pairs ++ pair ∷ [])) < block_limit

-- a builder that has failed refuses each pair, and any other takes those that may come next
-- Own.
-- Pinned by: set.ok
abbrev pub CanSet : PropsBuilder → Row → Type 0
CanSet b pair = HasFailed b ⊎ Takes b pair
