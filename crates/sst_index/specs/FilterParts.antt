-- What a builder of a filter in parts holds between its calls: the user keys of each part that was cut, and those of the part that
-- is being filled.
-- RocksDB: PartitionedFilterBlockBuilder in table/block_based/partitioned_filter_block.h.
-- Pinned by: finish.bytes
use Rattle.std.specs.Prelude.{◌≡◌, ◌⊎◌, ℕ, ◌<◌, ◌≤◌, true, false, List, [], length}
use Rattle.sst_bloom.specs.Builder.{HoldsKeys, key_limit}
use Rattle.sst_index.specs.declared.builder.IndexBuilder.{IndexBuilder}
use Rattle.sst_index.specs.declared.filter_parts.PartFilterBuilder.{PartFilterBuilder}
use Rattle.sst_index.specs.Ends.{BlockEnd}
use Rattle.sst_index.specs.FilterBytes.{filter_sizes, stored_filters, part_separators}
use Rattle.sst_index.specs.Index.{Holds}
use Rattle.sst_index.specs.IndexBytes.{IndexOptions}

-- memory ran out in an earlier call
-- Own.
-- Pinned by: add.err, add.later
abbrev pub PartsHaveFailed : PartFilterBuilder → Type 0
PartsHaveFailed b = b.failed ≡ true

-- the builder holds the parts that were cut, in this order, and of the part after them the user keys that were added
-- Own.
-- Pinned by: finish.bytes
pub record HoldsParts (b : PartFilterBuilder) (bits : ℕ) (parts : List (List (List ℕ))) (users : List (List ℕ)) : Type 0 where
  pub sound : b.failed ≡ false
  pub bits_is : b.bits ≡ bits
  pub part : HoldsKeys b.part bits users
  pub stored_is : b.stored.items ≡ stored_filters bits parts
  pub sizes_are : b.sizes.items ≡ filter_sizes bits parts

-- one more user key may come
-- Own.
-- Pinned by: add.ok
pub record TakesUser (b : PartFilterBuilder) : Type 0 where
  pub bits : ℕ
  pub parts : List (List (List ℕ))
  pub users : List (List ℕ)
  pub holds : HoldsParts b bits parts users
  pub below : length users < key_limit

-- a builder that has failed refuses each key, and any other takes one below the limit of a part
-- Own.
-- Pinned by: add.ok
abbrev pub CanAddUser : PartFilterBuilder → Type 0
CanAddUser b = PartsHaveFailed b ⊎ TakesUser b

-- the part may be cut: it has a user key
-- Own.
-- Pinned by: cut.ok
pub record HoldsUsers (b : PartFilterBuilder) : Type 0 where
  pub bits : ℕ
  pub parts : List (List (List ℕ))
  pub users : List (List ℕ)
  pub holds : HoldsParts b bits parts users
  pub some : 1 ≤ length users

-- a builder that has failed refuses each cut, and any other cuts a part that has a user key
-- Own.
-- Pinned by: cut.ok
abbrev pub CanCut : PartFilterBuilder → Type 0
CanCut b = PartsHaveFailed b ⊎ HoldsUsers b

-- the last part was cut, and there are as many as the index has rows in its top block
-- RocksDB: PartitionedFilterBlockBuilder::Finish
-- Pinned by: finish.bytes
pub record HoldsAll (b : PartFilterBuilder) (index : IndexBuilder) : Type 0 where
  pub bits : ℕ
  pub parts : List (List (List ℕ))
  pub options : IndexOptions
  pub blocks : List BlockEnd
  pub holds : HoldsParts b bits parts []
  pub leads : Holds index options blocks
  pub many : length parts ≡ length (part_separators options blocks)

-- a builder that has failed may be ended, and any other that holds all parts
-- Own.
-- Pinned by: finish.bytes
abbrev pub CanEnd : PartFilterBuilder → IndexBuilder → Type 0
CanEnd b index = PartsHaveFailed b ⊎ HoldsAll b index
