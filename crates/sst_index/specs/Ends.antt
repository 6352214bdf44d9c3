-- What an index is made of: where each data block ends, and where it stands.
-- RocksDB: IndexBuilder::AddIndexEntry in table/block_based/index_builder.h.
use Rattle.std.specs.Prelude.{◌≡◌, ◌≢◌, ℕ, ◌+◌, ◌^◌, ◌<◌, ◌≤◌, Bool, true, false, not, ◌&&◌, nat_le, bytes_eq, Option, None, Some, List, [], ◌∷◌, length, map, sum_by, All}
use Rattle.std.specs.List.{list_any}
use Rattle.std.specs.declared.cmp.Ordering.TheVariants.{Less, Greater}
use Rattle.sst_num.specs.declared.block_handle.Handle.{Handle}
use Rattle.sst_key.specs.InternalKey.{user_of, internal_cmp}
use Rattle.sst_key.specs.Limits.{stored_key_limit, block_limit}
use Rattle.sst_block.specs.IndexRows.{IndexPair}
use Rattle.sst_index.specs.declared.flags.IndexFlags.{IndexFlags}
use Rattle.sst_index.specs.Separators.{separator_of}

-- a data block: its last key, the first key of the next block if there is one, and where it stands
-- Pinned by: index_of_blocks_that_share, index_of_user_keys
pub record BlockEnd : Type 0 where
  pub last : List ℕ
  pub next_first : Option (List ℕ)
  pub handle : Handle

-- the next block begins with the user key with which this one ends
-- RocksDB: index_builder.h, seperator_is_key_plus_seq_ of ShortenedIndexBuilder
-- Pinned by: index_of_blocks_that_share, index_of_user_keys
abbrev pub begins_with : List ℕ → Option (List ℕ) → Bool
begins_with last None = false
begins_with last (Some next) = bytes_eq (user_of last) (user_of next)

-- the same of a data block
-- RocksDB: index_builder.h, seperator_is_key_plus_seq_ of ShortenedIndexBuilder
-- Pinned by: index_of_blocks_that_share, index_of_user_keys
abbrev pub shares_user : BlockEnd → Bool
shares_user e = begins_with e.last e.next_first

-- what the separators and handles of a whole index are: from version 3 on separators are user keys, where no two neighbouring
-- blocks share one; in version 4 handles are differences
-- RocksDB: index_builder.h, seperator_is_key_plus_seq, and use_value_delta_encoding in
-- table/block_based/block_based_table_builder.cc. That it is decided for the whole index is RocksDB's too; the versions are
-- those of include/rocksdb/table.h, format_version
-- Pinned by: index_of_blocks_that_share, index_of_user_keys, index_of_differences, user_keys_though_shared
abbrev pub flags_of : ℕ → List BlockEnd → IndexFlags
flags_of version ends = record { user_key = nat_le 3 version && not (list_any shares_user ends); delta = nat_le 4 version }

-- the separator of a block, as a stored key
-- Pinned by: separator.exact
abbrev pub stored_separator : BlockEnd → List ℕ
stored_separator e = separator_of e.last e.next_first

-- a separator as the index has it
-- Pinned by: separator.exact
abbrev pub separator_in : Bool → List ℕ → List ℕ
separator_in true key = user_of key
separator_in false key = key

-- the pair that leads to a data block
-- Pinned by: finish.bytes
abbrev pub pair_of : Bool → BlockEnd → IndexPair
pair_of user_key e = record { separator = separator_in user_key (stored_separator e); handle = e.handle }

-- the pairs that lead to all of them
-- Pinned by: finish.bytes
abbrev pub pairs_of : ℕ → List BlockEnd → List IndexPair
pairs_of version ends = map (pair_of (flags_of version ends).user_key) ends

-- a key that may stand in a block, after another
-- Own.
-- Pinned by: add.ok
abbrev pub IsAfter : List ℕ → Option (List ℕ) → Type 0
IsAfter last None = Unit {0}
IsAfter last (Some next) = (8 ≤ length next) × (internal_cmp last next ≡ Less)

-- a data block may be led to: its last key is a stored key and before the first of the next block, and it stands within the
-- limits of a file
-- Own.
-- Pinned by: add.ok
pub record IsEnd (e : BlockEnd) : Type 0 where
  pub tagged : 8 ≤ length e.last
  pub short : length e.last ≤ stored_key_limit
  pub next : IsAfter e.last e.next_first
  pub offset : e.handle.offset < 2 ^ 40
  pub size : e.handle.size < 2 ^ 29

-- a data block follows another: that one's first key of the next block isn't after this one's last, and behind its block and
-- trailer begins this one
-- RocksDB: wiki page "Rocksdb BlockBasedTable Format"
-- Pinned by: add.ok
pub record Follows (a b : BlockEnd) : Type 0 where
  pub first : List ℕ
  pub next : a.next_first ≡ Some first
  pub ordered : internal_cmp first b.last ≢ Greater
  pub begins : b.handle.offset ≡ a.handle.offset + a.handle.size + 5

-- each data block is followed by the next
-- RocksDB: wiki page "Rocksdb BlockBasedTable Format"
-- Pinned by: add.ok
abbrev pub AreFollowed : List BlockEnd → Type 0
AreFollowed [] = Unit {0}
AreFollowed (a ∷ []) = Unit {0}
AreFollowed (a ∷ b ∷ rest) = Follows a b × AreFollowed (b ∷ rest)

-- what a data block counts towards the limit of an index
-- Own.
-- Pinned by: add.ok
abbrev pub end_weight : BlockEnd → ℕ
end_weight e = length e.last + 64

-- the data blocks may have an index
-- Own.
-- Pinned by: add.ok
pub record AreEnds (ends : List BlockEnd) : Type 0 where
  pub each : All IsEnd ends
  pub followed : AreFollowed ends
  pub light : sum_by end_weight ends ≤ block_limit
