-- Handles that may be told by differences: each block begins behind the one before, so a handle is known by its size.
-- RocksDB: IndexValue::EncodeTo in table/format.cc, which asserts it; wiki page "Rocksdb BlockBasedTable Format".
-- Pinned by: an_index_block_says_its_pairs, index_of_differences
use Rattle.std.specs.Prelude.{◌≡◌, ◌+◌, ℕ, pos, ◌-ℤ◌, Option, None, Some, List, [], ◌∷◌}
use Rattle.sst_num.specs.Spelling.{IsSigned64, signed_varint}
use Rattle.sst_num.specs.declared.block_handle.Handle.{Handle}
use Rattle.sst_block.specs.IndexRows.{IndexPair}

-- the block of a handle begins behind another block and its trailer, and the difference of their sizes is a number of 64 bits
-- that has a sign
-- RocksDB: table/format.cc, IndexValue::EncodeTo
-- Pinned by: an_index_block_says_its_pairs, index_of_differences
pub record IsBehind (before h : Handle) : Type 0 where
  pub begins : h.offset ≡ before.offset + before.size + 5
  pub signed : IsSigned64 (pos h.size -ℤ pos before.size)

-- each block begins behind the one before; `before` is the handle before the first
-- RocksDB: table/format.cc, IndexValue::EncodeTo
-- Pinned by: an_index_block_says_its_pairs, index_of_differences
abbrev pub ComeBehind : Handle → List IndexPair → Type 0
ComeBehind before [] = Unit {0}
ComeBehind before (pair ∷ pairs) = IsBehind before pair.handle × ComeBehind pair.handle pairs

-- the same, where nothing is asked of the first
-- RocksDB: table/format.cc, IndexValue::EncodeTo
-- Pinned by: an_index_block_says_its_pairs, index_of_differences
abbrev pub AreBehind : List IndexPair → Type 0
AreBehind [] = Unit {0}
AreBehind (pair ∷ pairs) = ComeBehind pair.handle pairs

-- the handle of the last of some pairs; `before` is that before them
-- For proofs alone.
abbrev pub last_handle : Handle → List IndexPair → Handle
last_handle before [] = before
last_handle before (pair ∷ pairs) = last_handle pair.handle pairs

-- the handle of the last pair, if there is one
-- RocksDB: index_builder.h, last_encoded_handle_ of ShortenedIndexBuilder
-- Pinned by: finish.exact
abbrev pub last_of : List IndexPair → Option Handle
last_of [] = None
last_of (pair ∷ pairs) = Some (last_handle pair.handle pairs)

-- how a handle is told by the difference from the one before, if there is one
-- RocksDB: table/format.cc, IndexValue::EncodeTo
-- Pinned by: finish.exact, index_of_differences
abbrev pub difference_of : Option Handle → Handle → List ℕ
difference_of None h = []
difference_of (Some before) h = signed_varint (pos h.size -ℤ pos before.size)
