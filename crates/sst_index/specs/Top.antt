-- What a builder of one index block holds between its calls: the pairs that were added.
-- RocksDB: index_block_builder_ of ShortenedIndexBuilder in table/block_based/index_builder.h.
-- Pinned by: finish.exact
use Rattle.std.specs.Prelude.{◌≡◌, ◌⊎◌, ℕ, ◌<◌, ◌≤◌, ◌^◌, Bool, true, false, List, [], ◌∷◌, ◌++◌, length, All}
use Rattle.sst_key.specs.Limits.{block_limit, stored_key_limit}
use Rattle.sst_block.specs.Block.{AreOrdered}
use Rattle.sst_block.specs.Builder.{Holds}
use Rattle.sst_block.specs.IndexRows.{IndexPair}
use Rattle.sst_index.specs.declared.flags.IndexFlags.{IndexFlags}
use Rattle.sst_index.specs.declared.top.TopBuilder.{TopBuilder}
use Rattle.sst_index.specs.Behind.{AreBehind, last_of}
use Rattle.sst_index.specs.IndexBlock.{form_of, rows_of_pairs, index_block}

-- memory ran out in an earlier call
-- Own.
-- Pinned by: add.err, add.later
abbrev pub TopHasFailed : TopBuilder → Type 0
TopHasFailed t = t.failed ≡ true

-- the pair may stand in a block of the form: its separator isn't too long, and has room for a tag unless it is a user key;
-- its handle is within 64 bits
-- Own.
-- Pinned by: add.ok
pub record IsPair (user_key : Bool) (pair : IndexPair) : Type 0 where
  pub short : length pair.separator ≤ stored_key_limit
  pub tagged : user_key ≡ false → 8 ≤ length pair.separator
  pub offset : pair.handle.offset < 2 ^ 64
  pub size : pair.handle.size < 2 ^ 64

-- the builder holds the pairs, which were added in this order, and the handle of the last
-- Own.
-- Pinned by: finish.exact
pub record HoldsPairs (t : TopBuilder) (flags : IndexFlags) (interval : ℕ) (pairs : List IndexPair) : Type 0 where
  pub sound : t.failed ≡ false
  pub delta_is : t.delta ≡ flags.delta
  pub before_is : t.before ≡ last_of pairs
  pub pairs_are : All (IsPair flags.user_key) pairs
  pub behind : flags.delta ≡ true → AreBehind pairs
  pub block : Holds t.block (form_of flags) interval (rows_of_pairs flags interval pairs)

-- the pair may come after those that the builder holds: its separator is after the last, and the block stays short; where
-- handles are differences, its block begins behind the last one
-- Own.
-- Pinned by: add.ok
pub record TakesPair (t : TopBuilder) (pair : IndexPair) : Type 0 where
  pub flags : IndexFlags
  pub interval : ℕ
  pub pairs : List IndexPair
  pub holds : HoldsPairs t flags interval pairs
  pub form : IsPair flags.user_key pair
  pub behind : flags.delta ≡ true → AreBehind (pairs ++ pair ∷ [])
  pub ordered : AreOrdered (form_of flags) (rows_of_pairs flags interval (pairs ++ pair ∷ []))
  pub short : length (index_block flags interval (pairs ++ pair ∷ [])) < block_limit

-- a builder that has failed refuses each pair, and any other takes those that may come next
-- Own.
-- Pinned by: add.ok
abbrev pub CanAddPair : TopBuilder → IndexPair → Type 0
CanAddPair t pair = TopHasFailed t ⊎ TakesPair t pair
