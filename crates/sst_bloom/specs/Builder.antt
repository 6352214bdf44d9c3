-- What a builder of a filter holds between its calls: the hash of each key that was added.
-- RocksDB: hash_entries_ of LegacyBloomBitsBuilder in table/block_based/filter_policy.cc.
-- Pinned by: finish.exact
use Rattle.std.specs.Prelude.{◌≡◌, ◌⊎◌, ℕ, ◌<◌, ◌≤◌, true, false, List, length, map}
use Rattle.sst_bloom.specs.declared.builder.BloomBuilder.{BloomBuilder}
use Rattle.sst_bloom.specs.Lines.{key_hash}

-- the most keys of one filter
-- Own.
-- Pinned by: finish.exact
abbrev pub key_limit : ℕ
key_limit = 4194304

-- memory ran out in an earlier call
-- Own.
-- Pinned by: add.err, add.later
abbrev pub HasFailed : BloomBuilder → Type 0
HasFailed b = b.failed ≡ true

-- the builder holds the user keys, which were added in this order
-- Own.
-- Pinned by: finish.exact
pub record HoldsKeys (b : BloomBuilder) (bits : ℕ) (users : List (List ℕ)) : Type 0 where
  pub sound : b.failed ≡ false
  pub bits_is : b.bits ≡ bits
  pub bits_least : 1 ≤ bits
  pub bits_most : bits ≤ 100
  pub few : length users ≤ key_limit
  pub hashes : b.hashes.items ≡ map key_hash users

-- one more user key may come
-- Own.
-- Pinned by: add.ok
pub record TakesKey (b : BloomBuilder) : Type 0 where
  pub bits : ℕ
  pub users : List (List ℕ)
  pub holds : HoldsKeys b bits users
  pub below : length users < key_limit

-- a builder that has failed refuses each key, and any other takes one below the limit
-- Own.
-- Pinned by: add.ok
abbrev pub CanAddKey : BloomBuilder → Type 0
CanAddKey b = HasFailed b ⊎ TakesKey b

-- a user key was added
-- Own.
-- Pinned by: finish.exact
pub record HoldsAKey (b : BloomBuilder) : Type 0 where
  pub bits : ℕ
  pub users : List (List ℕ)
  pub holds : HoldsKeys b bits users
  pub some : 1 ≤ length users

-- a builder that has failed may be ended, and any other to which a key was added
-- Own.
-- Pinned by: finish.exact
abbrev pub CanFinish : BloomBuilder → Type 0
CanFinish b = HasFailed b ⊎ HoldsAKey b
