-- The bits that a user key takes in the lines of a filter.
-- RocksDB: util/bloom_impl.h, LegacyLocalityBloomImpl.
-- Pinned by: filter_of_one_key
use Rattle.std.specs.Prelude.{ℕ, zero, suc, ◌+◌, ◌*◌, ◌/◌, ◌%◌, ◌^◌, ◌<◌, ◌==◌, Bool, false, ◌||◌, List, [], ◌∷◌, slice_index}
use Rattle.sst_sums.specs.Hash.{hash32}

-- each number is one of a byte
-- Own.
-- Pinned by: a_filter_is_the_only_one
abbrev pub AreBytes : List ℕ → Type 0
AreBytes bytes = (k : ℕ) → slice_index bytes k < 256

-- the bit at a position of some bytes is set: bit p mod 8 of byte p / 8; beyond the bytes none is
abbrev pub is_set : List ℕ → ℕ → Bool
is_set bytes p = slice_index bytes (p / 8) / 2 ^ (p % 8) % 2 == 1

-- the hash of a user key in a filter
-- RocksDB: util/hash.h, BloomHash
-- Pinned by: filter_of_one_key
abbrev pub key_hash : List ℕ → ℕ
key_hash user = hash32 user 0xbc9f1d34

-- how far apart the probes of a hash are: the hash turned right by 17 of its 32 bits
-- Pinned by: step_of_the_running_hash, filter_of_one_key
abbrev pub step_of : ℕ → ℕ
step_of h = h / 2 ^ 17 + h % 2 ^ 17 * 2 ^ 15

-- the position of the bit that probe i of a hash takes, where each line has so many bytes. All probes of a hash are in one line.
-- Pinned by: filter_of_one_key, foreign_lines
abbrev pub position_of : ℕ → ℕ → ℕ → ℕ → ℕ
position_of lines size h i = h % lines * (8 * size) + (h + i * step_of h) % 2 ^ 32 % (8 * size)

-- one of the first n probes of a hash takes the bit at position p
-- Pinned by: filter_of_one_key
abbrev pub takes : ℕ → ℕ → ℕ → ℕ → ℕ → Bool
takes lines size h zero p = false
takes lines size h (suc n) p = takes lines size h n p || (position_of lines size h n == p)

-- one of the first n probes of one of the hashes takes the bit at position p
-- Pinned by: filter_of_one_key
abbrev pub some_takes : ℕ → ℕ → List ℕ → ℕ → ℕ → Bool
some_takes lines size [] n p = false
some_takes lines size (h ∷ hashes) n p = takes lines size h n p || some_takes lines size hashes n p
