-- The keys that stand between the blocks of a table: each isn't before the last key of its block, and is before the first
-- key of the next. They are short where a byte can be raised.
-- RocksDB: util/comparator.cc (BytewiseComparatorImpl::FindShortestSeparator, FindShortSuccessor), and
-- ShortenedIndexBuilder::FindShortestInternalKeySeparator and FindShortInternalKeySuccessor in
-- table/block_based/index_builder.cc. Which of the short keys is taken is this project's own.
use Rattle.std.specs.Prelude.{ℕ, suc, ◌+◌, ◌==◌, ◌&&◌, nat_lt, if◌then◌else◌, Option, None, Some, List, [], ◌∷◌, ◌++◌, length, take, get_or}
use Rattle.sst_key.specs.InternalKey.{user_of}
use Rattle.sst_block.specs.Block.{common}

-- where a user key is raised to stand between it and a later one: at the first byte in which they differ, unless that is its
-- last byte, or it comes to the other's byte by being greater by one
-- RocksDB: util/comparator.cc, FindShortestSeparator
-- Pinned by: separators, a_separator_separates
abbrev pub place_between : List ℕ → List ℕ → Option ℕ
place_between a b =
    if nat_lt (common a b + 1) (length a) && nat_lt (get_or a (common a b) 0 + 1) (get_or b (common a b) 0)
    then Some (common a b) else None

-- how many bytes at the front are FF, which can't be raised
-- Pinned by: separators
abbrev pub highest_front : List ℕ → ℕ
highest_front [] = 0
highest_front (x ∷ key) = if x == 255 then suc (highest_front key) else 0

-- where a user key is raised that has no later one: at the first byte that isn't FF, unless that is its last byte
-- RocksDB: util/comparator.cc, FindShortSuccessor
-- Pinned by: separators, a_separator_ends
abbrev pub place_after : List ℕ → Option ℕ
place_after key = if nat_lt (highest_front key + 1) (length key) then Some (highest_front key) else None

-- a user key up to a byte, and that byte greater by one
-- RocksDB: util/comparator.cc, FindShortestSeparator
-- Pinned by: separators
abbrev pub raised : List ℕ → ℕ → List ℕ
raised key at = take at key ++ (get_or key at 0 + 1) ∷ []

-- the tag that comes before all others of a user key: the greatest
-- RocksDB: db/dbformat.h, PackSequenceAndType of kMaxSequenceNumber; the eight bytes FF are own
-- Pinned by: separators
abbrev pub first_tag : List ℕ
first_tag = 255 ∷ 255 ∷ 255 ∷ 255 ∷ 255 ∷ 255 ∷ 255 ∷ 255 ∷ []

-- a stored key whose user key is raised there; without a place it stays
-- RocksDB: index_builder.cc, FindShortestInternalKeySeparator
-- Pinned by: separators
abbrev pub raised_key : List ℕ → Option ℕ → List ℕ
raised_key key None = key
raised_key key (Some at) = raised (user_of key) at ++ first_tag

-- the separator of a block whose last key is a, where the next block begins with the key b
-- Pinned by: a_separator_separates, separators
abbrev pub separator_between : List ℕ → List ℕ → List ℕ
separator_between a b = raised_key a (place_between (user_of a) (user_of b))

-- the separator of the last block, whose last key is a
-- Pinned by: a_separator_ends, separators
abbrev pub separator_after : List ℕ → List ℕ
separator_after a = raised_key a (place_after (user_of a))

-- the separator of a block with this last key; the next one, if there is one, begins with the second
-- Pinned by: put_separator.ok
abbrev pub separator_of : List ℕ → Option (List ℕ) → List ℕ
separator_of a None = separator_after a
separator_of a (Some b) = separator_between a b
