-- What the calls of a table mean, said of the list itself and without a count.
-- RocksDB: Iterator (Seek, SeekForPrev) and ReadOptions::snapshot in include/rocksdb.
-- Pinned by: seek_lands_on_the_first_not_before, seek_for_prev_lands_on_the_last_up_to
use Rattle.std.specs.Prelude.{◌≡◌, ◌⊎◌, ℕ, ◌<◌, ◌≤◌, Some, List, ◌++◌, length, slice_get}
use Rattle.std.specs.Ordering.{nat_cmp}
use Rattle.std.specs.Cmp.Lexicographic.{slice_cmp}
use Rattle.std.specs.declared.cmp.Ordering.TheVariants.{Less}
use Rattle.sst_key.specs.declared.entries.Entry.{Entry}

-- the entry is before the target: its user key is less, or it is the same and the entry is newer
-- RocksDB: db/dbformat.h, InternalKeyComparator::Compare
-- Pinned by: targets_compare_as_said
abbrev pub IsBeforeTarget : List ℕ → ℕ → Entry → Type 0
IsBeforeTarget user seq e = (slice_cmp nat_cmp e.user user ≡ Less) ⊎ ((e.user ≡ user) × (seq < e.seq))

-- the entry is before the target or at it: its user key is less, or it is the same and the entry isn't older
-- RocksDB: db/dbformat.h, InternalKeyComparator::Compare
-- Pinned by: targets_compare_as_said
abbrev pub IsUpToTarget : List ℕ → ℕ → Entry → Type 0
IsUpToTarget user seq e = (slice_cmp nat_cmp e.user user ≡ Less) ⊎ ((e.user ≡ user) × (seq ≤ e.seq))

-- the entry is of the user key, and the snapshot sees it
-- RocksDB: include/rocksdb/options.h, ReadOptions::snapshot
-- Pinned by: get_shows_the_newest
abbrev pub IsSeen : List ℕ → ℕ → Entry → Type 0
IsSeen user snapshot e = (e.user ≡ user) × (e.seq ≤ snapshot)

-- the user key has a prefix of this length, and the entry's begins with it
-- RocksDB: table/plain/plain_table_reader.cc, PlainTableIterator::Seek
-- Pinned by: seek_stays_within_a_prefix
abbrev pub SharesPrefix : ℕ → List ℕ → Entry → Type 0
SharesPrefix prefix user e =
    (front : List ℕ) × (behind : List ℕ) × (rest : List ℕ) × (length front ≡ prefix) × (user ≡ front ++ behind) × (e.user ≡ front ++ rest)

-- at the place stands an entry of which this holds
-- Own.
abbrev pub StandsAt : (Entry → Type 0) → List Entry → ℕ → Type 0
StandsAt Is entries i = (e : Entry) × (slice_get entries i ≡ Some e) × Is e

-- it holds of each entry
-- Own.
abbrev pub Each : (Entry → Type 0) → List Entry → Type 0
Each Is entries = (j : ℕ) (e : Entry) → slice_get entries j ≡ Some e → Is e

-- it holds of each entry ahead of the place
-- Own.
abbrev pub EachAhead : (Entry → Type 0) → List Entry → ℕ → Type 0
EachAhead Is entries i = (j : ℕ) (e : Entry) → j < i → slice_get entries j ≡ Some e → Is e

-- it holds of each entry after the place
-- Own.
abbrev pub EachBehind : (Entry → Type 0) → List Entry → ℕ → Type 0
EachBehind Is entries i = (j : ℕ) (e : Entry) → i < j → slice_get entries j ≡ Some e → Is e

-- the place is the first one where an entry stands of which it holds
-- Own.
-- Pinned by: get_shows_the_newest
abbrev pub IsFirstPlace : (Entry → Type 0) → List Entry → ℕ → Type 0
IsFirstPlace Is entries i = StandsAt Is entries i × ((j : ℕ) → StandsAt Is entries j → i ≤ j)
