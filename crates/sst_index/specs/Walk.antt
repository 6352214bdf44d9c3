-- A walk over the pairs of an index block: where it stands, and where a seek lands.
-- RocksDB: IndexBlockIter in table/block_based/block.h, IndexBlockIter::SeekImpl in table/block_based/block.cc.
-- Pinned by: next.moves, seek.moves
use Rattle.std.specs.Prelude.{◌≡◌, ℕ, nat_lt, if◌then◌else◌, Bool, true, false, List, length, count_by, Option, None, Some}
use Rattle.std.specs.Ordering.{nat_cmp, is_lt, ordering_then}
use Rattle.std.specs.Cmp.Lexicographic.{slice_cmp}
use Rattle.sst_key.specs.InternalKey.{user_of, tag_of}
use Rattle.sst_block.specs.IndexRows.{IndexPair, IndexRows}
use Rattle.sst_block.specs.Iter.{WalksIn}
use Rattle.sst_block.specs.Places.{PausedIn}
use Rattle.sst_index.specs.declared.flags.IndexFlags.{IndexFlags}
use Rattle.sst_index.specs.declared.walk.IndexIter.{IndexIter}
use Rattle.sst_index.specs.declared.walk.IndexPlace.{IndexPlace}
use Rattle.sst_index.specs.IndexBlock.{form_of}

-- the walk goes over the pairs that the block says, and stands at the place: at the i-th, from 0, or nowhere
-- RocksDB: block.h, Valid
-- Pinned by: next.moves, separator, handle, walks_of_an_index
pub record WalksPairs (it : IndexIter) (flags : IndexFlags) (bytes : List ℕ) (pairs : List IndexPair) (place : Option ℕ) : Type 0 where
  pub says : IndexRows flags.user_key flags.delta bytes pairs
  pub user_key_is : it.user_key ≡ flags.user_key
  pub walks : WalksIn it.walk (form_of flags) bytes says.rows says.block place

-- the walk over the pairs that the block says was paused at the place
-- Own.
-- Pinned by: pause, resume, seeks_in_an_index
pub record PausedPairs (p : IndexPlace) (flags : IndexFlags) (bytes : List ℕ) (pairs : List IndexPair) (place : Option ℕ) : Type 0 where
  pub says : IndexRows flags.user_key flags.delta bytes pairs
  pub paused : PausedIn p.place (form_of flags) bytes says.rows says.block place

-- the i-th pair, or nowhere where there is none
-- RocksDB: block.h, Valid
-- Pinned by: next.moves, next.tells, walks_of_an_index
abbrev pub pair_place : List IndexPair → ℕ → Option ℕ
pair_place pairs i = if nat_lt i (length pairs) then Some i else None

-- the separator of a pair is before a target, which is a user key and a tag; one that is a user key is compared with the user
-- key alone
-- RocksDB: block.cc, CompareCurrentKey; db/dbformat.h, InternalKeyComparator::Compare
-- Pinned by: a_seek_passes_the_pairs_before, seek.moves, seeks_in_an_index
abbrev pub is_pair_before : Bool → List ℕ → ℕ → IndexPair → Bool
is_pair_before true user tag pair = is_lt (slice_cmp nat_cmp pair.separator user)
is_pair_before false user tag pair =
    is_lt (ordering_then (slice_cmp nat_cmp (user_of pair.separator) user) (nat_cmp tag (tag_of pair.separator)))

-- how many pairs are before the target; where there is a pair of this number it is the first that isn't
-- Pinned by: a_seek_passes_the_pairs_before, seek.moves, seeks_in_an_index
abbrev pub pairs_before : Bool → List ℕ → ℕ → List IndexPair → ℕ
pairs_before user_key user tag pairs = count_by (is_pair_before user_key user tag) pairs

-- a walk goes over the pairs of some index block
-- For proofs alone.
pub record Walking (it : IndexIter) : Type 0 where
  pub flags : IndexFlags
  pub bytes : List ℕ
  pub pairs : List IndexPair
  pub place : Option ℕ
  pub walks : WalksPairs it flags bytes pairs place

-- a walk has landed on the first pair whose separator isn't before the target, and tells whether there is one
-- For proofs alone.
-- Pinned by: seek.moves
abbrev pub Lands : IndexIter → IndexIter → List ℕ → ℕ → Bool → Type 0
Lands old new user tag told =
    (flags : IndexFlags) (bytes : List ℕ) (pairs : List IndexPair) (place : Option ℕ) → WalksPairs old flags bytes pairs place
    → WalksPairs new flags bytes pairs (pair_place pairs (pairs_before flags.user_key user tag pairs))
    × (told ≡ nat_lt (pairs_before flags.user_key user tag pairs) (length pairs))
