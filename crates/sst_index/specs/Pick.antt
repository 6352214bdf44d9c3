-- Which part of a filter has a user key, by the pairs that lead to the parts: that of the first pair whose separator isn't before
-- the key.
-- RocksDB: PartitionedFilterBlockReader::GetFilterPartitionHandle in table/block_based/partitioned_filter_block.cc. It seeks with the
-- sequence number of the read, and takes the last part behind all separators. That the target has the greatest tag, that a
-- stored separator of this very user key leaves the part open, and that no part has a key behind all separators is this project's own.
-- Pinned by: a_part_is_the_first_not_before, parts_of_a_filter
use Rattle.std.specs.Prelude.{◌≡◌, ℕ, ◌-◌, ◌^◌, Bool, true, false, bytes_eq, if◌then◌else◌, List, [], ◌∷◌, ◌++◌, All}
use Rattle.sst_key.specs.InternalKey.{user_of}
use Rattle.sst_block.specs.IndexRows.{IndexPair}
use Rattle.sst_index.specs.declared.pick.Pick.{Pick}
use Rattle.sst_index.specs.declared.pick.Pick.TheVariants.{Part, Unsure, Beyond}
use Rattle.sst_index.specs.Walk.{is_pair_before}

-- the tag with which a part is sought: the greatest, which comes before all others of a user key
-- Own.
-- Pinned by: a_part_is_the_first_not_before, parts_of_a_filter
abbrev pub greatest_tag : ℕ
greatest_tag = 2 ^ 64 - 1

-- the separator of a pair is before a user key: by the user keys alone, or, where it is a stored key, before the user key with
-- the greatest tag
-- RocksDB: GetFilterPartitionHandle
-- Pinned by: a_part_is_the_first_not_before, parts_of_a_filter
abbrev pub is_before_user : Bool → List ℕ → IndexPair → Bool
is_before_user user_key user pair = is_pair_before user_key user greatest_tag pair

-- What the first pair that isn't before a user key says: the key is in its part. But where its separator is a stored key of this
-- user key, the next part may have entries of the user key too, so no part alone can deny it.
-- Own.
-- Pinned by: parts_of_a_filter, own_separator_taken_as_part
abbrev pub part_at : Bool → List ℕ → IndexPair → Pick
part_at true user pair = Part pair.handle
part_at false user pair = if bytes_eq (user_of pair.separator) user then Unsure else Part pair.handle

-- the part of a user key: what the first pair says that isn't before it; where there is none, the key is beyond all parts
-- RocksDB: GetFilterPartitionHandle
-- Pinned by: pick_part.exact, a_part_is_the_first_not_before, parts_of_a_filter
abbrev pub part_of : Bool → List ℕ → List IndexPair → Pick
part_of user_key user [] = Beyond
part_of user_key user (pair ∷ pairs) =
    if is_before_user user_key user pair then part_of user_key user pairs else part_at user_key user pair

-- each of the pairs is before a user key
-- Pinned by: a_part_is_the_first_not_before
abbrev pub AreBeforeUser : Bool → List ℕ → List IndexPair → Type 0
AreBeforeUser user_key user pairs = All (λ (pair : IndexPair). is_before_user user_key user pair ≡ true) pairs

-- the pair is the first that isn't before a user key: those in front of it are, and it isn't
-- Pinned by: a_part_is_the_first_not_before
pub record IsFirstNotBefore (user_key : Bool) (user : List ℕ) (pairs : List IndexPair) (pair : IndexPair) : Type 0 where
  pub front : List IndexPair
  pub behind : List IndexPair
  pub joined : pairs ≡ front ++ pair ∷ behind
  pub before : AreBeforeUser user_key user front
  pub not : is_before_user user_key user pair ≡ false
