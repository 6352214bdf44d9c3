-- Which user keys stand in which part of a filter: those of the entries between two separators.
-- Own.
-- Pinned by: no_key_of_a_part_is_denied
use Rattle.std.specs.Prelude.{◌≡◌, ◌≢◌, ℕ, ◌^◌, ◌<◌, ◌≤◌, Bool, true, false, Option, None, Some, List, [], ◌∷◌, length, All}
use Rattle.std.specs.Ordering.{nat_cmp}
use Rattle.std.specs.Cmp.Lexicographic.{slice_cmp}
use Rattle.std.specs.declared.cmp.Ordering.TheVariants.{Less, Greater}
use Rattle.sst_key.specs.InternalKey.{user_of, tag_of}
use Rattle.sst_bloom.specs.Builder.{key_limit}
use Rattle.sst_block.specs.declared.row_form.RowForm.TheVariants.{Index}
use Rattle.sst_block.specs.Block.{key_cmp}

-- the user key of a separator
-- Own.
-- Pinned by: no_key_of_a_part_is_denied
abbrev pub separator_user : Bool → List ℕ → List ℕ
separator_user true separator = separator
separator_user false separator = user_of separator

-- a user key isn't before the separator of the part in front, if there is one; where separators are user keys, it is after it
-- Own.
-- Pinned by: no_key_of_a_part_is_denied
abbrev pub IsBehindSeparator : Bool → Option (List ℕ) → List ℕ → Type 0
IsBehindSeparator user_key None user = Unit {0}
IsBehindSeparator true (Some front) user = slice_cmp nat_cmp front user ≡ Less
IsBehindSeparator false (Some front) user = slice_cmp nat_cmp (user_of front) user ≢ Greater

-- a user key stands between the separator of the part in front and that of its own part, which isn't before it
-- Own.
-- Pinned by: no_key_of_a_part_is_denied
pub record IsBetween (user_key : Bool) (front : Option (List ℕ)) (separator user : List ℕ) : Type 0 where
  pub behind : IsBehindSeparator user_key front user
  pub within : slice_cmp nat_cmp (separator_user user_key separator) user ≢ Less

-- a separator is after the one in front, if there is one
-- Own.
-- Pinned by: no_key_of_a_part_is_denied
abbrev pub IsNextSeparator : Bool → Option (List ℕ) → List ℕ → Type 0
IsNextSeparator user_key None separator = Unit {0}
IsNextSeparator user_key (Some front) separator = key_cmp (Index user_key false) front separator ≡ Less

-- a part of a filter fits its separator: that is after the one in front, and its tag is a number of eight bytes, where it is a
-- stored key; the part has no more user keys than it may, and each stands between the separators
-- Own.
-- Pinned by: no_key_of_a_part_is_denied
pub record FitsPart (user_key : Bool) (front : Option (List ℕ)) (separator : List ℕ) (part : List (List ℕ)) : Type 0 where
  pub next : IsNextSeparator user_key front separator
  pub tagged : user_key ≡ false → tag_of separator < 2 ^ 64
  pub few : length part ≤ key_limit
  pub between : All (IsBetween user_key front separator) part

-- each part fits its separator, and there are as many of both; `front` is the separator in front of the first
-- Own.
-- Pinned by: no_key_of_a_part_is_denied
abbrev pub FitParts : Bool → Option (List ℕ) → List (List ℕ) → List (List (List ℕ)) → Type 0
FitParts user_key front [] parts = parts ≡ []
FitParts user_key front (separator ∷ separators) [] = ⊥
FitParts user_key front (separator ∷ separators) (part ∷ parts) =
    FitsPart user_key front separator part × FitParts user_key (Some separator) separators parts
