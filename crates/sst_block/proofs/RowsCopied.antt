-- What a loop over a walk needs that copies each row: where the walk stands, and which row it shows there.
use Rattle.std.proofs.Common.{◌≡◌, ℕ, ◌<◌, ◌+◌, List, [], ◌∷◌, ◌++◌, length, take, Some, slice_get, refl, sym, ap, ◌∙◌, add-one}
use Rattle.std.proofs.lemmas.Bool.{lt-ltb}
use Rattle.std.proofs.lemmas.Option.{slice_get_within, get_or_from_slice_get}
use Rattle.std.proofs.Math.Seq.{take-suc}
use Rattle.sst_block.specs.declared.iter.BlockIter.{BlockIter}
use Rattle.sst_block.specs.Block.{Row}
use Rattle.sst_block.specs.Iter.{Walks, place_of}

-- a walk that moved to the i-th row stands there, where there is one
pub walks-at : (it : BlockIter) (rows : List Row) (i : ℕ) → i < length rows → Walks it rows (place_of rows i) → Walks it rows (Some i)
walks-at it rows i within w = let here = lt-ltb i (length rows) within in rw here at w

-- what a walk shows at the i-th row
abbrev pub KeyAt : List Row → ℕ → List ℕ → Type 0
KeyAt rows i key = (row : Row) × (slice_get rows i ≡ Some row) × (key ≡ row.key)

abbrev pub ValueAt : List Row → ℕ → List ℕ → Type 0
ValueAt rows i value = (row : Row) × (slice_get rows i ≡ Some row) × (value ≡ row.value)

row_made : (key value : List ℕ) (row : Row) → key ≡ row.key → value ≡ row.value → record { key = key; value = value } ≡ row
row_made key value row k v = rw (k, v) refl

-- the row that was made of what is shown is the i-th
pub same_row : (rows : List Row) (i : ℕ) (key value : List ℕ) (made : Row) → KeyAt rows i key → ValueAt rows i value → made ≡ record { key = key; value = value }
    → slice_get rows i ≡ Some made
same_row rows i key value made (row, at, k) (other, there, v) is =
    let same : Some row ≡ Some other = sym at ∙ there in
    let all : made ≡ other = is ∙ row_made key value other (k ∙ cc) v in
    there ∙ ap Some (sym all)

-- the first n rows and the n-th are the first n + 1
pub one_more : (rows : List Row) (n : ℕ) (row : Row) → slice_get rows n ≡ Some row → take n rows ++ row ∷ [] ≡ take (n + 1) rows
one_more rows n row at =
    let within = slice_get_within rows n row at in
    let is = get_or_from_slice_get rows n row row at in
    sym (rw (add-one, take-suc rows n row, is) refl)
