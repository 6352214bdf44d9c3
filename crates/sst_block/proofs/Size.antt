-- How long a block can be, by the lengths of its rows.
use Rattle.std.proofs.Common.{◌≡◌, ℕ, ◌+◌, ◌-◌, ◌*◌, ◌%◌, ◌^◌, ◌==◌, inr, ◌<◌, ◌≤◌, if◌then◌else◌, true, false, List, [], ◌∷◌, ◌++◌, length, length-append, sum_by, refl, sym, subst, arith}
use Rattle.std.specs.List.{flat_map}
use Rattle.sst_num.specs.Spelling.{varint, fixed}
use Rattle.sst_num.proofs.Fixed.{length-fixed}
use Rattle.sst_block.specs.Block.{Row, Spelled, IsRow, AreOrdered, common, has_differences, value_length, row_spelling, restarts_spelling}
use Rattle.sst_block.specs.Chosen.{chosen, restarts_from, restarts_of, block_of}
use Rattle.sst_block.specs.declared.row_form.RowForm.{RowForm}
use Rattle.sst_block.specs.declared.row_form.RowForm.TheVariants.{Entries, Names, Index}
use Rattle.sst_block.specs.declared.builder.BlockBuilder.{BlockBuilder}
use Rattle.sst_block.specs.Builder.{row_room, spelled_of, row_put, Holds, GivesHandle, CanAdd}
use Rattle.std.proofs.lemmas.List.Sums.{sum_by-cons}
use Rattle.sst_block.proofs.RowAt.{length-row}
pub use Rattle.sst_block.proofs.Varints.{length-varint}
use Rattle.sst_block.proofs.Varints.{length-if}
use Rattle.sst_block.proofs.Steps.{length-chosen, length-restarts}

-- nor has the length of a value more than ten bytes
length-value_length : (form : RowForm) (n : ℕ) → length (value_length form n) ≤ 10
length-value_length form n =
    elim (has_differences form) as (λ b. length (if b then [] else varint n) ≤ 10) [
      | true ↦ omega arith
      | false ↦ length-varint n
    ]

-- a row is at most thirty bytes longer than its key and value
row-le : (form : RowForm) (s : Spelled) → length (row_spelling form s) ≤ length s.row.key + length s.row.value + 30
row-le form s =
    omega (arith, length-row form s, length-value_length form (length s.row.value), length-varint (length s.row.key - s.shared), length-varint s.shared)

-- the most that a row takes before the restarts
abbrev row_bytes : Row → ℕ
row_bytes row = length row.key + length row.value + 30

rows-le : (form : RowForm) (interval i : ℕ) (before : List ℕ) (rows : List Row)
    → length (flat_map (row_spelling form) (chosen interval i before rows)) ≤ sum_by row_bytes rows
rows-le form interval i before [] = omega arith
rows-le form interval i before (row ∷ rows) =
    let s : Spelled = record { shared = if i % interval == 0 then 0 else common before row.key; row = row } in
    let here = row-le form s in
    let rest = rows-le form interval (i + 1) row.key rows in
    omega (arith, here, rest, sum_by-cons row_bytes row rows, length-append (row_spelling form s) (flat_map (row_spelling form) (chosen interval (i + 1) row.key rows)))

restarts_from-le : (form : RowForm) (interval i at : ℕ) (rows : List Spelled) → length (restarts_from form interval i at rows) ≤ length rows
restarts_from-le form interval i at [] = omega arith
restarts_from-le form interval i at (s ∷ rest) =
    let more = restarts_from-le form interval (i + 1) (at + length (row_spelling form s)) rest in
    let one = length-if (i % interval == 0) at [] 1 (omega arith) (omega arith) in
    let both = length-append (if i % interval == 0 then at ∷ [] else []) (restarts_from form interval (i + 1) (at + length (row_spelling form s)) rest) in
    omega (arith, more, one, both)

restarts-le : (form : RowForm) (interval : ℕ) (rows : List Spelled) → length (restarts_of form interval rows) ≤ length rows + 1
restarts-le form interval [] = omega arith
restarts-le form interval (s ∷ rest) = omega (arith, restarts_from-le form interval 0 0 (s ∷ rest))

sum-more : (rows : List Row) → sum_by row_room rows
    ≡ sum_by row_bytes rows + 4 * length rows
sum-more [] = omega arith
sum-more (row ∷ rows) = omega (arith, sum-more rows, sum_by-cons row_bytes row rows, sum_by-cons row_room row rows)

-- no block is longer than the room of its rows, and eight bytes
pub block_of-le : (form : RowForm) (interval : ℕ) (rows : List Row) → length (block_of form interval rows) ≤ sum_by row_room rows + 8
unfolding block_of
block_of-le form interval rows =
    let spelled = chosen interval 0 [] rows in
    let restarts = restarts_of form interval spelled in
    let a = rows-le form interval 0 [] rows in
    let b = restarts-le form interval spelled in
    let c = length-restarts restarts in
    let d = length-fixed 4 (length restarts) in
    let e = length-append (flat_map (fixed 4) restarts) (fixed 4 (length restarts)) in
    let f = length-append (flat_map (row_spelling form) spelled) (restarts_spelling restarts) in
    omega (arith, a, b, c, d, e, f, sum-more rows, length-chosen interval 0 [] rows)

-- where handles stand whole nothing is asked of a difference
gives-none : (form : RowForm) (spelled : List Spelled) (value delta : List ℕ) → has_differences form ≡ false → GivesHandle form spelled value delta
gives-none Entries spelled value delta plain = tt
gives-none Names spelled value delta plain = tt
gives-none (Index user_key false) spelled value delta plain = tt
gives-none (Index user_key true) spelled value delta plain = cc

-- and each value stands as it is given
pub put-plain : (form : RowForm) (interval : ℕ) (rows : List Row) (row : Row) (delta : List ℕ) → has_differences form ≡ false → row_put form interval rows row delta ≡ row
put-plain form interval rows row delta plain = rw plain refl

-- a row may be added that may come next, in a form without differences
pub takes-plain : (b : BlockBuilder) (form : RowForm) (interval : ℕ) (rows : List Row) (row : Row) (delta : List ℕ) → has_differences form ≡ false → Holds b form interval rows
    → IsRow form row → AreOrdered form (rows ++ row ∷ []) → length (block_of form interval (rows ++ row ∷ [])) < 2 ^ 29 → CanAdd b row delta
takes-plain b form interval rows row delta plain holds has_form ordered short =
    let put = sym (put-plain form interval rows row delta plain) in
    inr (record {
      form = form;
      interval = interval;
      rows = rows;
      holds = holds;
      has_form = subst (λ (r : Row). IsRow form r) put has_form;
      given = gives-none form (spelled_of interval rows) row.value delta plain;
      ordered = subst (λ (r : Row). AreOrdered form (rows ++ r ∷ [])) put ordered;
      short = subst (λ (r : Row). length (block_of form interval (rows ++ r ∷ [])) < 2 ^ 29) put short;
    })

-- and so where the rows with it have room
pub can_add : (b : BlockBuilder) (form : RowForm) (interval : ℕ) (rows : List Row) (row : Row) (delta : List ℕ) → has_differences form ≡ false → Holds b form interval rows
    → IsRow form row → AreOrdered form (rows ++ row ∷ []) → sum_by row_room (rows ++ row ∷ []) + 8 < 2 ^ 29 → CanAdd b row delta
can_add b form interval rows row delta plain holds has_form ordered room =
    takes-plain b form interval rows row delta plain holds has_form ordered (omega (arith, block_of-le form interval (rows ++ row ∷ []), room))
