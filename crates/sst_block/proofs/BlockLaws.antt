-- The block that a builder makes of some rows stands for these rows.
use Rattle.std.proofs.Common.{◌≡◌, ℕ, zero, suc, ◌+◌, ◌%◌, ◌^◌, ◌<◌, ◌≤◌, ◌==◌, if◌then◌else◌, Bool, true, false, List, [], ◌∷◌, ◌++◌, length, map, get_or, All, Contains, refl, ap, length-append, arith}
use Rattle.std.specs.List.Sorted.{IsStrictlyIncreasing}
use Rattle.std.proofs.lemmas.List.Elements.{All-nil, All-cons, All-append, All-weaker, Contains-append_right}
use Rattle.std.proofs.Math.Nat.{zero-mod}
use Rattle.sst_num.proofs.Groups.{varint-some}
use Rattle.sst_block.specs.declared.row_form.RowForm.{RowForm}
use Rattle.sst_block.specs.Block.{Row, Spelled, Block, IsRow, AreOrdered, AreRestarts, SharesFronts, common, row_spelling, fresh_starts, no_handle, SayHandles}
use Rattle.sst_block.specs.Chosen.{chosen, restarts_from, restarts_of, block_of}

-- a row takes at least one byte
pub row_spelling-some : (form : RowForm) (s : Spelled) → 0 < length (row_spelling form s)
row_spelling-some form s = omega (arith, varint-some s.shared, length-append {A = ℕ})

-- the rows that are spelled are those that were given
pub chosen-rows : (interval i : ℕ) (before : List ℕ) (rows : List Row) → map (λ (s : Spelled). s.row) (chosen interval i before rows) ≡ rows
chosen-rows interval i before [] = refl
chosen-rows interval i before (row ∷ rows) = ap (λ (rest : List Row). row ∷ rest) (chosen-rows interval (i + 1) row.key rows)

shared-within : (fresh : Bool) (n : ℕ) → (if fresh then 0 else n) ≤ n
shared-within true n = omega arith
shared-within false n = omega arith

-- no row shares more than there is in common
chosen-fronts : (interval i : ℕ) (before : List ℕ) (rows : List Row) → SharesFronts before (chosen interval i before rows)
chosen-fronts interval i before [] = tt
chosen-fronts interval i before (row ∷ rows) =
    (shared-within (i % interval == 0) (common before row.key), chosen-fronts interval (i + 1) row.key rows)

pub All-one_if : (P : ℕ → Type 0) (test : Bool) (x : ℕ) → P x → All P (if test then x ∷ [] else [])
All-one_if P true x holds = All-cons P x [] holds (All-nil P)
All-one_if P false x holds = All-nil P

-- no restart is before the first row
restarts-above : (form : RowForm) (interval i at low : ℕ) (spelled : List Spelled) → low < at → All (λ r. low < r) (restarts_from form interval i at spelled)
restarts-above form interval i at low [] h = All-nil (λ r. low < r)
restarts-above form interval i at low (s ∷ rest) h =
    All-append (λ r. low < r) (if i % interval == 0 then at ∷ [] else []) (restarts_from form interval (i + 1) (at + length (row_spelling form s)) rest)
    (All-one_if (λ r. low < r) (i % interval == 0) at h)
    (restarts-above form interval (i + 1) (at + length (row_spelling form s)) low rest (omega arith))

-- a number below the first of an increasing list may stand at its front
pub rises-cons : (x : ℕ) (xs : List ℕ) → (0 < length xs → x < get_or xs 0 0) → IsStrictlyIncreasing xs
    → (k : ℕ) → k + 1 < length (x ∷ xs) → get_or (x ∷ xs) k 0 < get_or (x ∷ xs) (k + 1) 0
rises-cons x xs above rises zero within = above (omega arith)
rises-cons x xs above rises (suc k) within =
    let moved : suc k + 1 ≡ suc (k + 1) = omega arith in
    rw moved (rises k (omega arith))

rises-one_if : (test : Bool) (x : ℕ) (xs : List ℕ) → All (λ y. x < y) xs → IsStrictlyIncreasing xs → IsStrictlyIncreasing ((if test then x ∷ [] else []) ++ xs)
rises-one_if true x xs above rises = rises-cons x xs (above 0 0) rises
rises-one_if false x xs above rises = rises

-- the restarts increase
restarts-rise : (form : RowForm) (interval i at : ℕ) (spelled : List Spelled) → IsStrictlyIncreasing (restarts_from form interval i at spelled)
restarts-rise form interval i at [] = λ k within. absurd (omega arith)
restarts-rise form interval i at (s ∷ rest) =
    let some = row_spelling-some form s in
    rises-one_if (i % interval == 0) at (restarts_from form interval (i + 1) (at + length (row_spelling form s)) rest)
    (restarts-above form interval (i + 1) (at + length (row_spelling form s)) at rest (omega arith))
    (restarts-rise form interval (i + 1) (at + length (row_spelling form s)) rest)

-- one row more: where it is a restart, it shares nothing
fresh-one_if : (test : Bool) (at n : ℕ) (fresh restarts : List ℕ) → All (Contains fresh) restarts
    → All (Contains ((if (if test then 0 else n) == 0 then at ∷ [] else []) ++ fresh)) ((if test then at ∷ [] else []) ++ restarts)
fresh-one_if true at n fresh restarts among =
    All-cons (Contains (at ∷ fresh)) at restarts (0, omega arith, refl)
    (All-weaker (Contains fresh) (Contains (at ∷ fresh)) (λ x. Contains-append_right (at ∷ []) fresh x) restarts among)
fresh-one_if false at n fresh restarts among =
    All-weaker (Contains fresh) (Contains ((if n == 0 then at ∷ [] else []) ++ fresh)) (λ x. Contains-append_right (if n == 0 then at ∷ [] else []) fresh x) restarts among

-- each restart is the start of a row that shares nothing
restarts-fresh : (form : RowForm) (interval i at : ℕ) (before : List ℕ) (rows : List Row)
    → All (Contains (fresh_starts form at (chosen interval i before rows))) (restarts_from form interval i at (chosen interval i before rows))
restarts-fresh form interval i at before [] = All-nil (Contains [])
restarts-fresh form interval i at before (row ∷ rows) =
    let s : Spelled = record { shared = if i % interval == 0 then 0 else common before row.key; row = row } in
    let next = at + length (row_spelling form s) in
    fresh-one_if (i % interval == 0) at (common before row.key)
    (fresh_starts form next (chosen interval (i + 1) row.key rows))
    (restarts_from form interval (i + 1) next (chosen interval (i + 1) row.key rows))
    (restarts-fresh form interval (i + 1) next row.key rows)

-- the restarts that are chosen are restarts
chosen-restarts : (form : RowForm) (interval : ℕ) (rows : List Row) → 0 < interval → AreRestarts form (restarts_of form interval (chosen interval 0 [] rows)) (chosen interval 0 [] rows)
chosen-restarts form interval [] h = refl
chosen-restarts form interval (row ∷ rows) h =
    let first = zero-mod interval in
    (rw first refl, restarts-rise form interval 0 0 (chosen interval 0 [] (row ∷ rows)), restarts-fresh form interval 0 0 [] (row ∷ rows))

-- the block that is chosen, with its spelled rows
pub record ChosenBlock (form : RowForm) (interval : ℕ) (rows : List Row) : Type 0 where
  pub block : Block form (block_of form interval rows) rows
  pub spelled_are : block.spelled ≡ chosen interval 0 [] rows

-- each part of what a block is, of the block that is chosen
pub chosen-block : (form : RowForm) (interval : ℕ) (rows : List Row) → 0 < interval → All (IsRow form) rows → AreOrdered form rows → SayHandles form no_handle (chosen interval 0 [] rows)
    → length (block_of form interval rows) ≤ 2 ^ 29 → ChosenBlock form interval rows
unfolding block_of
chosen-block form interval rows positive forms ordered handles short =
    let spelled = chosen interval 0 [] rows in
    record {
      block = record {
        spelled = spelled;
        restarts = restarts_of form interval spelled;
        are_rows = chosen-rows interval 0 [] rows;
        spelling = refl;
        fronts = chosen-fronts interval 0 [] rows;
        places = chosen-restarts form interval rows positive;
        forms = forms;
        ordered = ordered;
        handles = handles;
        short = short;
      };
      spelled_are = refl;
    }

pub block_of_is_block : (form : RowForm) (interval : ℕ) (rows : List Row) → 0 < interval → All (IsRow form) rows → AreOrdered form rows → SayHandles form no_handle (chosen interval 0 [] rows)
    → length (block_of form interval rows) ≤ 2 ^ 29 → Block form (block_of form interval rows) rows
block_of_is_block form interval rows positive forms ordered handles short = (chosen-block form interval rows positive forms ordered handles short).block
