-- So few names have one restart: no row but the first is the `n`-th.
use Rattle.std.proofs.Common.{◌≡◌, ℕ, ◌+◌, ◌%◌, ◌==◌, ◌<◌, ◌≤◌, false, true, List, [], ◌∷◌, ◌++◌, length, refl, ap, arith}
use Rattle.std.specs.List.{flat_map}
use Rattle.std.proofs.lemmas.Bool.{eq-eqb, ne_eqb}
use Rattle.std.proofs.lemmas.List.{append-nil}
use Rattle.std.proofs.Math.Nat.{zero-mod, mod-eq_of_lt}
use Rattle.sst_num.specs.Spelling.{fixed}
use Rattle.sst_block.specs.declared.row_form.RowForm.TheVariants.{Names}
use Rattle.sst_block.specs.Block.{Row, Spelled, row_spelling, restarts_spelling}
use Rattle.sst_block.specs.Chosen.{chosen, restarts_from, restarts_of, block_of}
use Rattle.sst_block.proofs.Steps.{length-chosen}
use Rattle.sst_meta.specs.PropsBlock.{sharing, properties_block}

within : (n i : ℕ) → 0 < i → i < n → (i % n == 0) ≡ false
within n i some less = ne_eqb (i % n) 0 (λ e. let same : i % n ≡ i = mod-eq_of_lt less in omega (arith, same, e))

-- behind the first row each shares all that it can
chosen-sharing : (n i : ℕ) (before : List ℕ) (rows : List Row) → 0 < i → i + length rows ≤ n → chosen n i before rows ≡ sharing before rows
chosen-sharing n i before [] some few = refl
chosen-sharing n i before (row ∷ rows) some few =
    let rest = chosen-sharing n (i + 1) row.key rows (omega arith) (omega arith) in
    rw (within n i some (omega arith), rest) refl

-- and begins no restart
none-from : (n i at : ℕ) (rows : List Spelled) → 0 < i → i + length rows ≤ n → restarts_from Names n i at rows ≡ []
none-from n i at [] some few = refl
none-from n i at (s ∷ rows) some few =
    let rest = none-from n (i + 1) (at + length (row_spelling Names s)) rows (omega arith) (omega arith) in
    rw (within n i some (omega arith)) rest

first : (n : ℕ) → (0 % n == 0) ≡ true
first n = eq-eqb (0 % n) 0 (zero-mod n)

chosen-all : (n : ℕ) (rows : List Row) → length rows ≤ n → chosen n 0 [] rows ≡ sharing [] rows
chosen-all n [] few = refl
chosen-all n (row ∷ rows) few =
    let rest = chosen-sharing n 1 row.key rows (omega arith) (omega arith) in
    rw (first n, rest) refl

restarts-all : (n : ℕ) (rows : List Spelled) → length rows ≤ n → restarts_of Names n rows ≡ 0 ∷ []
restarts-all n [] few = refl
restarts-all n (s ∷ rows) few =
    let rest = none-from n 1 (0 + length (row_spelling Names s)) rows (omega arith) (omega arith) in
    rw (first n, rest) refl

one-spelling : restarts_spelling (0 ∷ []) ≡ fixed 4 0 ++ fixed 4 1
one-spelling = ap (λ (l : List ℕ). l ++ fixed 4 1) (append-nil (fixed 4 0))

pub one-restart : (n : ℕ) (rows : List Row) → length rows ≤ n → block_of Names n rows ≡ properties_block rows
unfolding block_of
one-restart n rows few =
    let spelled = chosen-all n rows few in
    let places = restarts-all n (chosen n 0 [] rows) (omega (arith, length-chosen n 0 [] rows)) in
    rw (places, spelled) (ap (λ (l : List ℕ). flat_map (row_spelling Names) (sharing [] rows) ++ l) one-spelling)
