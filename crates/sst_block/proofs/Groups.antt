-- Which rows of a chosen block are spelled whole, and which leave a front to the row before.
use Rattle.std.proofs.Common.{◌≡◌, ℕ, zero, suc, ◌+◌, ◌%◌, ◌==◌, if◌then◌else◌, List, [], ◌∷◌, Some, slice_get, refl, sym, ap, ◌∙◌, arith}
use Rattle.std.proofs.lemmas.Bool.{ne_eqb}
use Rattle.std.proofs.lemmas.Option.{same_Some}
use Rattle.sst_block.specs.Block.{Row, Spelled, common}
use Rattle.sst_block.specs.Chosen.{chosen}

none-there : {X : Type 0} (n : ℕ) (x : X) → slice_get [] n ≡ Some x → ⊥
none-there zero x is = cc
none-there (suc n) x is = cc

shares-nothing : (m front : ℕ) → m ≡ 0 → (if m == 0 then 0 else front) ≡ 0
shares-nothing zero front is = refl
shares-nothing (suc m) front is = cc

shares-front : (m front : ℕ) → (m ≡ 0 → ⊥) → (if m == 0 then 0 else front) ≡ front
shares-front m front never = rw (ne_eqb m 0 never) refl

-- each `interval`-th row shares nothing; `i` is the number of the first
pub whole-at : (interval i n : ℕ) (before : List ℕ) (rows : List Row) (s : Spelled) → slice_get (chosen interval i before rows) n ≡ Some s
    → (i + n) % interval ≡ 0 → s.shared ≡ 0
whole-at interval i n before [] s is begins = absurd (none-there n s is)
whole-at interval i zero before (row ∷ rows) s is begins =
    let first : i + zero ≡ i = omega arith in
    ap (λ (t : Spelled). t.shared) (sym (same_Some _ _ is)) ∙ shares-nothing (i % interval) (common before row.key) (rw first at begins)
whole-at interval i (suc n) before (row ∷ rows) s is begins =
    let next : i + suc n ≡ (i + 1) + n = omega arith in
    whole-at interval (i + 1) n row.key rows s is (rw next at begins)

-- the first row shares all that it can, where its number isn't one of those
first-shared : (interval i : ℕ) (before : List ℕ) (rows : List Row) (s : Spelled) → slice_get (chosen interval i before rows) 0 ≡ Some s
    → (i % interval ≡ 0 → ⊥) → s.shared ≡ common before s.row.key
first-shared interval i before [] s is never = cc
first-shared interval i before (row ∷ rows) s is never =
    let t = same_Some _ _ is in
    ap (λ (t : Spelled). t.shared) (sym t) ∙ shares-front (i % interval) (common before row.key) never ∙ ap (λ (t : Spelled). common before t.row.key) t

-- and so does each other row
pub shared-at : (interval i n : ℕ) (start : List ℕ) (rows : List Row) (before : Row) (s : Spelled) → slice_get rows n ≡ Some before
    → slice_get (chosen interval i start rows) (suc n) ≡ Some s → ((i + suc n) % interval ≡ 0 → ⊥) → s.shared ≡ common before.key s.row.key
shared-at interval i n start [] before s there is never = absurd (none-there n before there)
shared-at interval i zero start (row ∷ rows) before s there is never =
    let next : i + 1 ≡ i + suc zero = omega arith in
    first-shared interval (i + 1) row.key rows s is (rw next never)
    ∙ ap (λ (r : Row). common r.key s.row.key) (same_Some _ _ there)
shared-at interval i (suc n) start (row ∷ rows) before s there is never =
    let next : i + suc (suc n) ≡ (i + 1) + suc n = omega arith in
    shared-at interval (i + 1) n row.key rows before s there is (rw next at never)
