-- The bytes that two keys have in common at their fronts.
use Rattle.std.proofs.Common.{◌≡◌, ◌≢◌, ◌⊎◌, inl, inr, ℕ, zero, suc, ◌+◌, ◌<◌, ◌≤◌, true, false, eqb, List, [], ◌∷◌, length, get_or, take, drop, refl, ap, ◌∙◌, arith}
use Rattle.std.proofs.Math.Seq.{drop-cons}
use Rattle.std.proofs.lemmas.Bool.{eqb-true, eqb-false}
use Rattle.std.proofs.lemmas.Bool.Decides.{nat_tests}
use Rattle.sst_block.specs.Block.{common}

pub common-same : (x y : ℕ) (a b : List ℕ) → x ≡ y → common (x ∷ a) (y ∷ b) ≡ suc (common a b)
common-same x y a b e = grind (arith, nat_tests)

common-other : (x y : ℕ) (a b : List ℕ) → x ≢ y → common (x ∷ a) (y ∷ b) ≡ 0
common-other x y a b e = grind (arith, nat_tests)

pub common-nil : (a : List ℕ) → common a [] ≡ 0
common-nil [] = refl
common-nil (x ∷ a) = refl

-- both go on with the same byte
pub common-more : (a b : List ℕ) (at n : ℕ) → at < length a → at < length b → get_or a at 0 ≡ get_or b at 0
    → at + common (drop at a) (drop at b) ≡ n → at + 1 + common (drop (at + 1) a) (drop (at + 1) b) ≡ n
common-more a b at n la lb same whole =
    let next : at + 1 ≡ suc at = omega arith in
    let here = common-same (get_or a at 0) (get_or b at 0) (drop (suc at) a) (drop (suc at) b) same in
    let parts = ap (λ (s : List ℕ). common s (drop at b)) (drop-cons a at 0 la) ∙ ap (λ (s : List ℕ). common (get_or a at 0 ∷ drop (suc at) a) s) (drop-cons b at 0 lb) ∙ here in
    rw next (omega (arith, parts, whole))

-- they differ in the next byte
pub common-apart : (a b : List ℕ) (at n : ℕ) → at < length a → at < length b → get_or a at 0 ≢ get_or b at 0
    → at + common (drop at a) (drop at b) ≡ n → at ≡ n
common-apart a b at n la lb other whole =
    let here = common-other (get_or a at 0) (get_or b at 0) (drop (suc at) a) (drop (suc at) b) other in
    let parts = ap (λ (s : List ℕ). common s (drop at b)) (drop-cons a at 0 la) ∙ ap (λ (s : List ℕ). common (get_or a at 0 ∷ drop (suc at) a) s) (drop-cons b at 0 lb) ∙ here in
    omega (arith, parts, whole)

drop-past : (a : List ℕ) (at : ℕ) → length a ≤ at → drop at a ≡ []
drop-past [] zero h = refl
drop-past [] (suc at) h = refl
drop-past (x ∷ a) zero h = absurd (omega arith)
drop-past (x ∷ a) (suc at) h = drop-past a at (omega arith)

-- one of them ends
pub common-ended : (a b : List ℕ) (at n : ℕ) → (length a ≤ at) ⊎ (length b ≤ at)
    → at + common (drop at a) (drop at b) ≡ n → at ≡ n
common-ended a b at n (inl short) whole =
    let parts = ap (λ (s : List ℕ). common s (drop at b)) (drop-past a at short) in
    omega (arith, parts, whole)
common-ended a b at n (inr short) whole =
    let parts = ap (λ (s : List ℕ). common (drop at a) s) (drop-past b at short) ∙ common-nil (drop at a) in
    omega (arith, parts, whole)

-- the shared front of the one is that of the other
pub common-take : (a b : List ℕ) → take (common a b) a ≡ take (common a b) b
common-take [] b = refl
common-take (x ∷ a) [] = refl
common-take (x ∷ a) (y ∷ b) =
    let rest : take (common a b) a ≡ take (common a b) b = common-take a b in
    elim (eqb x y) as (λ r. eqb x y ≡ r → take (common (x ∷ a) (y ∷ b)) (x ∷ a) ≡ take (common (x ∷ a) (y ∷ b)) (y ∷ b)) [
      | true ↦ λ e. let same : x ≡ y = eqb-true x y e in rw (common-same x y a b same) (cc)
      | false ↦ λ e. rw (common-other x y a b (eqb-false x y e)) refl
    ] refl

-- the shared front is no longer than either
common-le : (a b : List ℕ) → (common a b ≤ length a) × (common a b ≤ length b)
common-le [] b = (omega arith, omega arith)
common-le (x ∷ a) [] = (omega arith, omega arith)
common-le (x ∷ a) (y ∷ b) =
    let rest = common-le a b in
    elim (eqb x y) as (λ r. eqb x y ≡ r → (common (x ∷ a) (y ∷ b) ≤ suc (length a)) × (common (x ∷ a) (y ∷ b) ≤ suc (length b))) [
      | true ↦ λ e. let s = common-same x y a b (eqb-true x y e) in (omega (arith, s, rest.0), omega (arith, s, rest.1))
      | false ↦ λ e. let s = common-other x y a b (eqb-false x y e) in (omega (arith, s), omega (arith, s))
    ] refl

pub common-le_left : (a b : List ℕ) → common a b ≤ length a
common-le_left a b = (common-le a b).0

pub common-le_right : (a b : List ℕ) → common a b ≤ length b
common-le_right a b = (common-le a b).1
