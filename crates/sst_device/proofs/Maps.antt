-- Laws of maps from names, as lists of numbers, beside those of std: what one change after another gives.
use Rattle.std.proofs.Common.{◌≡◌, ℕ, List, Bool, true, false, cond, Some, refl, sym, ap, ◌∙◌}
use Rattle.std.specs.Ordering.{nat_cmp, eq_by_cmp, is_eq}
use Rattle.std.specs.declared.cmp.Ordering.{Ordering}
use Rattle.std.specs.declared.cmp.Ordering.TheVariants.{Less, Equal, Greater}
use Rattle.std.specs.Cmp.Lexicographic.{slice_cmp, nat_list_cmp_total}
use Rattle.std.specs.FinMap.{FinMap, get, insert, get-insert, same_map, IsAntisymmetric, nat_cmp-IsAntisymmetric, slice_cmp-IsAntisymmetric}

abbrev pub name_cmp_same : IsAntisymmetric (slice_cmp nat_cmp)
name_cmp_same = slice_cmp-IsAntisymmetric nat_cmp-IsAntisymmetric

cond_twice : {X : Type 0} (b : Bool) (x y z : X) → cond b x (cond b y z) ≡ cond b x z
cond_twice true x y z = refl
cond_twice false x y z = refl

is_eq-Equal : (r : Ordering) → is_eq r ≡ true → r ≡ Equal
is_eq-Equal Less e = absurd cc
is_eq-Equal Equal e = refl
is_eq-Equal Greater e = absurd cc

-- names that tie are one name
pub same_name : (k l : List ℕ) → eq_by_cmp (slice_cmp nat_cmp) k l ≡ true → k ≡ l
same_name k l e = name_cmp_same k l (is_eq-Equal _ e)

-- the choices at a name, in either order
cond_swap : {X : Type 0} (a b : Bool) (x y z : X) → (a ≡ true → b ≡ true → ⊥) → cond a x (cond b y z) ≡ cond b y (cond a x z)
cond_swap true true x y z apart = absurd (apart refl refl)
cond_swap true false x y z apart = refl
cond_swap false b x y z apart = refl

cond_same : {X : Type 0} (b : Bool) (x y : X) → (b ≡ true → y ≡ x) → cond b x y ≡ y
cond_same true x y same = sym (same refl)
cond_same false x y same = refl

module _ {V : Type 0} where
  -- a value put after another at one name
  pub insert-insert : (m : FinMap (slice_cmp nat_cmp) V) (k : List ℕ) (v w : V) → insert (insert m k v) k w ≡ insert m k w
  insert-insert m k v w = same_map nat_list_cmp_total name_cmp_same _ _ (λ q.
      get-insert nat_list_cmp_total (insert m k v) k w q ∙ ap (cond (eq_by_cmp (slice_cmp nat_cmp) q k) (Some w)) (get-insert nat_list_cmp_total m k v q)
      ∙ cond_twice (eq_by_cmp (slice_cmp nat_cmp) q k) (Some w) (Some v) (get m q) ∙ sym (get-insert nat_list_cmp_total m k w q))

  -- values put at two names, in either order
  pub insert-swap : (m : FinMap (slice_cmp nat_cmp) V) (k l : List ℕ) (v w : V) → (k ≡ l → ⊥) → insert (insert m k v) l w ≡ insert (insert m l w) k v
  insert-swap m k l v w apart = same_map nat_list_cmp_total name_cmp_same _ _ (λ q.
      get-insert nat_list_cmp_total (insert m k v) l w q ∙ ap (cond (eq_by_cmp (slice_cmp nat_cmp) q l) (Some w)) (get-insert nat_list_cmp_total m k v q)
      ∙ cond_swap (eq_by_cmp (slice_cmp nat_cmp) q l) (eq_by_cmp (slice_cmp nat_cmp) q k) (Some w) (Some v) (get m q) (λ at_l at_k. apart (sym (same_name q k at_k) ∙ same_name q l at_l))
      ∙ sym (get-insert nat_list_cmp_total (insert m l w) k v q ∙ ap (cond (eq_by_cmp (slice_cmp nat_cmp) q k) (Some v)) (get-insert nat_list_cmp_total m l w q)))

  -- the value that is there put again
  pub insert-same : (m : FinMap (slice_cmp nat_cmp) V) (k : List ℕ) (v : V) → get m k ≡ Some v → insert m k v ≡ m
  insert-same m k v here = same_map nat_list_cmp_total name_cmp_same _ _ (λ q.
      get-insert nat_list_cmp_total m k v q ∙ cond_same (eq_by_cmp (slice_cmp nat_cmp) q k) (Some v) (get m q) (λ at. ap (get m) (same_name q k at) ∙ here))
