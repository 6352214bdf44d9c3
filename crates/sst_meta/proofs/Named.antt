-- The names of a block increase, so each stands once, and halving finds it.
use Rattle.std.proofs.Common.{◌≡◌, ℕ, zero, suc, ◌<◌, ◌≤◌, if◌then◌else◌, false, true, List, [], ◌∷◌, length, None, Some, Result, Ok, Err, IfOk, IfErr, slice_get, slice_index_or, inl, inr, refl, sym, ap, ◌∙◌, subst, arith}
use Rattle.std.specs.Prelude.{bytes_eq}
use Rattle.std.specs.List.Sorted.{IsSearchInRange, IsBinarySearchResult, IsNonDecreasingBy}
use Rattle.std.specs.Ordering.{nat_cmp, ordering_index}
use Rattle.std.specs.Cmp.Lexicographic.{slice_cmp}
use Rattle.std.specs.declared.cmp.Ordering.{Ordering}
use Rattle.std.specs.declared.cmp.Ordering.TheVariants.{Less, Equal, Greater}
use Rattle.std.proofs.lemmas.Bool.{cases_lt, false_from_ne_true}
use Rattle.std.proofs.lemmas.Cmp.{nat_list_cmp_total, tied_itself}
use Rattle.std.proofs.lemmas.Map.Lookups.{exact_bytes}
use Rattle.std.proofs.lemmas.Option.{slice_get_within, get_or_from_slice_get}
use Rattle.std.proofs.lemmas.Slice.Eq.{bytes_eq-Decides}
use Rattle.sst_block.specs.declared.row_form.RowForm.TheVariants.{Names}
use Rattle.sst_block.specs.Block.{Row, AreOrdered}
use Rattle.sst_meta.specs.declared.pair.Pair.{Pair}
use Rattle.sst_meta.specs.Pairs.{row_of, rows_of_pairs, value_of, Has}

abbrev cmp : List ℕ → List ℕ → Ordering
cmp a b = slice_cmp nat_cmp a b

tail : (a : Row) (rest : List Row) → AreOrdered Names (a ∷ rest) → AreOrdered Names rest
tail a [] ordered = tt
tail a (b ∷ rest) ordered = ordered.1

-- a name is before each one behind it
ahead : (a : Row) (rest : List Row) (i : ℕ) (row : Row) → AreOrdered Names (a ∷ rest) → slice_get rest i ≡ Some row → cmp a.key row.key ≡ Less
ahead a [] i row ordered at = cc
ahead a (b ∷ rest) zero row ordered at =
    let same : Some b ≡ Some row = at in
    let is : b ≡ row = cc in
    subst (λ (r : Row). cmp a.key r.key ≡ Less) is ordered.0
ahead a (b ∷ rest) (suc i) row ordered at =
    nat_list_cmp_total.trans a.key b.key row.key ordered.0 (ahead b rest i row ordered.1 at)

-- so it is another
differs : (a b : List ℕ) → cmp a b ≡ Less → a ≡ b → ⊥
differs a b less same =
    let tied = tied_itself nat_list_cmp_total a in
    let other : cmp a a ≡ Less = ap (λ (l : List ℕ). cmp a l) same ∙ less in
    cc

-- the value of a row is that of its name
pub value-found : (rows : List Row) (i : ℕ) (row : Row) → AreOrdered Names rows → slice_get rows i ≡ Some row → value_of row.key rows ≡ Some row.value
value-found [] i row ordered at = cc
value-found (a ∷ rest) zero row ordered at =
    let same : Some a ≡ Some row = at in
    let is : a ≡ row = cc in
    let named : bytes_eq a.key row.key ≡ true = (bytes_eq-Decides a.key row.key).1 (ap (λ (r : Row). r.key) is) in
    rw named (ap (λ (r : Row). Some r.value) is)
value-found (a ∷ rest) (suc i) row ordered at =
    let less = ahead a rest i row ordered at in
    let other : bytes_eq a.key row.key ≡ false =
    false_from_ne_true (bytes_eq a.key row.key) (λ h. differs a.key row.key less ((bytes_eq-Decides a.key row.key).0 h)) in
    rw other (value-found rest i row (tail a rest ordered) at)

-- there is none where no row has the name
pub value-none : (name : List ℕ) (rows : List Row) → ((i : ℕ) (row : Row) → slice_get rows i ≡ Some row → row.key ≡ name → ⊥) → value_of name rows ≡ None
value-none name [] others = refl
value-none name (a ∷ rest) others =
    let other : bytes_eq a.key name ≡ false =
    false_from_ne_true (bytes_eq a.key name) (λ h. others 0 a refl ((bytes_eq-Decides a.key name).0 h)) in
    rw other (value-none name rest (λ i row at. others (suc i) row at))

row-at : (pairs : List Pair) (i : ℕ) (p : Pair) → slice_get pairs i ≡ Some p → slice_get (rows_of_pairs pairs) i ≡ Some (row_of p)
row-at [] i p at = cc
row-at (q ∷ pairs) zero p at = let same : Some q ≡ Some p = at in let is : q ≡ p = cc in ap (λ (x : Pair). Some (row_of x)) is
row-at (q ∷ pairs) (suc i) p at = row-at pairs i p at

pair-at : (pairs : List Pair) (i : ℕ) (row : Row) → slice_get (rows_of_pairs pairs) i ≡ Some row → (p : Pair) × (slice_get pairs i ≡ Some p) × (row_of p ≡ row)
pair-at [] i row at = cc
pair-at (q ∷ pairs) zero row at = let same : Some (row_of q) ≡ Some row = at in let is : row_of q ≡ row = cc in (q, refl, is)
pair-at (q ∷ pairs) (suc i) row at = pair-at pairs i row at

-- of two pairs the one that stands first has the lesser name
apart : (pairs : List Pair) (i j : ℕ) (a b : Pair) → AreOrdered Names (rows_of_pairs pairs) → i < j → slice_get pairs i ≡ Some a → slice_get pairs j ≡ Some b
    → cmp a.name b.name ≡ Less
apart [] i j a b ordered before at there = cc
apart (p ∷ rest) i zero a b ordered before at there = absurd (omega arith)
apart (p ∷ rest) zero (suc j) a b ordered before at there =
    let same : Some p ≡ Some a = at in
    let is : p ≡ a = cc in
    let less = ahead (row_of p) (rows_of_pairs rest) j (row_of b) ordered (row-at rest j b there) in
    subst (λ (q : Pair). cmp q.name b.name ≡ Less) is less
apart (p ∷ rest) (suc i) (suc j) a b ordered before at there =
    apart rest i j a b (tail (row_of p) (rows_of_pairs rest) ordered) (omega arith) at there

index-most : (o : Ordering) → ordering_index o ≤ 2
index-most Less = omega arith
index-most Equal = omega arith
index-most Greater = omega arith

-- the lesser name compares no greater
compares : (a b name : List ℕ) → cmp a b ≡ Less → ordering_index (cmp a name) ≤ ordering_index (cmp b name)
compares a b name less =
    elim (cmp b name) as (λ o. cmp b name ≡ o → ordering_index (cmp a name) ≤ ordering_index o) [
      | Less ↦ λ e. let f = nat_list_cmp_total.trans a b name less e in omega (arith, ap ordering_index f)
      | Equal ↦ λ e. let f : cmp a name ≡ Less = subst (λ (l : List ℕ). cmp a l ≡ Less) (exact_bytes b name e) less in omega (arith, ap ordering_index f)
      | Greater ↦ λ e. index-most (cmp a name)
    ] refl

stands : (pairs : List Pair) (i : ℕ) → i < length pairs → (p : Pair) × (slice_get pairs i ≡ Some p)
stands [] i h = absurd (omega arith)
stands (p ∷ pairs) zero h = (p, refl)
stands (p ∷ pairs) (suc i) h = stands pairs i (omega arith)

-- the comparisons with a name rise along the list, as halving asks
rises : (pairs : List Pair) (name : List ℕ) → AreOrdered Names (rows_of_pairs pairs) → IsNonDecreasingBy (λ (p : Pair). ordering_index (cmp p.name name)) pairs
rises pairs name ordered i j d low within =
    let sooner = stands pairs i (omega arith) in
    let later = stands pairs j within in
    let at_i : slice_index_or pairs i d ≡ sooner.0 = get_or_from_slice_get pairs i sooner.0 d sooner.1 in
    let at_j : slice_index_or pairs j d ≡ later.0 = get_or_from_slice_get pairs j later.0 d later.1 in
    rw (at_i, at_j) (elim (cases_lt i j) [
      | inl before ↦ compares sooner.0.name later.0.name name (apart pairs i j sooner.0 later.0 ordered before sooner.1 later.1)
      | inr past ↦
          let same : i ≡ j = omega arith in
          let both : Some sooner.0 ≡ Some later.0 = sym sooner.1 ∙ ap (λ n. slice_get pairs n) same ∙ later.1 in
          let is : sooner.0 ≡ later.0 = cc in
          omega (arith, ap (λ (p : Pair). ordering_index (cmp p.name name)) is)
    ])

-- the name stands at the place
abbrev pub NamedAt : List Pair → List ℕ → ℕ → Type 0
NamedAt pairs name i = (p : Pair) × (slice_get pairs i ≡ Some p) × (p.name ≡ name)

-- it stands nowhere
abbrev pub IsNotNamed : List Pair → List ℕ → Type 0
IsNotNamed pairs name = (i : ℕ) (p : Pair) → slice_get pairs i ≡ Some p → p.name ≡ name → ⊥

-- halving finds the name, or that it isn't there
pub searched : (pairs : List Pair) (name : List ℕ) (r : Result ℕ ℕ) → AreOrdered Names (rows_of_pairs pairs) → IsSearchInRange r (length pairs)
    → IsBinarySearchResult (λ (p : Pair). cmp p.name name) pairs r
    → IfOk r (NamedAt pairs name) × IfErr r (λ _. IsNotNamed pairs name)
searched pairs name (Ok at) ordered within equal =
    let here = stands pairs at within in
    let is = sym (ap (λ (p : Pair). cmp p.name name) (get_or_from_slice_get pairs at here.0 here.0 here.1)) ∙ equal here.0 in
    ((here.0, here.1, exact_bytes here.0.name name is), tt)
searched pairs name (Err at) ordered within parted =
    let parts = parted (rises pairs name ordered) in
    (tt, λ i p is same. differs_at i (p, is, same) parts)
  where
    tied : (p : Pair) (o : Ordering) → p.name ≡ name → cmp p.name name ≡ o → o ≡ Equal
    tied p o same is = sym is ∙ ap (λ (l : List ℕ). cmp l name) same ∙ tied_itself nat_list_cmp_total name

    shown : (i : ℕ) (p : Pair) (o : Ordering) → slice_get pairs i ≡ Some p → cmp (slice_index_or pairs i p).name name ≡ o → cmp p.name name ≡ o
    shown i p o is said = sym (ap (λ (q : Pair). cmp q.name name) (get_or_from_slice_get pairs i p p is)) ∙ said

    differs_at : (i : ℕ) → NamedAt pairs name i
        → ((k : ℕ) (d : Pair) → 0 ≤ k → k < at → cmp (slice_index_or pairs k d).name name ≡ Less)
        × ((k : ℕ) (d : Pair) → at ≤ k → k < length pairs → cmp (slice_index_or pairs k d).name name ≡ Greater) → ⊥
    differs_at i (p, is, same) parts =
        elim (cases_lt i at) [
          | inl low ↦ let e = tied p Less same (shown i p Less is (parts.0 i p (omega arith) low)) in cc
          | inr high ↦ let e = tied p Greater same (shown i p Greater is (parts.1 i p high (slice_get_within pairs i p is))) in cc
        ]

-- the value of the pair at the place is that of its name
pub got : (rows : List Row) (pairs lent : List Pair) (name : List ℕ) (at : ℕ) (value : List ℕ) → rows_of_pairs pairs ≡ rows → AreOrdered Names (rows_of_pairs pairs)
    → lent ≡ pairs → NamedAt lent name at → ((p : Pair) → slice_get pairs at ≡ Some p → value ≡ p.value) → Some value ≡ value_of name rows
got rows pairs lent name at value are ordered same (p, is, named) shown =
    let here : slice_get pairs at ≡ Some p = sym (ap (λ (l : List Pair). slice_get l at) same) ∙ is in
    let found = value-found (rows_of_pairs pairs) at (row_of p) ordered (row-at pairs at p here) in
    ap Some (shown p here) ∙ sym found ∙ ap (λ (n : List ℕ). value_of n (rows_of_pairs pairs)) named ∙ ap (value_of name) are

-- and of a name that isn't there, there is none
pub got-none : (rows : List Row) (pairs lent : List Pair) (name : List ℕ) → rows_of_pairs pairs ≡ rows → lent ≡ pairs → IsNotNamed lent name → None ≡ value_of name rows
got-none rows pairs lent name are same others =
    let none = value-none name (rows_of_pairs pairs) (λ i row at k.
    let p = pair-at pairs i row at in
    others i p.0 (ap (λ (l : List Pair). slice_get l i) same ∙ p.1) (ap (λ (r : Row). r.key) p.2 ∙ k)) in
    sym none ∙ ap (value_of name) are

made : (name value : List ℕ) (row : Row) → row.key ≡ name → row.value ≡ value → row ≡ record { key = name; value = value }
made name value row k v = rw (sym k, sym v) refl

-- a value is that of a row with the name
pub value-shown : (name : List ℕ) (rows : List Row) (value : List ℕ) → value_of name rows ≡ Some value → Has rows (record { key = name; value = value })
value-shown name [] value e = cc
value-shown name (a ∷ rest) value e =
    elim (bytes_eq a.key name) as (λ b. bytes_eq a.key name ≡ b → (if b then Some a.value else value_of name rest) ≡ Some value
    → Has (a ∷ rest) (record { key = name; value = value })) [
      | true ↦ λ same said. let v : a.value ≡ value = cc in (0, ap Some (made name value a ((bytes_eq-Decides a.key name).0 same) v))
      | false ↦ λ same said. let there = value-shown name rest value said in (suc there.0, there.1)
    ] refl e

not-first : (name : List ℕ) (a row : Row) → Some a ≡ Some row → row.key ≡ name → bytes_eq a.key name ≡ false → ⊥
not-first name a row first same other =
    let is : a ≡ row = cc in
    let named = (bytes_eq-Decides a.key name).1 (ap (λ (r : Row). r.key) is ∙ same) in
    cc

no-value : (name : List ℕ) (a : Row) (rest : List Row) → value_of name (a ∷ rest) ≡ None → (bytes_eq a.key name ≡ false) × (value_of name rest ≡ None)
no-value name a rest e =
    elim (bytes_eq a.key name) as (λ b. (if b then Some a.value else value_of name rest) ≡ None → (b ≡ false) × (value_of name rest ≡ None)) [
      | true ↦ λ said. cc
      | false ↦ λ said. (refl, said)
    ] e

-- where there is no value, no row has the name
pub value-missing : (name : List ℕ) (rows : List Row) (i : ℕ) (row : Row) → value_of name rows ≡ None → slice_get rows i ≡ Some row → row.key ≡ name → ⊥
value-missing name [] i row e at same = cc
value-missing name (a ∷ rest) zero row e at same = not-first name a row at same (no-value name a rest e).0
value-missing name (a ∷ rest) (suc i) row e at same = value-missing name rest i row (no-value name a rest e).1 at same
