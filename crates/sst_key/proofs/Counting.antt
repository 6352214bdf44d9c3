-- A list whose entries pass a test up to a place and none from there on: how many pass says which do.
use Rattle.std.proofs.Common.{◌≡◌, ℕ, zero, suc, ◌+◌, ◌<◌, ◌≤◌, Bool, true, false, cond, Some, List, [], ◌∷◌, length, count_by, slice_get, refl, sym, ap, ◌∙◌, inl, inr, zero-add, arith}
use Rattle.std.proofs.lemmas.List.Sums.{sum_by-cons, count_by-le-length}
use Rattle.std.proofs.lemmas.Bool.{cases_lt}
use Rattle.std.proofs.lemmas.Option.{same_Some}
use Rattle.sst_key.specs.declared.entries.Entry.{Entry}
use Rattle.sst_key.specs.Entry.{IsBefore, IsOrdered}

-- behind an entry that fails none passes
abbrev pub Runs : (Entry → Bool) → List Entry → Type 0
Runs p [] = Unit {0}
Runs p (x ∷ xs) = (p x ≡ false → count_by p xs ≡ 0) × Runs p xs

one-add : (n : ℕ) → 1 + n ≡ suc n
one-add n = omega arith

pub count-yes : (p : Entry → Bool) (x : Entry) (xs : List Entry) → p x ≡ true → count_by p (x ∷ xs) ≡ suc (count_by p xs)
count-yes p x xs e = let whole : count_by p (x ∷ xs) ≡ cond (p x) 1 0 + count_by p xs = sum_by-cons (λ (y : Entry). cond (p y) 1 0) x xs in whole ∙ ap (λ (b : Bool). cond b 1 0 + count_by p xs) e ∙ one-add (count_by p xs)

pub count-no : (p : Entry → Bool) (x : Entry) (xs : List Entry) → p x ≡ false → count_by p (x ∷ xs) ≡ count_by p xs
count-no p x xs e = let whole : count_by p (x ∷ xs) ≡ cond (p x) 1 0 + count_by p xs = sum_by-cons (λ (y : Entry). cond (p y) 1 0) x xs in whole ∙ ap (λ (b : Bool). cond b 1 0 + count_by p xs) e ∙ zero-add (count_by p xs)

none-after : (p : Entry → Bool) → ((a b : Entry) → IsBefore a b → p b ≡ true → p a ≡ true) → (a b : Entry) (rest : List Entry) (v : Bool)
    → p b ≡ v → IsBefore a b → (p b ≡ false → count_by p rest ≡ 0) → p a ≡ false → count_by p (b ∷ rest) ≡ 0
none-after p ahead a b rest true e before later fails = let passes = ahead a b before e in cc
none-after p ahead a b rest false e before later fails = count-no p b rest e ∙ later e

-- an ordered list is such a list, if what is before an entry that passes passes too
pub runs : (p : Entry → Bool) → ((a b : Entry) → IsBefore a b → p b ≡ true → p a ≡ true) → (xs : List Entry) → IsOrdered xs → Runs p xs
runs p ahead [] o = tt
runs p ahead (a ∷ []) o = (λ fails. refl, tt)
runs p ahead (a ∷ b ∷ rest) o =
    let later = runs p ahead (b ∷ rest) o.1 in
    (none-after p ahead a b rest (p b) refl o.0 later.0, later)

head-passes : (p : Entry → Bool) (y x : Entry) (xs : List Entry) (v : Bool) → p y ≡ v → (p y ≡ false → count_by p xs ≡ 0)
    → Some y ≡ Some x → 0 < count_by p (y ∷ xs) → p x ≡ true
head-passes p y x xs true e later at low = sym (ap p (same_Some y x at)) ∙ e
head-passes p y x xs false e later at low = let same = count-no p y xs e in let none = later e in absurd (omega arith)

tail-count-in : (p : Entry → Bool) (y : Entry) (xs : List Entry) (i : ℕ) (v : Bool) → p y ≡ v → (p y ≡ false → count_by p xs ≡ 0)
    → suc i < count_by p (y ∷ xs) → i < count_by p xs
tail-count-in p y xs i true e later low = let more = count-yes p y xs e in omega arith
tail-count-in p y xs i false e later low = let same = count-no p y xs e in let none = later e in omega arith

-- ahead of the count every entry passes
pub passes-ahead : (p : Entry → Bool) (xs : List Entry) → Runs p xs → (i : ℕ) (x : Entry) → slice_get xs i ≡ Some x → i < count_by p xs → p x ≡ true
passes-ahead p [] r i x at low = cc
passes-ahead p (y ∷ xs) r zero x at low = head-passes p y x xs (p y) refl r.0 at low
passes-ahead p (y ∷ xs) r (suc i) x at low = passes-ahead p xs r.1 i x at (tail-count-in p y xs i (p y) refl r.0 low)

head-fails : (p : Entry → Bool) (y x : Entry) (xs : List Entry) (v : Bool) → p y ≡ v
    → Some y ≡ Some x → count_by p (y ∷ xs) ≤ 0 → p x ≡ false
head-fails p y x xs true e at high = let more = count-yes p y xs e in absurd (omega arith)
head-fails p y x xs false e at high = sym (ap p (same_Some y x at)) ∙ e

tail-count-out : (p : Entry → Bool) (y : Entry) (xs : List Entry) (i : ℕ) (v : Bool) → p y ≡ v → (p y ≡ false → count_by p xs ≡ 0)
    → count_by p (y ∷ xs) ≤ suc i → count_by p xs ≤ i
tail-count-out p y xs i true e later high = let more = count-yes p y xs e in omega arith
tail-count-out p y xs i false e later high = let none = later e in omega arith

-- from the count on none does
pub fails-behind : (p : Entry → Bool) (xs : List Entry) → Runs p xs → (i : ℕ) (x : Entry) → slice_get xs i ≡ Some x → count_by p xs ≤ i → p x ≡ false
fails-behind p [] r i x at high = cc
fails-behind p (y ∷ xs) r zero x at high = head-fails p y x xs (p y) refl at high
fails-behind p (y ∷ xs) r (suc i) x at high = fails-behind p xs r.1 i x at (tail-count-out p y xs i (p y) refl r.0 high)

-- an entry that passes is ahead of the count, and one that fails isn't
pub ahead-from_pass : (p : Entry → Bool) (xs : List Entry) → Runs p xs → (i : ℕ) (x : Entry) → slice_get xs i ≡ Some x → p x ≡ true → i < count_by p xs
ahead-from_pass p xs r i x at passes =
    elim (cases_lt i (count_by p xs)) [
      | inl low ↦ low
      | inr high ↦ let fails = fails-behind p xs r i x at high in cc
    ]

pub behind-from_fail : (p : Entry → Bool) (xs : List Entry) → Runs p xs → (i : ℕ) (x : Entry) → slice_get xs i ≡ Some x → p x ≡ false → count_by p xs ≤ i
behind-from_fail p xs r i x at fails =
    elim (cases_lt i (count_by p xs)) [
      | inl low ↦ let passes = passes-ahead p xs r i x at low in cc
      | inr high ↦ high
    ]

-- at each place of a list stands an entry
pub stands : (xs : List Entry) (i : ℕ) → i < length xs → (x : Entry) × (slice_get xs i ≡ Some x)
stands [] i low = absurd (omega arith)
stands (x ∷ xs) zero low = (x, refl)
stands (y ∷ xs) (suc i) low = stands xs i (omega arith)

pub count-in_length : (p : Entry → Bool) (xs : List Entry) → count_by p xs ≤ length xs
count-in_length p xs = count_by-le-length p xs
