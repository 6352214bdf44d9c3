-- The front of a list, and the element behind it.
use Rattle.std.proofs.Common.{◌≡◌, ℕ, ◌+◌, ◌≤◌, List, [], ◌∷◌, ◌++◌, length, length-append, take, drop, Some, slice_get, refl, sym, ap, ◌∙◌, add-one, arith}
use Rattle.std.proofs.Math.Seq.{take-suc}
use Rattle.std.proofs.lemmas.List.{append_assoc, take-append-drop}
use Rattle.std.proofs.lemmas.Option.{slice_get_within, get_or_from_slice_get}

-- the first n and the n-th are the first n + 1
pub first_more : {A : Type 0} (xs : List A) (n : ℕ) (x : A) → slice_get xs n ≡ Some x → take n xs ++ x ∷ [] ≡ take (n + 1) xs
first_more xs n x at =
    let within = slice_get_within xs n x at in
    let is = get_or_from_slice_get xs n x x at in
    sym (rw (add-one, take-suc xs n x, is) refl)

-- behind them come the others
pub split_at_one : {A : Type 0} (xs : List A) (n : ℕ) (x : A) → slice_get xs n ≡ Some x → xs ≡ take n xs ++ x ∷ drop (n + 1) xs
split_at_one xs n x at =
    sym (take-append-drop (n + 1) xs) ∙ ap (λ l. l ++ drop (n + 1) xs) (sym (first_more xs n x at)) ∙ append_assoc (take n xs) (x ∷ []) (drop (n + 1) xs)

at_seam : {A : Type 0} (front more : List A) (x : A) → slice_get (front ++ x ∷ more) (length front) ≡ Some x
at_seam [] more x = refl
at_seam (a ∷ front) more x = at_seam front more x

-- what comes behind a front has its length as its number
pub behind_front : {A : Type 0} (xs front rest more : List A) (x : A) → front ++ rest ≡ xs → rest ≡ x ∷ more → slice_get xs (length front) ≡ Some x
behind_front xs front rest more x all is =
    sym (ap (λ l. slice_get l (length front)) (sym (ap (λ l. front ++ l) is) ∙ all)) ∙ at_seam front more x

-- where nothing comes behind a front, it is the whole list
pub front_is_all : {A : Type 0} (xs front rest : List A) → front ++ rest ≡ xs → length rest ≡ 0 → length xs ≤ length front
front_is_all xs front rest all none = omega (arith, ap length all, length-append front rest, none)

-- a front with one more
pub front_longer : {A : Type 0} (front : List A) (x : A) → length front + 1 ≡ length (front ++ x ∷ [])
front_longer front x = omega (arith, length-append front (x ∷ []))
