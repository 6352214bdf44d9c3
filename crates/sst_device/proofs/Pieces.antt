-- What pieces put one after another make of bytes that may be told.
use Rattle.std.proofs.Common.{◌≡◌, ℕ, zero, suc, ◌+◌, List, [], ◌∷◌, ◌++◌, take, drop, Option, None, Some, refl, ap, ◌∙◌, append_assoc, arith}
use Rattle.std.proofs.Common.{Result, Ok, Err, OnErr}
use Rattle.std.specs.Io.KnownBytes.{append_known}

-- what holds at all holds after an error
pub OnErr-always : {T E : Type 0} (r : Result T E) (P : Type 0) → P → OnErr r P
OnErr-always (Ok x) P p = tt
OnErr-always (Err e) P p = p

pub take-more : {X : Type 0} (i n : ℕ) (xs : List X) → take i xs ++ take n (drop i xs) ≡ take (i + n) xs
take-more zero n xs = let e : zero + n ≡ n = omega arith in rw e refl
take-more (suc i) zero [] = let e : suc i + zero ≡ suc i = omega arith in rw e refl
take-more (suc i) (suc n) [] = let e : suc i + suc n ≡ suc (suc (i + n)) = omega arith in rw e refl
take-more (suc i) n (x ∷ xs) = let e : suc i + n ≡ suc (i + n) = omega arith in rw e (ap (λ l. x ∷ l) (take-more i n xs))

-- a prefix, and then a prefix of the rest, are a longer prefix
append_known-prefix : (known : Option (List ℕ)) (i n : ℕ) (xs : List ℕ)
    → append_known (append_known known (take i xs)) (take n (drop i xs)) ≡ append_known known (take (i + n) xs)
append_known-prefix None i n xs = refl
append_known-prefix (Some known) i n xs = ap Some (append_assoc known (take i xs) (take n (drop i xs)) ∙ ap (λ l. known ++ l) (take-more i n xs))

-- after `i` bytes of a piece, `n` bytes of what is left of it are `i + n` bytes of it
pub append_known-more : (first middle last : Option (List ℕ)) (i n : ℕ) (xs rest : List ℕ) → middle ≡ append_known first (take i xs) → rest ≡ drop i xs
    → last ≡ append_known middle (take n rest) → last ≡ append_known first (take (i + n) xs)
append_known-more first middle last i n xs rest so_far left step =
    step ∙ ap (λ s. append_known s (take n rest)) so_far ∙ ap (λ l. append_known (append_known first (take i xs)) (take n l)) left ∙ append_known-prefix first i n xs
