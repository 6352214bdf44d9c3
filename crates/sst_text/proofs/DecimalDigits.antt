-- The decimal digits of a number are those of its tenth, and its last one.
use Rattle.std.proofs.Common.{◌≡◌, ℕ, ◌+◌, ◌/◌, ◌%◌, ◌^◌, ◌<◌, ◌≤◌, List, [], ◌∷◌, ◌++◌, sym, ap, ◌∙◌, append_assoc, arith}
use Rattle.std.specs.Fmt.{decimal}
use Rattle.std.proofs.lemmas.Fmt.{decimal_digit, decimal_step}

-- the only digit of a number was put
pub put_one : (old now : List ℕ) (n : ℕ) → n < 10 → now ≡ old ++ ((48 + n % 10) ∷ []) → now ≡ old ++ decimal n
put_one old now n low put =
    let same : n % 10 ≡ n = omega arith in
    put ∙ ap (λ d. old ++ ((48 + d) ∷ [])) same ∙ ap (λ (ds : List ℕ). old ++ ds) (sym (decimal_digit n low))

-- the last digit of a number was put after the others
pub put_last : (old middle now : List ℕ) (n : ℕ) → 10 ≤ n → n < 2 ^ 64 → middle ≡ old ++ decimal (n / 10) → now ≡ middle ++ ((48 + n % 10) ∷ []) → now ≡ old ++ decimal n
put_last old middle now n large fits front put =
    put ∙ ap (λ (m : List ℕ). m ++ ((48 + n % 10) ∷ [])) front ∙ append_assoc old (decimal (n / 10)) ((48 + n % 10) ∷ [])
    ∙ ap (λ (ds : List ℕ). old ++ ds) (sym (decimal_step n large fits))
