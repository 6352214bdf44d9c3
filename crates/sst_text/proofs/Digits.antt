-- A number that passed the last sequence number stays past it, however many digits follow.
use Rattle.std.proofs.Common.{◌≡◌, ℕ, ◌+◌, ◌-◌, ◌*◌, ◌^◌, ◌≤◌, true, false, cond, List, [], ◌∷◌, None, option_and_then, refl, arith}
use Rattle.std.specs.Char.{is_ascii_digit}
use Rattle.std.proofs.lemmas.Bool.{le-ltb}
use Rattle.sst_text.specs.Texts.{digits_from, in_range}

-- no sequence number begins with digits that passed them all
pub digits-past : (value : ℕ) (field : List ℕ) → 2 ^ 56 ≤ value → option_and_then in_range (digits_from value field) ≡ None
digits-past value [] h = rw (le-ltb value (2 ^ 56) h) refl
digits-past value (c ∷ rest) h =
    elim (is_ascii_digit c) as (λ t. option_and_then in_range (cond t (digits_from (value * 10 + (c - 48)) rest) None) ≡ None) [
      | true ↦ digits-past (value * 10 + (c - 48)) rest (omega arith)
      | false ↦ refl
    ]
