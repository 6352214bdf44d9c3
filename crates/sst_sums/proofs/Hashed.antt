-- Four bytes of a hash at once, as the number that they spell.
use Rattle.std.proofs.Common.{◌≡◌, ℕ, ◌+◌, ◌*◌, ◌^◌, List, [], ◌∷◌, ◌++◌, length, ap, arith}
use Rattle.byteorder.specs.Endian.{little_number}
use Rattle.sst_sums.specs.Hash.{after_word, after_bytes}

four_spell : (a b c d : ℕ) → little_number 4 (a ∷ b ∷ c ∷ d ∷ []) ≡ a + 2 ^ 8 * b + 2 ^ 16 * c + 2 ^ 24 * d
four_spell a b c d = omega arith

pub four_bytes : (h : ℕ) (four rest : List ℕ) → length four ≡ 4 →
    after_bytes (after_word h (little_number 4 four)) rest ≡ after_bytes h (four ++ rest)
four_bytes h [] rest len = absurd (omega (arith, len))
four_bytes h (a ∷ []) rest len = absurd (omega (arith, len))
four_bytes h (a ∷ b ∷ []) rest len = absurd (omega (arith, len))
four_bytes h (a ∷ b ∷ c ∷ []) rest len = absurd (omega (arith, len))
four_bytes h (a ∷ b ∷ c ∷ d ∷ []) rest len = ap (λ w. after_bytes (after_word h w) rest) (four_spell a b c d)
four_bytes h (a ∷ b ∷ c ∷ d ∷ e ∷ more) rest len = absurd (omega (arith, len))
