-- Powers of two, and a position in a line of a power of two bytes.
use Rattle.std.proofs.Common.{◌≡◌, ℕ, zero, suc, ◌+◌, ◌-◌, ◌*◌, ◌/◌, ◌%◌, ◌≤◌, ◌^◌, ◌⊎◌, inl, inr, true, bit_and, ap, ◌∙◌, arith}
use Rattle.std.specs.Int.{IsPowerOfTwo, is_power_of_two}
use Rattle.std.specs.Int.Count.{ones, ones_step}
use Rattle.std.proofs.lemmas.Nat.{and_mask, mod-pow-add, pow-add, ones_le_self, zero_from_ones}
use Rattle.std.proofs.lemmas.Bool.{eqb-true}

even_or_odd : (r : ℕ) → (r % 2 ≡ 0) ⊎ (r % 2 ≡ 1)
even_or_odd r = grind arith

doubled : (n : ℕ) → IsPowerOfTwo (n / 2) → n % 2 ≡ 0 → IsPowerOfTwo n
doubled n (k, e) even = (k + 1, omega (arith, e, pow-add 2 k 1))

-- a number up to d of whose digits one is set
power_of : (d n : ℕ) → n ≤ d → ones n ≡ 1 → IsPowerOfTwo n
power_of zero n within one = absurd (omega (arith, ones_le_self n))
power_of (suc d) n within one = elim (even_or_odd n) [
  | inl even ↦ doubled n (power_of d (n / 2) (omega arith) (omega (arith, ones_step n))) even
  | inr odd ↦ let none : n / 2 ≡ 0 = zero_from_ones (n / 2) (omega (arith, ones_step n)) in (0, omega arith)
]

pub power_tested : (n : ℕ) → is_power_of_two n ≡ true → IsPowerOfTwo n
power_tested n test = power_of n n (omega arith) (eqb-true (ones n) 1 test)

pub masked : (h size : ℕ) → IsPowerOfTwo size → bit_and h (size - 1) ≡ h % size
masked h size (k, e) = rw e (and_mask h k)

-- the byte and the bit in it of a position in lines of a power of two bytes
pub position_parts : (line size h : ℕ) → IsPowerOfTwo size → line * (8 * size) + h % (8 * size) ≡ 8 * (line * size + h / 8 % size) + h % 8
position_parts line size h (k, e) =
    let eight : 8 * 2 ^ k ≡ 2 ^ (k + 3) = omega (arith, pow-add 2 k 3) in
    let parts : h % (8 * 2 ^ k) ≡ h / 8 % 2 ^ k * 8 + h % 8 = ap (λ n. h % n) eight ∙ mod-pow-add h k 3 in
    rw e (omega (arith, parts))
