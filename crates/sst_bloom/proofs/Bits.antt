-- A bit of some bytes that is set, and the others that stay.
use Rattle.std.proofs.Common.{◌≡◌, ◌≢◌, ◌⊎◌, inl, inr, ℕ, zero, suc, ◌*◌, ◌/◌, ◌%◌, ◌<◌, ◌^◌, ◌==◌, ◌||◌, Bool, true, false, List, length, get_or, slice_index, set, replicate, bit_or, refl, sym, ap, ap₂, ◌∙◌, arith}
use Rattle.std.specs.Int.{w8}
use Rattle.std.proofs.lemmas.Nat.{or_lt}
use Rattle.std.proofs.lemmas.Nat.Bits.{bit_at-zero, bit_at_set_same, bit_at_set_other}
use Rattle.std.proofs.lemmas.Bool.Decides.{nat_tests}
use Rattle.std.proofs.lemmas.List.{get_or-set_other}
use Rattle.std.proofs.lemmas.Grind.{get_or-set_at}
use Rattle.sst_bloom.specs.Lines.{AreBytes, is_set}

same_or_other : (a b : ℕ) → (a ≡ b) ⊎ (a ≢ b)
same_or_other a b = grind arith

pub equal_tested : (a b : ℕ) → a ≡ b → (a == b) ≡ true
equal_tested a b e = grind (arith, nat_tests)

pub apart_tested : (a b : ℕ) → a ≢ b → (a == b) ≡ false
apart_tested a b ne = grind (arith, nat_tests)

pub or_true : (b : Bool) → (b || true) ≡ true
or_true true = refl
or_true false = refl

or_false : (b : Bool) → (b || false) ≡ b
or_false true = refl
or_false false = refl

-- bit j of a byte in which bit k was set
bit_of_set : (x k j : ℕ) → k < 8 → (bit_or x (1 * 2 ^ k % 256) / 2 ^ j % 2 == 1) ≡ ((x / 2 ^ j % 2 == 1) || (k == j))
bit_of_set x k j within = elim (same_or_other j k) [
  | inl e ↦
      let here : bit_or x (1 * 2 ^ k % 256) / 2 ^ j % 2 ≡ 1 = rw e (bit_at_set_same w8 x k within) in
      equal_tested _ 1 here ∙ sym (ap (λ b. (x / 2 ^ j % 2 == 1) || b) (equal_tested k j (sym e)) ∙ or_true (x / 2 ^ j % 2 == 1))
  | inr ne ↦
      ap (λ n. n == 1) (bit_at_set_other w8 x k within j ne)
      ∙ sym (ap (λ b. (x / 2 ^ j % 2 == 1) || b) (apart_tested k j (λ e. ne (sym e))) ∙ or_false (x / 2 ^ j % 2 == 1))
]

-- two positions are equal where their bytes and their bits in these are
positions : (at p : ℕ) → at / 8 ≡ p / 8 → (at % 8 == p % 8) ≡ (at == p)
positions at p e = grind (arith, nat_tests)

pub bit_is_set : (bytes : List ℕ) (at p : ℕ) → at < 8 * length bytes →
    is_set (set bytes (at / 8) (bit_or (get_or bytes (at / 8) 0) (1 * 2 ^ (at % 8) % 256))) p ≡ (is_set bytes p || (at == p))
bit_is_set bytes at p within = elim (same_or_other (at / 8) (p / 8)) [
  | inl e ↦
      let value = bit_or (get_or bytes (at / 8) 0) (1 * 2 ^ (at % 8) % 256) in
      let byte : get_or (set bytes (at / 8) value) (p / 8) 0 ≡ value = get_or-set_at bytes (at / 8) (p / 8) value 0 (sym e) (omega arith) in
      ap (λ n. n / 2 ^ (p % 8) % 2 == 1) byte
      ∙ bit_of_set (get_or bytes (at / 8) 0) (at % 8) (p % 8) (omega arith)
      ∙ ap₂ (λ (k : ℕ) (b : Bool). (get_or bytes k 0 / 2 ^ (p % 8) % 2 == 1) || b) e (positions at p e)
  | inr ne ↦
      let value = bit_or (get_or bytes (at / 8) 0) (1 * 2 ^ (at % 8) % 256) in
      let byte : get_or (set bytes (at / 8) value) (p / 8) 0 ≡ get_or bytes (p / 8) 0 = get_or-set_other bytes (at / 8) (p / 8) value 0 (λ e. ne (sym e)) in
      ap (λ n. n / 2 ^ (p % 8) % 2 == 1) byte
      ∙ sym (ap (λ b. is_set bytes p || b) (apart_tested at p (λ e. ne (ap (λ n. n / 8) e))) ∙ or_false (is_set bytes p))
]

-- of zeros no bit is set
zeros_read : (n k : ℕ) → slice_index (replicate n 0) k ≡ 0
zeros_read zero k = refl
zeros_read (suc n) zero = refl
zeros_read (suc n) (suc k) = zeros_read n k

pub none_is_set : (n p : ℕ) → is_set (replicate n 0) p ≡ false
none_is_set n p = ap (λ x. x / 2 ^ (p % 8) % 2 == 1) (zeros_read n (p / 8)) ∙ ap (λ x. x == 1) (bit_at-zero (p % 8))

pub zeros_are_bytes : (n : ℕ) → AreBytes (replicate n 0)
zeros_are_bytes n k = omega (arith, zeros_read n k)

byte_set : (x k : ℕ) → x < 256 → bit_or x (1 * 2 ^ k % 256) < 256
byte_set x k small = or_lt 8 x (1 * 2 ^ k % 256) small (omega arith)

-- a byte in which a bit was set is one
pub set_are_bytes : (bytes : List ℕ) (at bit : ℕ) → at < length bytes → AreBytes bytes → AreBytes (set bytes at (bit_or (get_or bytes at 0) (1 * 2 ^ bit % 256)))
set_are_bytes bytes at bit within fits k = elim (same_or_other at k) [
  | inl e ↦ omega (arith, get_or-set_at bytes at k (bit_or (get_or bytes at 0) (1 * 2 ^ bit % 256)) 0 (sym e) within, byte_set (get_or bytes at 0) bit (fits at))
  | inr ne ↦ omega (arith, get_or-set_other bytes at k (bit_or (get_or bytes at 0) (1 * 2 ^ bit % 256)) 0 (λ e. ne (sym e)), fits k)
]
