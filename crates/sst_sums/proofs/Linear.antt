-- The step of the checksum is linear: it takes the xor of two remainders to the xor of what it makes of each.
use Rattle.std.proofs.Common.{◌≡◌, ℕ, zero, suc, ◌+◌, ◌*◌, ◌/◌, ◌%◌, ◌<◌, ◌^◌, ◌⊎◌, inl, inr, bit_xor, refl, sym, ap, ap₂, ◌∙◌, arith}
use Rattle.std.specs.Int.Bits.{xor_assoc, xor_self, xor_zero_r, xor_zero_l}
use Rattle.std.proofs.lemmas.Nat.{xor_comm, xor_shr, xor_mod, xor_block}
use Rattle.sst_sums.specs.Sums.{crc_bit, crc_bits}
use Rattle.sst_sums.specs.Slices.{octet, octets}

-- ---- rules of xor

both_mixed : (a b p : ℕ) → bit_xor (bit_xor a p) (bit_xor b p) ≡ bit_xor a b
both_mixed a b p =
    xor_assoc a p (bit_xor b p)
    ∙ ap (bit_xor a) (ap (bit_xor p) (xor_comm b p) ∙ sym (xor_assoc p p b) ∙ ap (λ n. bit_xor n b) (xor_self p) ∙ xor_zero_l b)

first_mixed : (a b p : ℕ) → bit_xor (bit_xor a p) b ≡ bit_xor (bit_xor a b) p
first_mixed a b p = xor_assoc a p b ∙ ap (bit_xor a) (xor_comm p b) ∙ sym (xor_assoc a b p)

-- a byte and a number above it have no bit in common, so that their sum is their xor
pub apart : (byte above : ℕ) → byte < 256 → byte + 256 * above ≡ bit_xor byte (above * 256)
apart byte above h =
    let joined : bit_xor (0 * 2 ^ 8 + byte) (above * 2 ^ 8 + 0) ≡ bit_xor 0 above * 2 ^ 8 + bit_xor byte 0 = xor_block 8 0 above byte 0 h (omega arith) in
    let left : 0 * 2 ^ 8 + byte ≡ byte = omega arith in
    let right : above * 2 ^ 8 + 0 ≡ above * 256 = omega arith in
    let value : byte + 256 * above ≡ above * 256 + byte = omega arith in
    value ∙ ap₂ (λ (a b : ℕ). a * 256 + b) (sym (xor_zero_l above)) (sym (xor_zero_r byte)) ∙ sym joined ∙ ap₂ bit_xor left right

-- ---- one bit

bit_even : (r : ℕ) → r % 2 ≡ 0 → crc_bit r ≡ r / 2
bit_even r h = rw h

bit_odd : (r : ℕ) → r % 2 ≡ 1 → crc_bit r ≡ bit_xor (r / 2) 0x82F63B78
bit_odd r h = rw h

even_or_odd : (r : ℕ) → (r % 2 ≡ 0) ⊎ (r % 2 ≡ 1)
even_or_odd r = grind arith

bit_linear : (a b : ℕ) → crc_bit (bit_xor a b) ≡ bit_xor (crc_bit a) (crc_bit b)
bit_linear a b =
    let half : bit_xor a b / 2 ≡ bit_xor (a / 2) (b / 2) = xor_shr a b 1 in
    let low : bit_xor a b % 2 ≡ bit_xor (a % 2) (b % 2) = xor_mod a b 1 in
    elim (even_or_odd a) [
      | inl ea ↦ elim (even_or_odd b) [
        | inl eb ↦ bit_even (bit_xor a b) (low ∙ ap₂ bit_xor ea eb) ∙ half ∙ sym (ap₂ bit_xor (bit_even a ea) (bit_even b eb))
        | inr eb ↦ bit_odd (bit_xor a b) (low ∙ ap₂ bit_xor ea eb) ∙ ap (λ n. bit_xor n 0x82F63B78) half
            ∙ xor_assoc (a / 2) (b / 2) 0x82F63B78 ∙ sym (ap₂ bit_xor (bit_even a ea) (bit_odd b eb))
      ]
      | inr ea ↦ elim (even_or_odd b) [
        | inl eb ↦ bit_odd (bit_xor a b) (low ∙ ap₂ bit_xor ea eb) ∙ ap (λ n. bit_xor n 0x82F63B78) half
            ∙ sym (first_mixed (a / 2) (b / 2) 0x82F63B78) ∙ sym (ap₂ bit_xor (bit_odd a ea) (bit_even b eb))
        | inr eb ↦ bit_even (bit_xor a b) (low ∙ ap₂ bit_xor ea eb) ∙ half
            ∙ sym (both_mixed (a / 2) (b / 2) 0x82F63B78) ∙ sym (ap₂ bit_xor (bit_odd a ea) (bit_odd b eb))
      ]
    ]

bit_of_double : (n : ℕ) → crc_bit (n * 2) ≡ n
bit_of_double n =
    let even : n * 2 % 2 ≡ 0 = omega arith in
    let half : n * 2 / 2 ≡ n = omega arith in
    bit_even (n * 2) even ∙ half

-- ---- many bits

bits_linear : (n a b : ℕ) → crc_bits n (bit_xor a b) ≡ bit_xor (crc_bits n a) (crc_bits n b)
bits_linear zero a b = refl
bits_linear (suc n) a b = ap (crc_bits n) (bit_linear a b) ∙ bits_linear n (crc_bit a) (crc_bit b)

pub octet_linear : (a b : ℕ) → octet (bit_xor a b) ≡ bit_xor (octet a) (octet b)
unfolding octet
octet_linear a b = bits_linear 8 a b

pub octets_linear : (n a b : ℕ) → octets n (bit_xor a b) ≡ bit_xor (octets n a) (octets n b)
unfolding octets
octets_linear zero a b = refl
octets_linear (suc n) a b = ap (octets n) (octet_linear a b) ∙ octets_linear n (octet a) (octet b)

-- the lowest byte, where it is zero, is shifted out
pub octet_shifts : (n : ℕ) → octet (n * 256) ≡ n
unfolding octet
octet_shifts n =
    let twos : n * 256 ≡ n * 2 * 2 * 2 * 2 * 2 * 2 * 2 * 2 = omega arith in
    rw (
      twos,
      bit_of_double (n * 2 * 2 * 2 * 2 * 2 * 2 * 2),
      bit_of_double (n * 2 * 2 * 2 * 2 * 2 * 2),
      bit_of_double (n * 2 * 2 * 2 * 2 * 2),
      bit_of_double (n * 2 * 2 * 2 * 2),
      bit_of_double (n * 2 * 2 * 2),
      bit_of_double (n * 2 * 2),
      bit_of_double (n * 2),
      bit_of_double n,
    )
