-- Bytes of the checksum at once: what they leave is what the number that they spell leaves, and that by its own bytes.
use Rattle.std.proofs.Common.{◌≡◌, ℕ, zero, suc, ◌+◌, ◌*◌, ◌/◌, ◌%◌, ◌<◌, ◌^◌, ◌≤◌, List, [], ◌∷◌, length, drop, fold, get_or, bit_xor, refl, sym, ap, ap₂, ◌∙◌, arith, drop_of_length-le, drop-cons}
use Rattle.std.specs.Int.Bits.{xor_assoc, xor_zero_r}
use Rattle.std.proofs.lemmas.Nat.{shr-shr}
use Rattle.sst_sums.specs.Sums.{crc_byte}
use Rattle.sst_sums.specs.Slices.{octet, octets, low_first}
use Rattle.byteorder.specs.Endian.{little_from, little_number}
use Rattle.sst_sums.proofs.Linear.{apart, octet_linear, octets_linear, octet_shifts}

-- a number's lowest byte passes through all n + 1 bytes of zero, and what is above it through n
split : (n x : ℕ) → octets (suc n) x ≡ bit_xor (octets (suc n) (x % 256)) (octets n (x / 256))
unfolding octets
split n x =
    let parts : x ≡ x % 256 + 256 * (x / 256) = omega arith in
    let low : x % 256 < 256 = omega arith in
    ap (octets (suc n)) (parts ∙ apart (x % 256) (x / 256) low)
    ∙ octets_linear (suc n) (x % 256) (x / 256 * 256)
    ∙ ap (λ r. bit_xor (octets (suc n) (x % 256)) (octets n r)) (octet_shifts (x / 256))

none : (x : ℕ) → octets 0 x ≡ x
unfolding octets
none x = refl

byte_is : (r byte : ℕ) → crc_byte r byte ≡ octet (bit_xor r byte)
unfolding crc_byte octet
byte_is r byte = refl

one_is : (r : ℕ) → octets 1 r ≡ octet r
unfolding octets
one_is r = refl

-- the step of one byte by the first table
pub one_byte : (r byte : ℕ) → bit_xor (octets 1 (bit_xor r byte % 256)) (bit_xor r byte / 256) ≡ crc_byte r byte
one_byte r byte =
    ap (bit_xor (octets 1 (bit_xor r byte % 256))) (sym (none (bit_xor r byte / 256)))
    ∙ sym (split 0 (bit_xor r byte)) ∙ one_is (bit_xor r byte) ∙ sym (byte_is r byte)

-- ---- bytes, one after the other, as one number

-- a byte, and a number whose lowest byte follows it
before : (r byte above : ℕ) → byte < 256 → octet (bit_xor r (byte + 256 * above)) ≡ bit_xor (crc_byte r byte) above
before r byte above h =
    ap (λ n. octet (bit_xor r n)) (apart byte above h)
    ∙ ap octet (sym (xor_assoc r byte (above * 256)))
    ∙ octet_linear (bit_xor r byte) (above * 256)
    ∙ ap₂ bit_xor (sym (byte_is r byte)) (octet_shifts above)

-- bytes leave what their number leaves
pub folded : (r : ℕ) (bytes : List ℕ) → ((k : ℕ) → get_or bytes k 0 < 256) → fold crc_byte r bytes ≡ octets (length bytes) (bit_xor r (low_first bytes))
unfolding octets
folded r [] h = sym (xor_zero_r r)
folded r (byte ∷ bytes) h =
    folded (crc_byte r byte) bytes (λ k. h (suc k)) ∙ ap (octets (length bytes)) (sym (before r byte (low_first bytes) (h 0)))

-- the number that `read_u64` and its like give, by the list's own shape
little_is : (n i : ℕ) (bytes : List ℕ) → i + n ≡ length bytes → little_from i n bytes ≡ low_first (drop i bytes)
little_is zero i bytes e =
    let past : length bytes ≤ i = omega arith in
    sym (ap low_first (drop_of_length-le bytes past))
little_is (suc n) i bytes e =
    let within : i < length bytes = omega arith in
    let rest : suc i + n ≡ length bytes = omega arith in
    rw (drop-cons bytes i 0 within, little_is n (suc i) bytes rest)

pub eight_bytes : (r : ℕ) (bytes : List ℕ) → ((k : ℕ) → get_or bytes k 0 < 256) → length bytes ≡ 8 → octets 8 (bit_xor r (little_number 8 bytes)) ≡ fold crc_byte r bytes
eight_bytes r bytes fits e =
    ap (λ n. octets 8 (bit_xor r n)) (little_is 8 0 bytes (sym e))
    ∙ ap (λ n. octets n (bit_xor r (low_first bytes))) (sym e)
    ∙ sym (folded r bytes fits)

-- ---- a number by its bytes

-- the same from the bit k on, for n = m + 1
split_at : (n m k x : ℕ) → n ≡ m + 1 → octets n (x / 2 ^ k) ≡ bit_xor (octets n (x / 2 ^ k % 256)) (octets m (x / 2 ^ (k + 8)))
split_at n m k x e =
    let next : n ≡ suc m = omega (arith, e) in
    rw next (split m (x / 2 ^ k) ∙ ap (λ y. bit_xor (octets (suc m) (x / 2 ^ k % 256)) (octets m y)) (shr-shr x k 8))

-- zeros leave nothing
of_zero : (n : ℕ) → octets n 0 ≡ 0
unfolding octet octets
of_zero zero = refl
of_zero (suc n) = of_zero n

joined : (a b c d e f g h : ℕ) →
    bit_xor (bit_xor (bit_xor (bit_xor (bit_xor (bit_xor (bit_xor a b) c) d) e) f) g) h
    ≡ bit_xor a (bit_xor b (bit_xor c (bit_xor d (bit_xor e (bit_xor f (bit_xor g h))))))
joined a b c d e f g h = simp xor_assoc

-- a word of eight bytes by eight tables, with n bytes of zero behind it
pub eight_tables : (n x : ℕ) → x < 2 ^ 64 →
    bit_xor (bit_xor (bit_xor (bit_xor (bit_xor (bit_xor (bit_xor
    (octets (n + 7 + 1) (x % 256)) (octets (n + 6 + 1) (x / 2 ^ 8 % 256))) (octets (n + 5 + 1) (x / 2 ^ 16 % 256)))
    (octets (n + 4 + 1) (x / 2 ^ 24 % 256))) (octets (n + 3 + 1) (x / 2 ^ 32 % 256))) (octets (n + 2 + 1) (x / 2 ^ 40 % 256)))
    (octets (n + 1 + 1) (x / 2 ^ 48 % 256))) (octets (n + 1) (x / 2 ^ 56 % 256))
    ≡ octets (n + 8) x
eight_tables n x h =
    let at_once : n + 8 ≡ n + 7 + 1 = omega arith in
    let first : octets (n + 7 + 1) x ≡ bit_xor (octets (n + 7 + 1) (x % 256)) (octets (n + 6 + 1) (x / 2 ^ 8)) =
    let next : n + 7 + 1 ≡ suc (n + 6 + 1) = omega arith in rw next (split (n + 6 + 1) x) in
    let end : x / 2 ^ 64 ≡ 0 = omega arith in
    let last : octets (n + 1) (x / 2 ^ 56) ≡ octets (n + 1) (x / 2 ^ 56 % 256) =
    split_at (n + 1) n 56 x (omega arith) ∙ ap (bit_xor (octets (n + 1) (x / 2 ^ 56 % 256))) (ap (octets n) end ∙ of_zero n)
    ∙ xor_zero_r (octets (n + 1) (x / 2 ^ 56 % 256)) in
    joined (octets (n + 7 + 1) (x % 256)) (octets (n + 6 + 1) (x / 2 ^ 8 % 256)) (octets (n + 5 + 1) (x / 2 ^ 16 % 256))
    (octets (n + 4 + 1) (x / 2 ^ 24 % 256)) (octets (n + 3 + 1) (x / 2 ^ 32 % 256)) (octets (n + 2 + 1) (x / 2 ^ 40 % 256))
    (octets (n + 1 + 1) (x / 2 ^ 48 % 256)) (octets (n + 1) (x / 2 ^ 56 % 256))
    ∙ rw at_once (cc (
      first,
      split_at (n + 6 + 1) (n + 5 + 1) 8 x (omega arith),
      split_at (n + 5 + 1) (n + 4 + 1) 16 x (omega arith),
      split_at (n + 4 + 1) (n + 3 + 1) 24 x (omega arith),
      split_at (n + 3 + 1) (n + 2 + 1) 32 x (omega arith),
      split_at (n + 2 + 1) (n + 1 + 1) 40 x (omega arith),
      split_at (n + 1 + 1) (n + 1) 48 x (omega arith),
      last,
    ))
