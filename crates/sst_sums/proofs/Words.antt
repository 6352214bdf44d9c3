-- Words of eight bytes, one after the other: each leaves what it leaves with zeros for the bytes behind it, and these are mixed.
use Rattle.std.proofs.Common.{◌≡◌, ℕ, zero, suc, ◌+◌, ◌<◌, List, [], ◌∷◌, ◌++◌, length, fold, get_or, bit_xor, refl, sym, ap, ◌∙◌, arith, length-append}
use Rattle.std.specs.Int.Bits.{xor_assoc, xor_zero_l}
use Rattle.std.proofs.lemmas.List.Sums.{fold-append}
use Rattle.sst_sums.specs.Sums.{crc_byte}
use Rattle.sst_sums.specs.Slices.{octet, octets, low_first}
use Rattle.byteorder.specs.Endian.{little_number}
use Rattle.sst_sums.proofs.Linear.{octets_linear}
use Rattle.sst_sums.proofs.Slices.{folded, eight_bytes}

-- zeros after zeros
octets_add : (n m x : ℕ) → octets n (octets m x) ≡ octets (n + m) x
unfolding octets
octets_add n zero x = let same : n + zero ≡ n = omega arith in rw same refl
octets_add n (suc m) x =
    let next : n + suc m ≡ suc (n + m) = omega arith in
    octets_add n m (octet x) ∙ ap (λ k. octets k x) (sym next)

-- what is left of the remainder, and what the bytes leave on their own
on_its_own : (r : ℕ) (bytes : List ℕ) → ((k : ℕ) → get_or bytes k 0 < 256) → fold crc_byte r bytes ≡ bit_xor (octets (length bytes) r) (fold crc_byte 0 bytes)
on_its_own r bytes fits =
    let alone : fold crc_byte 0 bytes ≡ octets (length bytes) (low_first bytes) =
    folded 0 bytes fits ∙ ap (octets (length bytes)) (xor_zero_l (low_first bytes)) in
    folded r bytes fits ∙ octets_linear (length bytes) r (low_first bytes) ∙ ap (bit_xor (octets (length bytes) r)) (sym alone)

-- the items of either part are bytes, as those of both are
bytes_before : (first rest : List ℕ) → ((k : ℕ) → get_or (first ++ rest) k 0 < 256) → (k : ℕ) → get_or first k 0 < 256
bytes_before [] rest fits k = omega arith
bytes_before (byte ∷ first) rest fits zero = fits 0
bytes_before (byte ∷ first) rest fits (suc k) = bytes_before first rest (λ i. fits (suc i)) k

bytes_behind : (first rest : List ℕ) → ((k : ℕ) → get_or (first ++ rest) k 0 < 256) → (k : ℕ) → get_or rest k 0 < 256
bytes_behind [] rest fits = fits
bytes_behind (byte ∷ first) rest fits = bytes_behind first rest (λ i. fits (suc i))

-- a word with n bytes to follow it, and these on their own
word_ahead : (n r : ℕ) (first rest : List ℕ) → ((k : ℕ) → get_or (first ++ rest) k 0 < 256) → length first ≡ 8 → length rest ≡ n →
    fold crc_byte r (first ++ rest) ≡ bit_xor (octets (n + 8) (bit_xor r (little_number 8 first))) (fold crc_byte 0 rest)
word_ahead n r first rest fits eight len =
    let word = bit_xor r (little_number 8 first) in
    let through : octets (length rest) (fold crc_byte r first) ≡ octets (n + 8) word =
    ap (λ k. octets k (fold crc_byte r first)) len
    ∙ ap (octets n) (sym (eight_bytes r first (bytes_before first rest fits) eight))
    ∙ octets_add n 8 word in
    fold-append crc_byte r first rest ∙ on_its_own (fold crc_byte r first) rest (bytes_behind first rest fits)
    ∙ ap (λ a. bit_xor a (fold crc_byte 0 rest)) through

-- the step of thirty-two bytes by four words
pub four_words : (r : ℕ) (a b c d : List ℕ) → ((k : ℕ) → get_or (a ++ (b ++ (c ++ d))) k 0 < 256) →
    length a ≡ 8 → length b ≡ 8 → length c ≡ 8 → length d ≡ 8 →
    bit_xor (bit_xor (bit_xor (octets 32 (bit_xor r (little_number 8 a))) (octets 24 (little_number 8 b))) (octets 16 (little_number 8 c)))
    (octets 8 (little_number 8 d))
    ≡ fold crc_byte r (a ++ (b ++ (c ++ d)))
four_words r a b c d fits la lb lc ld =
    let behind_a = bytes_behind a (b ++ (c ++ d)) fits in
    let behind_b = bytes_behind b (c ++ d) behind_a in
    let two : length (c ++ d) ≡ 16 = length-append c d ∙ omega (arith, lc, ld) in
    let three : length (b ++ (c ++ d)) ≡ 24 = length-append b (c ++ d) ∙ omega (arith, lb, two) in
    let first = word_ahead 24 r a (b ++ (c ++ d)) fits la three in
    let second = word_ahead 16 0 b (c ++ d) behind_a lb two in
    let third = word_ahead 8 0 c d behind_b lc ld in
    let fourth = eight_bytes 0 d (bytes_behind c d behind_b) ld in
    let wa = octets 32 (bit_xor r (little_number 8 a)) in
    let wb = octets 24 (little_number 8 b) in
    let wc = octets 16 (little_number 8 c) in
    let wd = octets 8 (little_number 8 d) in
    xor_assoc (bit_xor wa wb) wc wd ∙ xor_assoc wa wb (bit_xor wc wd)
    ∙ cc (first, second, third, fourth, xor_zero_l (little_number 8 b), xor_zero_l (little_number 8 c), xor_zero_l (little_number 8 d))
