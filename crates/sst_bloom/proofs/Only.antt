-- A list of bytes is the only one that has its bits.
use Rattle.std.proofs.Common.{◌≡◌, ℕ, zero, suc, ◌+◌, ◌*◌, ◌/◌, ◌%◌, ◌<◌, ◌^◌, ◌==◌, Bool, true, false, if◌then◌else◌, ◌||◌, List, [], ◌∷◌, ◌++◌, append_assoc, length, take, map, replicate, get_or, refl, sym, ap, subst, ap₂, ◌∙◌, arith}
use Rattle.std.specs.List.{range_with_len}
use Rattle.std.specs.Int.{bit_at}
use Rattle.std.proofs.lemmas.Nat.{pow-add}
use Rattle.std.proofs.lemmas.Nat.Bits.{bit_at_lowest, bit_at-suc, bit_at-lt, same_from_bits_below}
use Rattle.std.proofs.lemmas.Bool.Decides.{nat_tests}
use Rattle.std.proofs.lemmas.List.{ext_get_or, length-replicate}
use Rattle.std.proofs.Math.Seq.{take-append_seam}
use Rattle.std.proofs.lemmas.List.FromFn.{length-map-range_with_len, get_or-map-range_with_len}
use Rattle.sst_bloom.specs.Lines.{AreBytes, is_set, some_takes}
use Rattle.sst_bloom.specs.Filter.{number_of, byte_of, filter_of_hashes, lines_of, probes_of}
use Rattle.sst_num.specs.Spelling.{fixed}
use Rattle.sst_bloom.proofs.Bits.{none_is_set, zeros_are_bytes}

-- the lowest bit of a number is what was asked of it, and the others are those of the rest
bit_small : (b : Bool) → (if b then 1 else 0) < 2
bit_small true = omega arith
bit_small false = omega arith

bit_tested : (b : Bool) → ((if b then 1 else 0) == 1) ≡ b
bit_tested true = refl
bit_tested false = refl

pub number_fits : (says : ℕ → Bool) (p n : ℕ) → number_of says p n < 2 ^ n
number_fits says p zero = omega arith
number_fits says p (suc n) =
    let rest = number_fits says (p + 1) n in
    omega (arith, rest, bit_small (says p), pow-add 2 n 1)

pub number_bit : (says : ℕ → Bool) (p n j : ℕ) → j < n → (bit_at (number_of says p n) j == 1) ≡ says (p + j)
number_bit says p zero j within = absurd (omega arith)
number_bit says p (suc n) zero within =
    let here : p ≡ p + 0 = omega arith in
    let low : ((if says p then 1 else 0) + 2 * number_of says (p + 1) n) % 2 ≡ (if says p then 1 else 0) = omega (arith, bit_small (says p)) in
    ap (λ x. x == 1) (bit_at_lowest (number_of says p (suc n)) ∙ low) ∙ bit_tested (says p) ∙ ap says here
number_bit says p (suc n) (suc j) within =
    let there : p + 1 + j ≡ p + suc j = omega arith in
    let half : ((if says p then 1 else 0) + 2 * number_of says (p + 1) n) / 2 ≡ number_of says (p + 1) n = omega (arith, bit_small (says p)) in
    ap (λ x. x == 1) (bit_at-suc (number_of says p (suc n)) j ∙ ap (λ x. bit_at x j) half) ∙ number_bit says (p + 1) n j (omega arith) ∙ ap says there

same_bit : (a b : ℕ) → a < 2 → b < 2 → (a == 1) ≡ (b == 1) → a ≡ b
same_bit a b la lb e = grind (arith, nat_tests)

number_is : (says : ℕ → Bool) (p n x : ℕ) → x < 2 ^ n → ((j : ℕ) → j < n → (bit_at x j == 1) ≡ says (p + j)) → x ≡ number_of says p n
number_is says p n x fits same =
    same_from_bits_below n x (number_of says p n) fits (number_fits says p n)
    (λ j within. same_bit (bit_at x j) (bit_at (number_of says p n) j) (bit_at-lt x j) (bit_at-lt (number_of says p n) j) (same j within ∙ sym (number_bit says p n j within)))

-- bit j of the byte at k by its position
at_position : (body : List ℕ) (k j : ℕ) → j < 8 → (bit_at (get_or body k 0) j == 1) ≡ is_set body (8 * k + j)
at_position body k j small =
    let byte : k ≡ (8 * k + j) / 8 = omega arith in
    let place : j ≡ (8 * k + j) % 8 = omega arith in
    ap₂ (λ (a b : ℕ). get_or body a 0 / 2 ^ b % 2 == 1) byte place

byte_is : (says : ℕ → Bool) (body : List ℕ) (k : ℕ) → get_or body k 0 < 256 → ((j : ℕ) → j < 8 → is_set body (8 * k + j) ≡ says (8 * k + j)) →
    get_or body k 0 ≡ byte_of says k
unfolding byte_of
byte_is says body k fits same = number_is says (8 * k) 8 (get_or body k 0) fits (λ j small. at_position body k j small ∙ same j small)

pub bytes_are : (says : ℕ → Bool) (n : ℕ) (body : List ℕ) → length body ≡ n → AreBytes body →
    ((p : ℕ) → p < 8 * n → is_set body p ≡ says p) → body ≡ map (byte_of says) (range_with_len 0 n)
bytes_are says n body long fits same =
    ext_get_or 0 body (map (byte_of says) (range_with_len 0 n)) (long ∙ sym (length-map-range_with_len (byte_of says) 0 n))
    (λ k within.
    let inside : k < n = omega (arith, long) in
    byte_is says body k (fits k) (λ j small. same (8 * k + j) (omega arith))
    ∙ sym (get_or-map-range_with_len (byte_of says) 0 n k k 0 inside (omega arith)))

-- zeros in which the bits of some hashes were set
pub lines_are : (lines probes : ℕ) (hashes body : List ℕ) → length body ≡ 64 * lines → AreBytes body →
    ((p : ℕ) → is_set body p ≡ (is_set (replicate (64 * lines) 0) p || some_takes lines 64 hashes probes p)) →
    body ≡ map (byte_of (some_takes lines 64 hashes probes)) (range_with_len 0 (64 * lines))
lines_are lines probes hashes body long fits same =
    bytes_are (some_takes lines 64 hashes probes) (64 * lines) body long fits
    (λ p within. same p ∙ ap (λ b. b || some_takes lines 64 hashes probes p) (none_is_set (64 * lines) p))

-- lines, the number of probes and that of the lines joined
pub filter_is : (bits : ℕ) (hashes : List ℕ) (lines probes : ℕ) (body pushed made : List ℕ) → lines ≡ lines_of (length hashes) bits → probes ≡ probes_of bits →
    body ≡ map (byte_of (some_takes lines 64 hashes probes)) (range_with_len 0 (64 * lines)) → pushed ≡ body ++ probes ∷ [] → made ≡ pushed ++ fixed 4 lines →
    made ≡ filter_of_hashes bits hashes
unfolding filter_of_hashes
filter_is bits hashes lines probes body pushed made lines_are probes_are body_is pushed_is made_is =
    made_is
    ∙ ap (λ x. x ++ fixed 4 lines) (pushed_is ∙ ap (λ x. x ++ probes ∷ []) body_is)
    ∙ append_assoc (map (byte_of (some_takes lines 64 hashes probes)) (range_with_len 0 (64 * lines))) (probes ∷ []) (fixed 4 lines)
    ∙ ap₂ (λ (l p : ℕ). map (byte_of (some_takes l 64 hashes p)) (range_with_len 0 (64 * l)) ++ p ∷ fixed 4 l) lines_are probes_are

-- the lines as the code hands them back
pub lines_made : (lines probes size : ℕ) (hashes zeros old new rest : List ℕ) → size ≡ 64 * lines → zeros ≡ replicate (64 * lines) 0 → old ≡ zeros →
    length new ≡ length old → (AreBytes old → AreBytes new) →
    ((p : ℕ) → is_set new p ≡ (is_set old p || some_takes lines 64 hashes probes p)) →
    take size (new ++ rest) ≡ map (byte_of (some_takes lines 64 hashes probes)) (range_with_len 0 (64 * lines))
lines_made lines probes size hashes zeros old new rest size_is zeros_are old_is long fits same =
    let all : length new ≡ 64 * lines = long ∙ ap length (old_is ∙ zeros_are) ∙ length-replicate (64 * lines) 0 in
    ap (λ n. take n (new ++ rest)) (size_is ∙ sym all)
    ∙ take-append_seam new rest
    ∙ lines_are lines probes hashes new all (fits (subst AreBytes (sym (old_is ∙ zeros_are)) (zeros_are_bytes (64 * lines)))) (λ p. same p ∙ ap (λ l. is_set l p || some_takes lines 64 hashes probes p) (old_is ∙ zeros_are))
