-- The probes of a hash, looked at one after the other.
use Rattle.std.proofs.Common.{◌≡◌, ◌≢◌, ◌⊎◌, inl, inr, ℕ, zero, suc, ◌+◌, ◌-◌, ◌*◌, ◌/◌, ◌%◌, ◌<◌, ◌≤◌, ◌^◌, ◌==◌, Bool, true, false, not, ◌||◌, if◌then◌else◌, List, length, take, drop, get_or, bit_and, nat_le, Some, None, refl, sym, ap, ap₂, ◌∙◌, arith}
use Rattle.std.specs.Int.{IsPowerOfTwo, is_power_of_two}
use Rattle.std.proofs.lemmas.Nat.Bits.{shr_and_one, bit_at-lt}
use Rattle.std.proofs.lemmas.Bool.Decides.{nat_tests}
use Rattle.sst_bloom.specs.Lines.{is_set, position_of, step_of}
use Rattle.sst_bloom.specs.Reading.{line_size, misses, denied_by, denied}
use Rattle.sst_bloom.proofs.Bits.{or_true}
use Rattle.sst_bloom.proofs.Powers.{position_parts, power_tested}

-- the bit of a position by its byte and its place there
read_at : (body : List ℕ) (m r : ℕ) → r < 8 → is_set body (8 * m + r) ≡ (get_or body m 0 / 2 ^ r % 2 == 1)
read_at body m r small =
    let byte : (8 * m + r) / 8 ≡ m = omega arith in
    let bit : (8 * m + r) % 8 ≡ r = omega arith in
    ap₂ (λ (k j : ℕ). get_or body k 0 / 2 ^ j % 2 == 1) byte bit

pub probe_read : (body : List ℕ) (lines size hash i h : ℕ) → IsPowerOfTwo size → h ≡ (hash + i * step_of hash) % 2 ^ 32 →
    is_set body (position_of lines size hash i) ≡ (bit_and (get_or body (hash % lines * size + h / 8 % size) 0 / 2 ^ (h % 8)) 1 == 1)
probe_read body lines size hash i h power e =
    ap (λ n. is_set body (hash % lines * (8 * size) + n % (8 * size))) (sym e)
    ∙ ap (is_set body) (position_parts (hash % lines) size h power)
    ∙ read_at body (hash % lines * size + h / 8 % size) (h % 8) (omega arith)
    ∙ ap (λ n. n == 1) (sym (shr_and_one (get_or body (hash % lines * size + h / 8 % size) 0) (h % 8)))

-- a probe as it is looked at: the place of its byte in the line is at hand
pub probe_clear : (body : List ℕ) (lines size hash i h at : ℕ) → IsPowerOfTwo size → h ≡ (hash + i * step_of hash) % 2 ^ 32 → at ≡ h / 8 % size →
    bit_and (get_or body (hash % lines * size + at) 0 / 2 ^ (h % 8)) 1 ≡ 0 → is_set body (position_of lines size hash i) ≡ false
probe_clear body lines size hash i h at power turned place clear =
    probe_read body lines size hash i h power turned
    ∙ ap (λ k. bit_and (get_or body (hash % lines * size + k) 0 / 2 ^ (h % 8)) 1 == 1) (sym place)
    ∙ ap (λ n. n == 1) clear

bit_left : (x : ℕ) → x < 2 → x ≢ 0 → x ≡ 1
bit_left x small ne = omega arith

pub probe_set : (body : List ℕ) (lines size hash i h at : ℕ) → IsPowerOfTwo size → h ≡ (hash + i * step_of hash) % 2 ^ 32 → at ≡ h / 8 % size →
    bit_and (get_or body (hash % lines * size + at) 0 / 2 ^ (h % 8)) 1 ≢ 0 → is_set body (position_of lines size hash i) ≡ true
probe_set body lines size hash i h at power turned place set =
    let byte = get_or body (hash % lines * size + at) 0 in
    let small : bit_and (byte / 2 ^ (h % 8)) 1 < 2 = omega (arith, shr_and_one byte (h % 8), bit_at-lt byte (h % 8)) in
    probe_read body lines size hash i h power turned
    ∙ ap (λ k. bit_and (get_or body (hash % lines * size + k) 0 / 2 ^ (h % 8)) 1 == 1) (sym place)
    ∙ ap (λ n. n == 1) (bit_left (bit_and (byte / 2 ^ (h % 8)) 1) small set)

pub turned_more : (hash i h step s : ℕ) → h ≡ (hash + i * s) % 2 ^ 32 → step ≡ s → (h + step) % 2 ^ 32 ≡ (hash + (i + 1) * s) % 2 ^ 32
turned_more hash i h step s e same = omega arith

pub last_or_before : (i n : ℕ) → i < suc n → (i ≡ n) ⊎ (i < n)
last_or_before i n within = grind arith

-- a probe whose bit isn't set, among more
pub miss_at : (body : List ℕ) (lines size h n i : ℕ) → i < n → is_set body (position_of lines size h i) ≡ false → misses body lines size h n ≡ true
miss_at body lines size h zero i within miss = absurd (omega arith)
miss_at body lines size h (suc n) i within miss = elim (last_or_before i n within) [
  | inl e ↦
      ap (λ k. misses body lines size h n || not (is_set body (position_of lines size h k))) (sym e)
      ∙ ap (λ b. misses body lines size h n || not b) miss
      ∙ or_true (misses body lines size h n)
  | inr before ↦ ap (λ b. b || not (is_set body (position_of lines size h n))) (miss_at body lines size h n i before miss)
]

pub one_more : (body : List ℕ) (lines size h n : ℕ) → misses body lines size h n ≡ false → is_set body (position_of lines size h n) ≡ true →
    misses body lines size h (n + 1) ≡ false
one_more body lines size h n none hit =
    let more : n + 1 ≡ suc n = omega arith in
    ap (misses body lines size h) more ∙ ap₂ (λ a b. a || not b) none hit

-- where the lines can be told apart their size was tested
picked : (a b c : Bool) (size q : ℕ) → (if a then None else if b then (if c then Some q else None) else None) ≡ Some size → (c ≡ true) × (q ≡ size)
picked true b c size q e = cc
picked false true true size q e = (refl, cc)
picked false true false size q e = cc
picked false false c size q e = cc

pub line_power : (lines bytes size : ℕ) → line_size lines bytes ≡ Some size → IsPowerOfTwo size
line_power lines bytes size e =
    let tested = picked (lines == 0) (bytes % lines == 0) (is_power_of_two (bytes / lines)) size (bytes / lines) e in
    power_tested size (ap is_power_of_two (sym tested.1) ∙ tested.0)

-- a filter by its length
short_tested : (n : ℕ) → n ≤ 5 → nat_le n 5 ≡ true
short_tested n short = grind (arith, nat_tests)

long_tested : (n : ℕ) → 5 < n → nat_le n 5 ≡ false
long_tested n long = grind (arith, nat_tests)

pub denied_short : (filter : List ℕ) (h : ℕ) → length filter ≤ 5 → denied filter h ≡ true
unfolding denied
denied_short filter h short =
    ap (λ b. if b then true else denied_by (take (length filter - 5) filter) (drop (length filter - 5) filter) h) (short_tested (length filter) short)

pub denied_long : (filter : List ℕ) (h at : ℕ) → at + 5 ≡ length filter → 0 < at → denied_by (take at filter) (drop at filter) h ≡ denied filter h
unfolding denied
denied_long filter h at whole some =
    let front : at ≡ length filter - 5 = omega arith in
    let long : nat_le (length filter) 5 ≡ false = long_tested (length filter) (omega arith) in
    ap (λ n. denied_by (take n filter) (drop n filter) h) front
    ∙ sym (ap (λ b. if b then true else denied_by (take (length filter - 5) filter) (drop (length filter - 5) filter) h) long)
