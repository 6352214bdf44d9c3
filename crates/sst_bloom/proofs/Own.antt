-- A filter denies no key of its own.
use Rattle.std.proofs.Common.{◌≡◌, inl, inr, ℕ, zero, suc, ◌+◌, ◌*◌, ◌/◌, ◌%◌, ◌<◌, ◌≤◌, ◌^◌, ◌==◌, ◌||◌, nat_le, Bool, true, false, not, if◌then◌else◌, List, [], ◌∷◌, ◌++◌, length, length-append, map, get_or, Some, None, refl, sym, ap, ap₂, ◌∙◌, arith}
use Rattle.std.specs.List.{range_with_len, Contains}
use Rattle.std.specs.Int.{bit_at, is_power_of_two}
use Rattle.std.specs.Int.Count.{ones}
use Rattle.std.proofs.Math.Nat.{mul-le-mul, mul-mod_left, mul-div_cancel}
use Rattle.std.proofs.Math.Seq.{take-append_seam, drop-append_seam}
use Rattle.std.proofs.lemmas.Bool.Decides.{nat_tests}
use Rattle.std.proofs.lemmas.List.{length-map}
use Rattle.std.proofs.lemmas.List.FromFn.{length-map-range_with_len, get_or-map-range_with_len}
use Rattle.sst_num.specs.Spelling.{fixed}
use Rattle.sst_num.proofs.Fixed.{length-fixed, fixed_value-fixed}
use Rattle.sst_bloom.specs.Lines.{is_set, key_hash, position_of, some_takes, takes}
use Rattle.sst_bloom.specs.Filter.{bloom_filter, byte_of, filter_of_hashes, lines_of, probes_of}
use Rattle.sst_bloom.specs.Reading.{denied, denied_by, denied_in, denies, line_size, misses}
use Rattle.sst_bloom.specs.Builder.{key_limit}
use Rattle.sst_bloom.proofs.Bits.{or_true, equal_tested, apart_tested}
use Rattle.sst_bloom.proofs.Looking.{denied_long, last_or_before}
use Rattle.sst_bloom.proofs.Only.{number_bit}

-- ---- the bits of what is written

byte_bit : (says : ℕ → Bool) (k j : ℕ) → j < 8 → (bit_at (byte_of says k) j == 1) ≡ says (8 * k + j)
unfolding byte_of
byte_bit says k j small = number_bit says (8 * k) 8 j small

pub written_bit : (says : ℕ → Bool) (n p : ℕ) → p < 8 * n → is_set (map (byte_of says) (range_with_len 0 n)) p ≡ says p
written_bit says n p within =
    let inside : p / 8 < n = omega arith in
    let whole : 8 * (p / 8) + p % 8 ≡ p = omega arith in
    ap (λ x. x / 2 ^ (p % 8) % 2 == 1) (get_or-map-range_with_len (byte_of says) 0 n (p / 8) (p / 8) 0 inside (omega arith))
    ∙ byte_bit says (p / 8) (p % 8) (omega arith)
    ∙ ap says whole

takes_own : (lines size h n i : ℕ) → i < n → takes lines size h n (position_of lines size h i) ≡ true
takes_own lines size h zero i within = absurd (omega arith)
takes_own lines size h (suc n) i within = elim (last_or_before i n within) [
  | inl e ↦
      let p = position_of lines size h i in
      ap (λ b. takes lines size h n p || b) (ap (λ k. position_of lines size h k == p) (sym e) ∙ equal_tested p p refl) ∙ or_true (takes lines size h n p)
  | inr before ↦
      let p = position_of lines size h i in
      ap (λ b. b || (position_of lines size h n == p)) (takes_own lines size h n i before)
]

some_own : (lines n : ℕ) (users : List (List ℕ)) (user : List ℕ) (k p : ℕ) → k < length users → get_or users k user ≡ user →
    takes lines 64 (key_hash user) n p ≡ true → some_takes lines 64 (map key_hash users) n p ≡ true
some_own lines n [] user k p within e own = absurd (omega arith)
some_own lines n (u ∷ users) user zero p within e own =
    ap (λ b. b || some_takes lines 64 (map key_hash users) n p) (ap (λ v. takes lines 64 (key_hash v) n p) e ∙ own)
some_own lines n (u ∷ users) user (suc k) p within e own =
    ap (λ b. takes lines 64 (key_hash u) n p || b) (some_own lines n users user k p (omega arith) e own) ∙ or_true (takes lines 64 (key_hash u) n p)

none_missed : (body : List ℕ) (lines h n m : ℕ) → n ≤ m → ((i : ℕ) → i < m → is_set body (position_of lines 64 h i) ≡ true) → misses body lines 64 h n ≡ false
none_missed body lines h zero m within all = refl
none_missed body lines h (suc n) m within all = ap₂ (λ a b. a || not b) (none_missed body lines h n m (omega arith) all) (all n (omega arith))

position_within : (lines h i : ℕ) → 0 < lines → position_of lines 64 h i < 8 * (64 * lines)
position_within lines h i some = omega arith

-- ---- what is written is read

sixty_four : is_power_of_two 64 ≡ true
unfolding ones
sixty_four = refl

sized_so : (a b : Bool) (q : ℕ) (c : Bool) → a ≡ false → b ≡ true → c ≡ true → (if a then None else if b then (if c then Some q else None) else None) ≡ Some q
sized_so a b q c pa pb pc = rw (pa, pb, pc)

sized : (a b : Bool) (q : ℕ) → a ≡ false → b ≡ true → q ≡ 64 → (if a then None else if b then (if is_power_of_two q then Some q else None) else None) ≡ Some 64
sized a b q pa pb pq = sized_so a b q (is_power_of_two q) pa pb (ap is_power_of_two pq ∙ sixty_four) ∙ ap Some pq

written_size : (lines bytes : ℕ) → 0 < lines → bytes ≡ 64 * lines → line_size lines bytes ≡ Some 64
written_size lines bytes some e =
    sized (lines == 0) (bytes % lines == 0) (bytes / lines) (apart_tested lines 0 (omega arith))
    (equal_tested (bytes % lines) 0 (ap (λ n. n % lines) e ∙ mul-mod_left 64 lines)) (ap (λ n. n / lines) e ∙ mul-div_cancel 64 some)

denied_so : (a b : Bool) (denied : Bool) → a ≡ false → b ≡ false → (if a then false else if b then false else denied) ≡ denied
denied_so a b denied pa pb = rw (pa, pb)

within_tested : (n : ℕ) → n < 128 → nat_le 128 n ≡ false
within_tested n small = grind (arith, nat_tests)

written_denied : (body : List ℕ) (lines probes h : ℕ) → 0 < lines → lines < 256 ^ 4 → length body ≡ 64 * lines → 1 ≤ probes → probes < 128 →
    denied_by body (probes ∷ fixed 4 lines) h ≡ misses body lines 64 h probes
written_denied body lines probes h some few long least most =
    denied_so (probes == 0) (nat_le 128 probes) _ (apart_tested probes 0 (omega arith)) (within_tested probes most)
    ∙ ap (λ l. denied_in body l h probes (line_size l (length body))) (fixed_value-fixed 4 lines few)
    ∙ ap (denied_in body lines h probes) (written_size lines (length body) some long)

pub joined_denied : (body end : List ℕ) (h : ℕ) → length end ≡ 5 → 0 < length body → denied (body ++ end) h ≡ denied_by body end h
joined_denied body end h five some =
    let long : length body + 5 ≡ length (body ++ end) = sym (length-append body end ∙ omega (arith, five)) in
    sym (denied_long (body ++ end) h (length body) long some)
    ∙ ap₂ (λ b e. denied_by b e h) (take-append_seam body end) (drop-append_seam body end)

-- ---- how many lines and probes there are

pub lines_some : (keys bits : ℕ) → 1 ≤ lines_of keys bits
lines_some keys bits = grind (arith, nat_tests)

odd_few : (n : ℕ) → n ≤ 819201 → (if n % 2 == 0 then n + 1 else n) < 256 ^ 4
odd_few n few = grind (arith, nat_tests)

lines_few : (keys bits : ℕ) → keys ≤ key_limit → bits ≤ 100 → lines_of keys bits < 256 ^ 4
lines_few keys bits few small =
    let product : keys * bits ≤ 4194304 * 100 = mul-le-mul few small in
    odd_few ((keys * bits + 511) / 512) (omega (arith, product))

pub added_is_not_denied : (bits : ℕ) (users : List (List ℕ)) (user : List ℕ) → bits ≤ 100 → length users ≤ key_limit → Contains users user →
    denies (bloom_filter bits users) user ≡ false
unfolding bloom_filter filter_of_hashes
added_is_not_denied bits users user small few (k, within, e) =
    let hashes = map key_hash users in
    let same : length hashes ≡ length users = length-map users key_hash in
    let lines = lines_of (length hashes) bits in
    let probes = probes_of bits in
    let body = map (byte_of (some_takes lines 64 hashes probes)) (range_with_len 0 (64 * lines)) in
    let long : length body ≡ 64 * lines = length-map-range_with_len (byte_of (some_takes lines 64 hashes probes)) 0 (64 * lines) in
    let some : 1 ≤ lines = lines_some (length hashes) bits in
    let below : lines < 256 ^ 4 = lines_few (length hashes) bits (omega (arith, same)) small in
    joined_denied body (probes ∷ fixed 4 lines) (key_hash user) (ap suc (length-fixed 4 lines)) (omega (arith, long))
    ∙ written_denied body lines probes (key_hash user) some below long (omega arith) (omega arith)
    ∙ none_missed body lines (key_hash user) probes probes (omega arith)
    (λ i inside.
    let p = position_of lines 64 (key_hash user) i in
    written_bit (some_takes lines 64 hashes probes) (64 * lines) p (position_within lines (key_hash user) i some)
    ∙ some_own lines probes users user k p within e (takes_own lines 64 (key_hash user) probes i inside))
