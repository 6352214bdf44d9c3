-- The last bytes of a file: the magic number there, and the fields of a footer.
use Rattle.std.proofs.Common.{◌≡◌, ℕ, zero, suc, ◌+◌, ◌-◌, ◌*◌, ◌^◌, ◌<◌, ◌≤◌, List, [], ◌∷◌, ◌++◌, length, take, drop, Option, None, Some, get_or, refl, sym, ap, subst, ◌∙◌, inl, inr, length-append, length-drop, arith}
use Rattle.std.specs.Option.{option_map}
use Rattle.std.proofs.lemmas.Bool.{cases_lt, lt-ltb, le-ltb}
use Rattle.std.proofs.lemmas.List.{append-nil, drop-drop, take-append-drop, take_all, drop_at}
use Rattle.sst_num.specs.Spelling.{fixed}
use Rattle.sst_num.specs.NumberReading.{fixed_at}
use Rattle.sst_num.proofs.FixedAt.{fixed_at-fixed, fixed_at-found}
use Rattle.sst_meta.specs.FooterReading.{last_bytes, number_at_end}

-- the last bytes of a joined list
pub last_bytes-joined : (n : ℕ) (front last : List ℕ) → length last ≡ n → last_bytes n (front ++ last) ≡ last
last_bytes-joined n front last size =
    let at : length (front ++ last) - n ≡ length front = omega (arith, length-append front last) in
    rw at (drop_at front last (length front) refl)

-- the last bytes of the last bytes
pub last_bytes-twice : (m n : ℕ) (bytes : List ℕ) → m ≤ length bytes → m ≤ n → last_bytes m (last_bytes n bytes) ≡ last_bytes m bytes
last_bytes-twice m n bytes long less =
    let size = length-drop (length bytes - n) bytes in
    let at : length bytes - n + (length (drop (length bytes - n) bytes) - m) ≡ length bytes - m = omega arith in
    drop-drop (length (last_bytes n bytes) - m) (length bytes - n) bytes ∙ ap (λ (k : ℕ). drop k bytes) at

pub length-last_bytes : (n : ℕ) (bytes : List ℕ) → n ≤ length bytes → length (last_bytes n bytes) ≡ n
length-last_bytes n bytes long = omega (arith, length-drop (length bytes - n) bytes)

pub last_bytes-split : (n : ℕ) (bytes : List ℕ) → bytes ≡ take (length bytes - n) bytes ++ last_bytes n bytes
last_bytes-split n bytes = sym (take-append-drop (length bytes - n) bytes)

-- the number in the last eight bytes
pub number_at_end-fixed : (tail : List ℕ) (m : ℕ) → m < 256 ^ 8 → 8 ≤ length tail → last_bytes 8 tail ≡ fixed 8 m → number_at_end tail ≡ Some m
unfolding number_at_end
number_at_end-fixed tail m fits long is =
    let read : fixed_at 8 (fixed 8 m) ≡ Some m = subst (λ (l : List ℕ). fixed_at 8 l ≡ Some m) (append-nil (fixed 8 m)) (fixed_at-fixed 8 m [] fits) in
    rw (le-ltb (length tail) 8 long, is) read

pub number_at_end-found : (tail : List ℕ) (m : ℕ) → number_at_end tail ≡ Some m → (8 ≤ length tail) × (last_bytes 8 tail ≡ fixed 8 m)
unfolding number_at_end
number_at_end-found tail m read =
    elim (cases_lt (length tail) 8) [
      | inl short ↦ let e = rw (lt-ltb (length tail) 8 short) at read in cc
      | inr long ↦
          let found = fixed_at-found 8 m (last_bytes 8 tail) (rw (le-ltb (length tail) 8 long) at read) in
          let size = length-last_bytes 8 tail long in
          (long, sym (take_all 8 (last_bytes 8 tail) (omega arith)) ∙ found.spells)
    ]

-- a number of fixed length can be read from bytes
pub fixed_at-bytes : (n : ℕ) (bytes : List ℕ) → n ≤ length bytes → ((i : ℕ) → get_or bytes i 0 < 256) → fixed_at n bytes ≡ None → ⊥
fixed_at-bytes zero bytes long are none = cc
fixed_at-bytes (suc n) [] long are none = omega arith
fixed_at-bytes (suc n) (b ∷ bytes) long are none =
    let e = rw (lt-ltb b 256 (are 0)) at none in
    elim (fixed_at n bytes) as (λ (o : Option ℕ). fixed_at n bytes ≡ o → option_map (λ high. b + 256 * high) o ≡ None → ⊥) [
      | None ↦ λ is _. fixed_at-bytes n bytes (omega arith) (λ i. are (suc i)) is
      | Some high ↦ λ is e. cc
    ] refl e

-- three parts after one another
pub cut_three : (a b : ℕ) (rest middle last : List ℕ) → drop a rest ≡ middle ++ drop b (drop a rest) → drop b (drop a rest) ≡ last
    → rest ≡ take a rest ++ (middle ++ last)
cut_three a b rest middle last joined is =
    sym (take-append-drop a rest) ∙ ap (λ (l : List ℕ). take a rest ++ l) (joined ∙ ap (λ (l : List ℕ). middle ++ l) is)
