-- What is read as a number of fixed length is exactly the number whose bytes are there.
use Rattle.std.proofs.Common.{◌≡◌, ℕ, zero, suc, ◌+◌, ◌*◌, ◌/◌, ◌%◌, ◌^◌, ◌<◌, ◌≤◌, List, [], ◌∷◌, ◌++◌, length, take, drop, Option, Some, None, inl, inr, refl, sym, ap, ◌∙◌, arith}
use Rattle.std.specs.Option.{option_map}
use Rattle.std.proofs.Math.Nat.{pow-suc}
use Rattle.std.proofs.lemmas.Bool.{cases_lt, lt-ltb, le-ltb}
use Rattle.std.proofs.lemmas.List.{take-append-drop}
use Rattle.std.proofs.lemmas.Option.{none-some}
use Rattle.sst_num.specs.Spelling.{fixed, fixed_value}
use Rattle.sst_num.specs.NumberReading.{fixed_at}
use Rattle.sst_num.proofs.Fixed.{fixed_value-fixed}

-- what was written is read again, whatever follows
pub fixed_at-fixed : (n v : ℕ) (rest : List ℕ) → v < 256 ^ n → fixed_at n (fixed n v ++ rest) ≡ Some v
fixed_at-fixed zero v rest fits = let none : 0 ≡ v = omega arith in ap Some none
fixed_at-fixed (suc n) v rest fits =
    let size = pow-suc 256 n in
    let below : v / 256 < 256 ^ n = omega (arith, size) in
    let byte : v % 256 < 256 = omega arith in
    let whole : v % 256 + 256 * (v / 256) ≡ v = omega arith in
    rw (lt-ltb (v % 256) 256 byte, fixed_at-fixed n (v / 256) rest below) (ap Some whole)

-- the bytes of the number are the first n
pub record FixedStands (n : ℕ) (bytes : List ℕ) (v : ℕ) : Type 0 where
  pub spells : take n bytes ≡ fixed n v
  pub fits : v < 256 ^ n
  pub long : n ≤ length bytes

-- a number that was read behind a byte
read-behind : (b v : ℕ) (read : Option ℕ) → option_map (λ high. b + 256 * high) read ≡ Some v
    → (high : ℕ) × (read ≡ Some high) × (b + 256 * high ≡ v)
read-behind b v None read = absurd (none-some v read)
read-behind b v (Some high) read = (high, refl, cc)

-- what was read stands at the front
pub fixed_at-found : (n v : ℕ) (bytes : List ℕ) → fixed_at n bytes ≡ Some v → FixedStands n bytes v
fixed_at-found zero v bytes read =
    let none : 0 ≡ v = cc in
    record { spells = refl; fits = omega arith; long = omega arith }
fixed_at-found (suc n) v [] read = absurd (none-some v read)
fixed_at-found (suc n) v (b ∷ bytes) read =
    elim (cases_lt b 256) [
      | inl byte ↦
          let part = read-behind b v (fixed_at n bytes) (rw (lt-ltb b 256 byte) at read) in
          let rest = fixed_at-found n part.0 bytes part.1 in
          let size = pow-suc 256 n in
          let low : v % 256 ≡ b = omega (arith, part.2) in
          let high : v / 256 ≡ part.0 = omega (arith, part.2) in
          let tail = rest.spells in
          record {
            spells = rw (low, high) (ap (λ (xs : List ℕ). b ∷ xs) tail);
            fits = omega (arith, rest.fits, size, part.2);
            long = omega (arith, rest.long);
          }
      | inr large ↦ absurd (none-some v (rw (le-ltb b 256 large) at read))
    ]

-- the number is what the first n bytes spell
pub fixed_at-value : (n v : ℕ) (bytes : List ℕ) → fixed_at n bytes ≡ Some v → fixed_value (take n bytes) ≡ v
fixed_at-value n v bytes read =
    let found = fixed_at-found n v bytes read in
    ap fixed_value found.spells ∙ fixed_value-fixed n v found.fits

-- the number's bytes, and what follows them
pub fixed_at-joined : (n v : ℕ) (bytes : List ℕ) → fixed_at n bytes ≡ Some v → bytes ≡ fixed n v ++ drop n bytes
fixed_at-joined n v bytes read =
    sym (take-append-drop n bytes) ∙ ap (λ (front : List ℕ). front ++ drop n bytes) (fixed_at-found n v bytes read).spells
