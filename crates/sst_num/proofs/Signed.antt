-- A number that has a sign and its zigzag number answer to each other, and so do its spelling and what is read.
use Rattle.std.proofs.Common.{◌≡◌, ℕ, ◌+◌, ◌*◌, ◌/◌, ◌%◌, ◌^◌, ◌<◌, ◌≤◌, ℤ, pos, negsuc, List, ◌++◌, length, Option, Some, None, inl, inr, option_map, refl, sym, subst, ap, ◌∙◌, arith}
use Rattle.std.proofs.lemmas.Bool.{cases_lt, eq-eqb, ne_eqb}
use Rattle.std.proofs.lemmas.Int.{ints}
use Rattle.std.proofs.lemmas.Option.{none-some, some_pair_parts}
use Rattle.sst_num.specs.Spelling.{IsVarint, IsSigned64, zigzag, signed_varint}
use Rattle.sst_num.specs.NumberReading.{varint_at, from_zigzag, with_sign, signed_at, StartsWithSigned}
use Rattle.sst_num.proofs.NumberReading.{varint_at-varint, varint_at-found}
use Rattle.sst_num.proofs.Varints.{varint-spells, varint-only, varint-prefix}

-- the number of a zigzag number that is even, and of one that is odd
pub from_zigzag-even : (n : ℕ) → n % 2 ≡ 0 → from_zigzag n ≡ pos (n / 2)
from_zigzag-even n even = rw (eq-eqb (n % 2) 0 even) refl

pub from_zigzag-odd : (n : ℕ) → 0 < n % 2 → from_zigzag n ≡ negsuc (n / 2)
from_zigzag-odd n odd = rw (ne_eqb (n % 2) 0 (λ even. omega (arith, odd, even))) refl

pub from_zigzag-zigzag : (v : ℤ) → from_zigzag (zigzag v) ≡ v
from_zigzag-zigzag (pos n) = from_zigzag-even (2 * n) (omega arith) ∙ ap pos (omega arith)
from_zigzag-zigzag (negsuc n) = from_zigzag-odd (2 * n + 1) (omega arith) ∙ ap negsuc (omega arith)

pub zigzag-from_zigzag : (n : ℕ) → zigzag (from_zigzag n) ≡ n
zigzag-from_zigzag n =
    elim (cases_lt 0 (n % 2)) [
      | inl odd ↦
          let half : 2 * (n / 2) + 1 ≡ n = omega (arith, odd) in
          ap zigzag (from_zigzag-odd n odd) ∙ half
      | inr even ↦
          let half : 2 * (n / 2) ≡ n = omega (arith, even) in
          ap zigzag (from_zigzag-even n (omega (arith, even))) ∙ half
    ]

pub zigzag-one : (u v : ℤ) → zigzag u ≡ zigzag v → u ≡ v
zigzag-one u v same = sym (from_zigzag-zigzag u) ∙ ap from_zigzag same ∙ from_zigzag-zigzag v

-- a number is of 64 bits exactly where its zigzag number is below 2 ^ 64
pub zigzag-fits : (v : ℤ) → IsSigned64 v → zigzag v < 2 ^ 64
zigzag-fits (pos n) fits = omega (arith, ints, fits.0, fits.1)
zigzag-fits (negsuc n) fits = omega (arith, ints, fits.0, fits.1)

pub fits-zigzag : (v : ℤ) → zigzag v < 2 ^ 64 → IsSigned64 v
fits-zigzag (pos n) small = (omega (arith, ints, small), omega (arith, ints, small))
fits-zigzag (negsuc n) small = (omega (arith, ints, small), omega (arith, ints, small))

pub zigzag-each : (n : ℕ) → n < 2 ^ 64 → (v : ℤ) × IsSigned64 v × (zigzag v ≡ n)
zigzag-each n small =
    let back = zigzag-from_zigzag n in
    let fits : zigzag (from_zigzag n) < 2 ^ 64 = subst (λ (k : ℕ). k < 2 ^ 64) (sym back) small in
    (from_zigzag n, fits-zigzag (from_zigzag n) fits, back)

-- its spelling is that of the zigzag number
pub signed-spells : (v : ℤ) → IsSigned64 v → IsVarint (signed_varint v) (zigzag v) × (length (signed_varint v) ≤ 10)
signed-spells v fits = varint-spells (zigzag v) (zigzag-fits v fits)

pub signed-only : (v : ℤ) (bytes : List ℕ) → IsSigned64 v → IsVarint bytes (zigzag v) → bytes ≡ signed_varint v
signed-only v bytes fits spells = varint-only (zigzag v) bytes (zigzag-fits v fits) spells

pub signed-prefix : (u v : ℤ) (x y : List ℕ) → IsSigned64 u → IsSigned64 v → signed_varint u ++ x ≡ signed_varint v ++ y → u ≡ v
signed-prefix u v x y u_fits v_fits same =
    let both = varint-prefix (signed_varint u) (signed_varint v) x y (zigzag u) (zigzag v) (signed-spells u u_fits).0 (signed-spells v v_fits).0 same in
    zigzag-one u v both.1

-- what was put is read again, whatever follows
pub signed_at-signed : (v : ℤ) (rest : List ℕ) → IsSigned64 v → signed_at (signed_varint v ++ rest) ≡ Some (v, length (signed_varint v))
unfolding signed_at
signed_at-signed v rest fits =
    ap (option_map with_sign) (varint_at-varint (zigzag v) rest (zigzag-fits v fits))
    ∙ ap (λ (w : ℤ). Some (w, length (signed_varint v))) (from_zigzag-zigzag v)

-- the zigzag number of what was read was read
with_sign-some : (read : Option (ℕ × ℕ)) (v : ℤ) (used : ℕ) → option_map with_sign read ≡ Some (v, used) → read ≡ Some (zigzag v, used)
with_sign-some None v used is = absurd (none-some (v, used) is)
with_sign-some (Some f) v used is =
    let parts = some_pair_parts (from_zigzag f.0) v f.1 used is in
    let number : f.0 ≡ zigzag v = sym (zigzag-from_zigzag f.0) ∙ ap zigzag parts.0 in
    ap (λ (n : ℕ). Some (n, f.1)) number ∙ ap (λ (k : ℕ). Some (zigzag v, k)) parts.1

-- what was read is of 64 bits, and its one spelling is at the front
pub signed_at-found : (v : ℤ) (used : ℕ) (bytes : List ℕ) → signed_at bytes ≡ Some (v, used) → StartsWithSigned bytes v used × IsSigned64 v
unfolding signed_at
signed_at-found v used bytes read =
    let found = varint_at-found (zigzag v) used bytes (with_sign-some (varint_at bytes) v used read) in
    (found.0, fits-zigzag v found.1)
