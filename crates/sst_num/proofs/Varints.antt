-- The groups of a number are its one spelling, and no spelling begins another.
use Rattle.std.proofs.Common.{◌≡◌, ℕ, zero, suc, ◌+◌, ◌*◌, ◌/◌, ◌%◌, ◌^◌, ◌<◌, ◌≤◌, List, [], ◌∷◌, ◌++◌, length, true, false, nat_lt, if◌then◌else◌, inl, inr, refl, sym, ap, ◌∙◌, arith}
use Rattle.std.proofs.Math.Nat.{pow-suc}
use Rattle.std.proofs.lemmas.Bool.{cases_lt}
use Rattle.sst_num.specs.Spelling.{groups, varint, IsVarint}
use Rattle.sst_num.proofs.Groups.{groups-small, groups-large}

-- one group more, at the front
pub IsVarint-more : (b high v : ℕ) (bytes : List ℕ) → IsVarint bytes high → 128 ≤ b → b < 256 → 0 < high → v + 128 ≡ b + 128 * high → IsVarint (b ∷ bytes) v
IsVarint-more b high v [] spells low top some sum = absurd spells
IsVarint-more b high v (c ∷ bytes) spells low top some sum = (low, top, (high, some, sum, spells))

-- the rest of a number that fits one group more fits the others
rest-fits : (n v : ℕ) → v < 128 ^ suc (suc n) → v / 128 < 128 ^ suc n
rest-fits n v h = let size = pow-suc 128 (suc n) in omega (arith, size)

-- the groups of a number spell it
pub groups-spell : (n v : ℕ) → v < 128 ^ suc n → IsVarint (groups n v) v
groups-spell zero v h = (omega arith, refl)
groups-spell (suc n) v h =
    elim (cases_lt v 128) [
      | inl small ↦ rw (groups-small (suc n) v small) (small, refl)
      | inr large ↦
          let fits = rest-fits n v h in
          rw (groups-large n v large)
          (IsVarint-more (v % 128 + 128) (v / 128) v (groups n (v / 128)) (groups-spell n (v / 128) fits) (omega arith) (omega arith) (omega arith) (omega arith))
    ]

-- there are no more groups than asked for
pub length-groups : (n v : ℕ) → length (groups n v) ≤ suc n
length-groups zero v = omega arith
length-groups (suc n) v =
    elim (nat_lt v 128) as (λ small. length (if small then v ∷ [] else (v % 128 + 128) ∷ groups n (v / 128)) ≤ suc (suc n)) [
      | true ↦ omega arith
      | false ↦ omega (arith, length-groups n (v / 128))
    ]

-- nothing else spells it
pub groups-only : (n v : ℕ) (bytes : List ℕ) → v < 128 ^ suc n → IsVarint bytes v → bytes ≡ groups n v
groups-only n v [] h spells = absurd spells
groups-only n v (b ∷ []) h spells =
    let small : v < 128 = omega (arith, spells.0, spells.1) in
    rw (groups-small n v small) (ap (λ (x : ℕ). x ∷ []) (sym spells.1))
groups-only zero v (b ∷ c ∷ bytes) h spells = absurd (omega (arith, spells.0, spells.2.1, spells.2.2))
groups-only (suc n) v (b ∷ c ∷ bytes) h spells =
    let sum : v + 128 ≡ b + 128 * spells.2.0 = spells.2.2 in
    let large : 128 ≤ v = omega (arith, spells.0, spells.2.1, sum) in
    let low : v % 128 + 128 ≡ b = omega (arith, spells.0, spells.1, sum) in
    let rest : v / 128 ≡ spells.2.0 = omega (arith, spells.0, spells.1, sum) in
    let fits : spells.2.0 < 128 ^ suc n = omega (arith, rest-fits n v h, rest) in
    let tail = groups-only n spells.2.0 (c ∷ bytes) fits spells.2.3 in
    rw (groups-large n v large, low, rest) (ap (λ (xs : List ℕ). b ∷ xs) tail)

-- spellings that begin one list are one, of one number
pub varint-prefix : (a b x y : List ℕ) (m n : ℕ) → IsVarint a m → IsVarint b n → a ++ x ≡ b ++ y → (a ≡ b) × (m ≡ n)
varint-prefix [] b x y m n spells_a spells_b same = absurd spells_a
varint-prefix (i ∷ a) [] x y m n spells_a spells_b same = absurd spells_b
varint-prefix (i ∷ []) (j ∷ []) x y m n spells_a spells_b same =
    let first : i ≡ j = cc in
    (ap (λ (k : ℕ). k ∷ []) first, spells_a.1 ∙ first ∙ sym spells_b.1)
varint-prefix (i ∷ []) (j ∷ d ∷ b) x y m n spells_a spells_b same =
    let first : i ≡ j = cc in
    absurd (omega (arith, spells_a.0, spells_b.0))
varint-prefix (i ∷ c ∷ a) (j ∷ []) x y m n spells_a spells_b same =
    let first : i ≡ j = cc in
    absurd (omega (arith, spells_a.0, spells_b.0))
varint-prefix (i ∷ c ∷ a) (j ∷ d ∷ b) x y m n spells_a spells_b same =
    let first : i ≡ j = cc in
    let others : (c ∷ a) ++ x ≡ (d ∷ b) ++ y = cc in
    let rest = varint-prefix (c ∷ a) (d ∷ b) x y spells_a.2.0 spells_b.2.0 spells_a.2.3 spells_b.2.3 others in
    let whole : i ∷ c ∷ a ≡ j ∷ d ∷ b = cc (first, rest.0) in
    (whole, omega (arith, first, rest.1, spells_a.2.2, spells_b.2.2))

pub varint-spells : (v : ℕ) → v < 2 ^ 64 → IsVarint (varint v) v × (length (varint v) ≤ 10)
unfolding varint
varint-spells v h = (groups-spell 9 v (omega arith), length-groups 9 v)

pub varint-only : (v : ℕ) (bytes : List ℕ) → v < 2 ^ 64 → IsVarint bytes v → bytes ≡ varint v
unfolding varint
varint-only v bytes h spells = groups-only 9 v bytes (omega arith) spells
