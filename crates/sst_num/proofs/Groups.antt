-- What the loop that writes a varint keeps.
use Rattle.std.proofs.Common.{◌≡◌, ℕ, zero, suc, ◌+◌, ◌-◌, ◌/◌, ◌%◌, ◌^◌, ◌<◌, ◌≤◌, List, [], ◌∷◌, ◌++◌, length, length-set, take, set, true, false, nat_lt, if◌then◌else◌, refl, sym, ap, ◌∙◌, append_assoc, arith}
use Rattle.std.proofs.lemmas.List.{take_more_set}
use Rattle.std.proofs.Math.Nat.{div-div-eq-div-mul, pow-suc}
use Rattle.std.proofs.lemmas.Bool.{lt-ltb, le-ltb}
use Rattle.sst_num.specs.Spelling.{groups, varint}

-- `at` groups of v stand in the room, and `rest` is what is left of v
pub record Written (room : List ℕ) (v rest at : ℕ) : Type 0 where
  pub room_length : length room ≡ 10
  pub rest_is : rest ≡ v / 128 ^ at
  pub groups_are : (n : ℕ) → groups (at + n) v ≡ take at room ++ groups n rest

-- there is at least one group
pub groups-some : (n v : ℕ) → 0 < length (groups n v)
groups-some zero v = omega arith
groups-some (suc n) v =
    elim (nat_lt v 128) as (λ small. 0 < length (if small then v ∷ [] else (v % 128 + 128) ∷ groups n (v / 128))) [
      | true ↦ omega arith
      | false ↦ omega arith
    ]

-- a number below 128 is one group, however many there may be
pub groups-small : (n v : ℕ) → v < 128 → groups n v ≡ v ∷ []
groups-small zero v h = refl
groups-small (suc n) v h = rw (lt-ltb v 128 h) refl

-- a number from 128 on is its lowest group and the groups of the rest
pub groups-large : (n v : ℕ) → 128 ≤ v → groups (suc n) v ≡ (v % 128 + 128) ∷ groups n (v / 128)
groups-large n v h = rw (le-ltb v 128 h) refl

-- the last group ends the spelling
pub Written-ended : (room : List ℕ) (v rest at : ℕ) → Written room v rest at → rest < 128 → at ≤ 9 → take (at + 1) (set room at rest) ≡ varint v
unfolding varint
Written-ended room v rest at w small low =
    let nine : at + (9 - at) ≡ 9 = omega arith in
    let whole = rw nine at (w.groups_are (9 - at)) in
    let inside : at < length room = omega (arith, w.room_length) in
    take_more_set room at rest inside ∙ sym (whole ∙ ap (λ (last : List ℕ). take at room ++ last) (groups-small (9 - at) rest small))

-- one group more
pub Written-more : (room : List ℕ) (v rest at : ℕ) → Written room v rest at → 128 ≤ rest → at < 9 → Written (set room at (rest % 128 + 128)) v (rest / 128) (at + 1)
Written-more room v rest at w large low = record {
  room_length = length-set room at (rest % 128 + 128) ∙ w.room_length;
  rest_is = ap (λ r. r / 128) w.rest_is ∙ div-div-eq-div-mul v (128 ^ at) 128 ∙ ap (λ d. v / d) (sym (pow-suc 128 at) ∙ ap (λ e. 128 ^ e) (omega arith));
  groups_are = λ n.
      let inside : at < length room = omega (arith, w.room_length) in
      let moved : at + 1 + n ≡ at + suc n = omega arith in
      rw (moved, take_more_set room at (rest % 128 + 128) inside, append_assoc) (w.groups_are (suc n) ∙ ap (λ (last : List ℕ). take at room ++ last) (groups-large n rest large));
}

-- a number takes at least one byte
pub varint-some : (v : ℕ) → 0 < length (varint v)
unfolding varint
varint-some v = groups-some 9 v
