-- A number of 32 bits turned, and turned back.
use Rattle.std.proofs.Common.{◌≡◌, ℕ, ◌+◌, ◌*◌, ◌/◌, ◌%◌, ◌<◌, ◌^◌, bit_or, ap, ◌∙◌, arith}
use Rattle.std.proofs.lemmas.Nat.{or_comm, or_shifted}
use Rattle.sst_sums.specs.Sums.{mask, unmask}

-- two parts in their own places, from k on and below it
parts : (high k low : ℕ) → low < 2 ^ k → bit_or low (high * 2 ^ k) ≡ low + high * 2 ^ k
parts high k low h = or_comm low (high * 2 ^ k) ∙ or_shifted high k low h ∙ omega arith

pub right_15 : (c : ℕ) → c < 2 ^ 32 → bit_or (c / 2 ^ 15) (c * 2 ^ 17 % 2 ^ 32) ≡ c / 2 ^ 15 + c % 2 ^ 15 * 2 ^ 17
right_15 c h =
    let high : c * 2 ^ 17 % 2 ^ 32 ≡ c % 2 ^ 15 * 2 ^ 17 = omega arith in
    ap (bit_or (c / 2 ^ 15)) high ∙ parts (c % 2 ^ 15) 17 (c / 2 ^ 15) (omega arith)

pub right_17 : (c : ℕ) → c < 2 ^ 32 → bit_or (c / 2 ^ 17) (c * 2 ^ 15 % 2 ^ 32) ≡ c / 2 ^ 17 + c % 2 ^ 17 * 2 ^ 15
right_17 c h =
    let high : c * 2 ^ 15 % 2 ^ 32 ≡ c % 2 ^ 17 * 2 ^ 15 = omega arith in
    ap (bit_or (c / 2 ^ 17)) high ∙ parts (c % 2 ^ 17) 15 (c / 2 ^ 17) (omega arith)

pub unmask_mask : (c : ℕ) → c < 2 ^ 32 → unmask (mask c) ≡ c
unmask_mask c h = omega arith
