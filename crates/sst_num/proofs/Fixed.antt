-- Numbers of fixed length are read back.
use Rattle.std.proofs.Common.{◌≡◌, ℕ, zero, suc, ◌/◌, ◌^◌, ◌<◌, length, refl, ap, arith}
use Rattle.std.proofs.Math.Nat.{pow-suc}
use Rattle.sst_num.specs.Spelling.{fixed, fixed_value}

pub length-fixed : (n v : ℕ) → length (fixed n v) ≡ n
length-fixed zero v = refl
length-fixed (suc n) v = ap suc (length-fixed n (v / 256))

-- a number that fits its bytes is read back
pub fixed_value-fixed : (n v : ℕ) → v < 256 ^ n → fixed_value (fixed n v) ≡ v
fixed_value-fixed zero v h = omega arith
fixed_value-fixed (suc n) v h =
    let size = pow-suc 256 n in
    let below : v / 256 < 256 ^ n = omega (arith, size) in
    let rest = fixed_value-fixed n (v / 256) below in
    rw rest (omega arith)
