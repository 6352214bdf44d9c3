use Rattle.std.proofs.Common.{◌≡◌, ◌∙◌, ◌^◌, ◌*◌, ◌%◌, ℕ, ap, length, arith, bit_xor}
use Rattle.std.proofs.lemmas.Nat.{and_mask}
use Rattle.sst_sums.specs.Hash.{after_bytes, hash32}
use Rattle.sst_sums.proofs.hash.hash32.Goals as goal

-- what is above 32 bits of a factor isn't seen in 32 bits of the product
low_product : (n : ℕ) → n % 2 ^ 32 * 0xc6a4a793 % 2 ^ 32 ≡ n * 0xc6a4a793 % 2 ^ 32
low_product n = omega arith

pub returns : goal.returns
unfolding hash32
returns c =
    c.after_bytes.ensures
    ∙ ap
    (λ n. after_bytes (bit_xor c.args.seed n) c.args.bytes.now)
    (ap (λ (n : ℕ). n * 0xc6a4a793 % 2 ^ 32) (and_mask (length c.args.bytes.now) 32) ∙ low_product (length c.args.bytes.now))
