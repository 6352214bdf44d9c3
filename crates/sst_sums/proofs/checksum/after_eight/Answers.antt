use Rattle.std.proofs.Common.{◌∙◌, arith, bit_xor, ap₂}
use Rattle.sst_sums.specs.Slices.{octets}
use Rattle.sst_sums.proofs.Slices.{eight_bytes}
use Rattle.sst_sums.proofs.checksum.after_eight.Goals as goal

pub returns : goal.returns
returns c =
    c.word_with_zeros.ensures
    ∙ ap₂ (λ r eight. octets 8 (bit_xor r eight)) c.from.ensures c.read_u64.ensures
    ∙ eight_bytes c.args.remainder c.args.eight.now (λ k. omega (arith, c.type_inv.eight k)) c.requires
