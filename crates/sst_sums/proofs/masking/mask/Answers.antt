use Rattle.std.proofs.Common.{◌^◌, ◌+◌, ◌%◌, ap, ◌∙◌, arith}
use Rattle.sst_sums.proofs.Turned.{right_15}
use Rattle.sst_sums.proofs.masking.mask.Goals as goal

pub returns : goal.returns
returns c = ap (λ n. (n + 0xa282ead8) % 2 ^ 32) (c.rotate_right.ensures ∙ right_15 c.args.c (omega arith))
