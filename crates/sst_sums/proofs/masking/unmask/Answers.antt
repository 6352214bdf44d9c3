use Rattle.std.proofs.Common.{◌≡◌, ◌^◌, ◌+◌, ◌-◌, ◌%◌, ap, ◌∙◌, arith}
use Rattle.sst_sums.specs.Sums as sums
use Rattle.sst_sums.proofs.Turned.{right_17, unmask_mask}
use Rattle.sst_sums.proofs.masking.unmask.Goals as goal

value_is : (c : goal.After-rotate_right) → c.rotate_right.result ≡ sums.unmask c.args.m
value_is c =
    c.rotate_right.ensures ∙ right_17 ((c.args.m + (2 ^ 32 - 0xa282ead8)) % 2 ^ 32) (omega arith)

pub returns-clause-value : goal.returns-clause-value
returns-clause-value c = value_is c

pub returns-clause-undoes : goal.returns-clause-undoes
returns-clause-undoes c = λ sum fits stored. value_is c ∙ ap sums.unmask stored ∙ unmask_mask sum fits
