use Rattle.std.proofs.Common.{drop, sym, ◌∙◌, arith}
use Rattle.sst_text.proofs.Digits.{digits-past}
use Rattle.sst_text.proofs.fields.digits.Goals as goal

pub returns-then-value-ge-SEQ_END : goal.returns-then-value-ge-SEQ_END
returns-then-value-ge-SEQ_END c =
    sym (digits-past c.loop-c.value (drop c.loop-c.c-index c.args.field.now) (omega arith)) ∙ c.loop-c.invariant.1
