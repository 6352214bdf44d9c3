use Rattle.std.proofs.Common.{◌∙◌, ◌++◌, ap, sym, append-nil, arith}
use Rattle.std.proofs.lemmas.List.{take_all, drop_all}
use Rattle.sst_num.specs.Spelling.{fixed, fixed_value}
use Rattle.sst_num.proofs.FixedAt.{fixed_at-joined}
use Rattle.sst_key.proofs.reading.tag_spelled.Goals as goal

pub returns-clause-value : goal.returns-clause-value
returns-clause-value c = c.fixed64.ensures.value ∙ ap fixed_value (take_all 8 c.args.last.now (omega (arith, c.requires)))

pub returns-clause-spells : goal.returns-clause-spells
returns-clause-spells c =
    sym (fixed_at-joined 8 c.fixed64.result c.args.last.now c.fixed64.ensures.exact
    ∙ ap (λ l. fixed 8 c.fixed64.result ++ l) (drop_all 8 c.args.last.now (omega (arith, c.requires))) ∙ append-nil (fixed 8 c.fixed64.result))
