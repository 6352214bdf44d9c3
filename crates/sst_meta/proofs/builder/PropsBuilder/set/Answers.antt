use Rattle.std.proofs.lemmas.Result.{on_ok_weaker}
use Rattle.sst_block.specs.declared.row_form.RowForm.TheVariants.{Names}
use Rattle.sst_meta.proofs.builder.PropsBuilder.set.Goals as goal

pub returns-clause-ok : goal.returns-clause-ok
returns-clause-ok c = on_ok_weaker c.add.result (λ added pairs held. added Names 65536 pairs held) c.add.ensures.ok
