use Rattle.sst_block.proofs.Accepted.{accepted, refused}
use Rattle.sst_block.proofs.check.check_block.Goals as goal

pub returns-clause-accepts : goal.returns-clause-accepts
returns-clause-accepts c = accepted c.args.form c.args.block.now c.count_rows.result c.requires.short c.count_rows.ensures

pub returns-clause-refuses : goal.returns-clause-refuses
returns-clause-refuses c = λ fault. refused c.args.form c.args.block.now c.count_rows.result fault c.count_rows.ensures
