use Rattle.sst_block.proofs.KeyOrder.{before-counts, not-counts}
use Rattle.sst_block.proofs.laws.a_seek_passes_the_rows_before.Goals as goal

pub returns-clause-before : goal.returns-clause-before
returns-clause-before c = before-counts

pub returns-clause-not : goal.returns-clause-not
returns-clause-not c = not-counts
