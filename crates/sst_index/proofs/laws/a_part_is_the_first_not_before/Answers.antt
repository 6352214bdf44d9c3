use Rattle.sst_index.proofs.Picks.{part-first, unsure-first, beyond-all}
use Rattle.sst_index.proofs.laws.a_part_is_the_first_not_before.Goals as goal

pub returns-clause-part : goal.returns-clause-part
returns-clause-part c = part-first

pub returns-clause-unsure : goal.returns-clause-unsure
returns-clause-unsure c = unsure-first

pub returns-clause-beyond : goal.returns-clause-beyond
returns-clause-beyond c = beyond-all
