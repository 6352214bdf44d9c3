use Rattle.sst_bbt_spec.proofs.SeparatorsFirst.{seek-come_first, prev-come_first}
use Rattle.sst_bbt_spec.proofs.part_laws.separators_before_a_target_come_first.Goals as goal

pub returns-clause-seek : goal.returns-clause-seek
returns-clause-seek c = seek-come_first

pub returns-clause-prev : goal.returns-clause-prev
returns-clause-prev c = prev-come_first
