use Rattle.sst_num.specs.NumberReading.{varint_at}
use Rattle.sst_num.proofs.NumberReading.{varint_at-if_some, varint_at-if_none}
use Rattle.sst_num.proofs.take.take_varint64.Goals as goal

pub returns-clause-exact : goal.returns-clause-exact
unfolding varint_at
returns-clause-exact c = c.take_groups.ensures.exact

pub returns-clause-found : goal.returns-clause-found
returns-clause-found c = varint_at-if_some _ _ (returns-clause-exact c) c.take_groups.ensures.within

pub returns-clause-none : goal.returns-clause-none
returns-clause-none c = varint_at-if_none _ _ (returns-clause-exact c)
