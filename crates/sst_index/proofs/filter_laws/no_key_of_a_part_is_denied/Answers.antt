use Rattle.sst_index.proofs.FilterKeys.{own-part, own-some}
use Rattle.sst_index.proofs.filter_laws.no_key_of_a_part_is_denied.Goals as goal

pub returns-clause-part : goal.returns-clause-part
returns-clause-part c = own-part

pub returns-clause-some : goal.returns-clause-some
returns-clause-some c = own-some
