use Rattle.sst_bbt_spec.proofs.FoundWays.{way-lands_in_list, way-lands_in_file}
use Rattle.sst_bbt_spec.proofs.found_laws.each_way_ends_at_the_entry_of_the_list.Goals as goal

pub returns-clause-apart : goal.returns-clause-apart
returns-clause-apart c = λ mark found parts position number call all at apart seqs. way-lands_in_list mark found parts position number call all at apart seqs

pub returns-clause-stands : goal.returns-clause-stands
returns-clause-stands c = λ file entries stands found position number call all at. way-lands_in_file file entries stands found position number call all at
