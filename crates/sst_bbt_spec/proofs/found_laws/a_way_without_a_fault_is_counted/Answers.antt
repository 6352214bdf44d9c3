use Rattle.sst_bbt_spec.proofs.FoundWays.{way-lands, no-fault, place-shows}
use Rattle.sst_bbt_spec.proofs.found_laws.a_way_without_a_fault_is_counted.Goals as goal

pub returns-clause-lands : goal.returns-clause-lands
returns-clause-lands c = λ mark found parts position number call all at. way-lands mark found parts position number call all at

pub returns-clause-no_fault : goal.returns-clause-no_fault
returns-clause-no_fault c = λ mark found parts position number call fault all at is. no-fault mark found parts position number call fault all at is

pub returns-clause-shows : goal.returns-clause-shows
returns-clause-shows c = λ found parts place number all at.
    let shows = place-shows found parts place number all at in
    (shows.entry, shows.here, shows.there)
