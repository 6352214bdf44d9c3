use Rattle.sst_bbt_spec.proofs.PlacesOnce.{one-number, one-place, some-place}
use Rattle.sst_bbt_spec.proofs.found_laws.places_and_numbers_tell_each_other.Goals as goal

pub returns-clause-number : goal.returns-clause-number
returns-clause-number c = one-number

pub returns-clause-place : goal.returns-clause-place
returns-clause-place c = one-place

pub returns-clause-each : goal.returns-clause-each
returns-clause-each c = some-place
