use Rattle.sst_key.proofs.Landings.{seek-some, seek-at, seek-none, seek-nowhere}
use Rattle.sst_key.proofs.list_laws.seek_lands_on_the_first_not_before.Goals as goal

pub returns : goal.returns
returns c = record {
  lands = λ entries user seq i o. (seek-some entries user seq i o, seek-at entries user seq i o);
  nowhere = λ entries user seq o. (seek-none entries user seq o, seek-nowhere entries user seq o);
}
