use Rattle.sst_key.proofs.Landings.{prev-some, prev-at, prev-none, prev-nowhere}
use Rattle.sst_key.proofs.list_laws.seek_for_prev_lands_on_the_last_up_to.Goals as goal

pub returns : goal.returns
returns c = record {
  lands = λ entries user seq i o. (prev-some entries user seq i o, prev-at entries user seq i o);
  nowhere = λ entries user seq o. (prev-none entries user seq o, prev-nowhere entries user seq o);
}
