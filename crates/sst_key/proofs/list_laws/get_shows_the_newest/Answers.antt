use Rattle.sst_key.proofs.Gets.{get-some, get-at, get-none, get-nowhere, get-newest}
use Rattle.sst_key.proofs.list_laws.get_shows_the_newest.Goals as goal

pub returns : goal.returns
returns c = record {
  shows = λ entries user snapshot i o. (λ shown. (get-some entries user snapshot i o shown).1, get-at entries user snapshot i o);
  none = λ entries user snapshot o. (get-none entries user snapshot o, get-nowhere entries user snapshot o);
  newest = get-newest;
}
