use Rattle.sst_key.proofs.Snapshots.{gets-from_visible, visible-from_gets, visible-once, visible-ordered}
use Rattle.sst_key.proofs.list_laws.visible_is_what_gets_show.Goals as goal

pub returns : goal.returns
returns c = record {
  shown = λ entries snapshot e o. (gets-from_visible entries snapshot e o, visible-from_gets entries snapshot e o);
  once = visible-once;
  ordered = visible-ordered;
}
