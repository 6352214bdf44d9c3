use Rattle.sst_key.proofs.TargetOrder.{before-in_words, before-from_words, up_to-in_words, up_to-from_words}
use Rattle.sst_key.proofs.list_laws.targets_compare_as_said.Goals as goal

pub returns : goal.returns
returns c = record {
  before = λ user seq e. (before-in_words user seq e, before-from_words user seq e);
  up_to = λ user seq e. (up_to-in_words user seq e, up_to-from_words user seq e);
}
