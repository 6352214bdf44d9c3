use Rattle.sst_bloom.proofs.Own.{added_is_not_denied}
use Rattle.sst_bloom.proofs.laws.an_added_key_is_not_denied.Goals as goal

pub returns : goal.returns
returns c = added_is_not_denied
