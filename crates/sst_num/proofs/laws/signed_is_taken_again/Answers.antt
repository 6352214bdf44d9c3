use Rattle.sst_num.proofs.Signed.{signed_at-signed}
use Rattle.sst_num.proofs.laws.signed_is_taken_again.Goals as goal

pub returns : goal.returns
returns c = signed_at-signed
