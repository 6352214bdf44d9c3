use Rattle.sst_num.proofs.NumberReading.{handle_at-handle}
use Rattle.sst_num.proofs.laws.handle_is_taken_again.Goals as goal

pub returns : goal.returns
returns c = handle_at-handle
