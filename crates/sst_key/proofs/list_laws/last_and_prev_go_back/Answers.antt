use Rattle.std.proofs.Common.{length, refl}
use Rattle.sst_key.proofs.Walks.{last-and_prev}
use Rattle.sst_key.proofs.list_laws.last_and_prev_go_back.Goals as goal

pub returns : goal.returns
returns c = λ format prefix entries position has. last-and_prev format prefix entries position (length entries) refl has
