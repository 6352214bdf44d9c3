use Rattle.std.proofs.Common.{length, refl}
use Rattle.sst_key.proofs.Walks.{first-and_next}
use Rattle.sst_key.proofs.list_laws.first_and_next_go_through.Goals as goal

pub returns : goal.returns
returns c = λ format prefix entries position. first-and_next format prefix entries position (length entries) refl
