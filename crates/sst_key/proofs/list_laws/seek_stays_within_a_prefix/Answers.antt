use Rattle.sst_key.proofs.Prefixes.{within-some, within-at}
use Rattle.sst_key.proofs.list_laws.seek_stays_within_a_prefix.Goals as goal

pub returns-clause-within : goal.returns-clause-within
returns-clause-within c = λ prefix entries user seq i some.
    (within-some prefix entries user seq i some, within-at prefix entries user seq i some)
