use Rattle.sst_index.proofs.Separated.{after-first, after-user_first, after-length}
use Rattle.sst_index.proofs.laws.a_separator_ends.Goals as goal

pub returns-clause-last : goal.returns-clause-last
returns-clause-last c = after-first

pub returns-clause-last_user : goal.returns-clause-last_user
returns-clause-last_user c = after-user_first

pub returns-clause-short : goal.returns-clause-short
returns-clause-short c = λ a. (after-length a).0

pub returns-clause-long : goal.returns-clause-long
returns-clause-long c = λ a. (after-length a).1
