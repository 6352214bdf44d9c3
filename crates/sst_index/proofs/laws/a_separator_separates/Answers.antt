use Rattle.sst_index.proofs.Separated.{between-first, between-second, between-user_first, between-user_second, between-length}
use Rattle.sst_index.proofs.laws.a_separator_separates.Goals as goal

pub returns-clause-last : goal.returns-clause-last
returns-clause-last c = between-first

pub returns-clause-next : goal.returns-clause-next
returns-clause-next c = between-second

pub returns-clause-last_user : goal.returns-clause-last_user
returns-clause-last_user c = between-user_first

pub returns-clause-next_user : goal.returns-clause-next_user
returns-clause-next_user c = between-user_second

pub returns-clause-short : goal.returns-clause-short
returns-clause-short c = λ a b. (between-length a b).0

pub returns-clause-long : goal.returns-clause-long
returns-clause-long c = λ a b. (between-length a b).1
