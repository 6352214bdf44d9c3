use Rattle.sst_index.proofs.PairWalks.{pair-before, pair-not}
use Rattle.sst_index.proofs.laws.a_seek_passes_the_pairs_before.Goals as goal

pub returns-clause-before : goal.returns-clause-before
returns-clause-before c = pair-before

pub returns-clause-not : goal.returns-clause-not
returns-clause-not c = pair-not
