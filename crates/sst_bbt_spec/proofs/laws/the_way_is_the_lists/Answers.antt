use Rattle.std.proofs.Common.{None}
use Rattle.sst_bbt_spec.proofs.WayLaws.{answer-same, replies-same}
use Rattle.sst_bbt_spec.proofs.laws.the_way_is_the_lists.Goals as goal

pub returns-clause-answers : goal.returns-clause-answers
returns-clause-answers c = answer-same

pub returns-clause-replies : goal.returns-clause-replies
returns-clause-replies c = λ blocks calls apart seqs. replies-same blocks None calls apart seqs
