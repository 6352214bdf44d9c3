use Rattle.std.proofs.Common.{None}
use Rattle.sst_bbt_spec.proofs.WholeIndex.{answer-alone, replies-alone, opens-alone, alone-separated, separated-alone}
use Rattle.sst_bbt_spec.proofs.form_laws.a_whole_index_is_parts_of_one_block.Goals as goal

pub returns-clause-answers : goal.returns-clause-answers
returns-clause-answers c = answer-alone

pub returns-clause-replies : goal.returns-clause-replies
returns-clause-replies c = λ blocks calls. replies-alone blocks None calls

pub returns-clause-parts : goal.returns-clause-parts
returns-clause-parts c = opens-alone

pub returns-clause-separated : goal.returns-clause-separated
returns-clause-separated c = alone-separated

pub returns-clause-apart : goal.returns-clause-apart
returns-clause-apart c = separated-alone
