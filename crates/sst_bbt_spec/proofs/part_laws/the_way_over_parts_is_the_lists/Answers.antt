use Rattle.std.proofs.Common.{None}
use Rattle.sst_bbt_spec.specs.Parts.{stored_in}
use Rattle.sst_bbt_spec.proofs.PartLaws.{part-answer, part-replies, shown-none}
use Rattle.sst_bbt_spec.proofs.part_laws.the_way_over_parts_is_the_lists.Goals as goal

pub returns-clause-answers : goal.returns-clause-answers
returns-clause-answers c = part-answer

pub returns-clause-replies : goal.returns-clause-replies
returns-clause-replies c = λ mark parts calls apart seqs. part-replies mark parts None calls apart seqs

pub returns-clause-unmarked : goal.returns-clause-unmarked
returns-clause-unmarked c = λ parts. shown-none (stored_in parts)
