use Rattle.sst_bbt_spec.proofs.Stands.{opens-seqs, stands-ordered, stands-separate, stands-replies}
use Rattle.sst_bbt_spec.proofs.form_laws.what_a_file_stands_for_is_ordered.Goals as goal

pub returns-clause-ordered : goal.returns-clause-ordered
returns-clause-ordered c = stands-ordered

pub returns-clause-seqs : goal.returns-clause-seqs
returns-clause-seqs c = opens-seqs

pub returns-clause-separate : goal.returns-clause-separate
returns-clause-separate c = stands-separate

pub returns-clause-replies : goal.returns-clause-replies
returns-clause-replies c = stands-replies
