use Rattle.sst_cli.proofs.FileRuns as lemma
use Rattle.sst_cli.proofs.run_laws.what_reading_a_file_comes_to.Goals as goal

pub returns-clause-printed : goal.returns-clause-printed
returns-clause-printed c = lemma.printed

pub returns-clause-damaged : goal.returns-clause-damaged
returns-clause-damaged c = lemma.damaged

pub returns-clause-absent : goal.returns-clause-absent
returns-clause-absent c = lemma.absent

pub returns-clause-prints_nothing : goal.returns-clause-prints_nothing
returns-clause-prints_nothing c = lemma.prints_nothing

pub returns-clause-done : goal.returns-clause-done
returns-clause-done c = lemma.done

pub returns-clause-statuses : goal.returns-clause-statuses
returns-clause-statuses c = lemma.statuses
