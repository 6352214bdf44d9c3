use Rattle.sst_cli.proofs.WriteRuns as lemma
use Rattle.sst_cli.proofs.run_laws.what_a_write_comes_to.Goals as goal

pub returns-clause-written : goal.returns-clause-written
returns-clause-written c = lemma.written

pub returns-clause-refused : goal.returns-clause-refused
returns-clause-refused c = lemma.refused

pub returns-clause-near : goal.returns-clause-near
returns-clause-near c = lemma.near

pub returns-clause-done : goal.returns-clause-done
returns-clause-done c = lemma.done

pub returns-clause-input_only : goal.returns-clause-input_only
returns-clause-input_only c = lemma.input_only

pub returns-clause-begun : goal.returns-clause-begun
returns-clause-begun c = lemma.begun

pub returns-clause-statuses : goal.returns-clause-statuses
returns-clause-statuses c = lemma.statuses
