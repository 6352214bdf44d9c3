use Rattle.sst_cli.proofs.CallsRuns as lemma
use Rattle.sst_cli.proofs.run_laws.what_calls_come_to.Goals as goal

pub returns-clause-answered_as_list : goal.returns-clause-answered_as_list
returns-clause-answered_as_list c = lemma.answered_as_list

pub returns-clause-answered : goal.returns-clause-answered
returns-clause-answered c = lemma.answered

pub returns-clause-damaged : goal.returns-clause-damaged
returns-clause-damaged c = lemma.damaged

pub returns-clause-refused : goal.returns-clause-refused
returns-clause-refused c = lemma.refused

pub returns-clause-near : goal.returns-clause-near
returns-clause-near c = lemma.near

pub returns-clause-absent : goal.returns-clause-absent
returns-clause-absent c = lemma.absent

pub returns-clause-prints_nothing : goal.returns-clause-prints_nothing
returns-clause-prints_nothing c = lemma.prints_nothing

pub returns-clause-done : goal.returns-clause-done
returns-clause-done c = lemma.done

pub returns-clause-done_only : goal.returns-clause-done_only
returns-clause-done_only c = lemma.done_only

pub returns-clause-read_to_its_end : goal.returns-clause-read_to_its_end
returns-clause-read_to_its_end c = lemma.read_to_its_end

pub returns-clause-input_only : goal.returns-clause-input_only
returns-clause-input_only c = lemma.input_only

pub returns-clause-statuses : goal.returns-clause-statuses
returns-clause-statuses c = lemma.statuses
