use Rattle.sst_cli.proofs.GetRuns as lemma
use Rattle.sst_cli.proofs.run_laws.what_a_get_comes_to.Goals as goal

pub returns-clause-got_as_list : goal.returns-clause-got_as_list
returns-clause-got_as_list c = lemma.got_as_list

pub returns-clause-got : goal.returns-clause-got
returns-clause-got c = lemma.got

pub returns-clause-command : goal.returns-clause-command
returns-clause-command c = lemma.command
