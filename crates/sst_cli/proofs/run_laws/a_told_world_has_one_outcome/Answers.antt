use Rattle.sst_cli.proofs.OneOutcome as lemma
use Rattle.sst_cli.proofs.run_laws.a_told_world_has_one_outcome.Goals as goal

pub returns-clause-one : goal.returns-clause-one
returns-clause-one c = lemma.outcome-one

pub returns-clause-some : goal.returns-clause-some
returns-clause-some c = lemma.found-some
