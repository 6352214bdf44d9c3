use Rattle.sst_cli.proofs.AnyRuns as lemma
use Rattle.sst_cli.proofs.RunEnds.{whole_text}
use Rattle.sst_cli.specs.Command.{behaviour}
use Rattle.sst_cli.proofs.run_laws.what_a_run_comes_to.Goals as goal

pub returns-clause-usage : goal.returns-clause-usage
returns-clause-usage c = lemma.usage

pub returns-clause-usage_only : goal.returns-clause-usage_only
returns-clause-usage_only c = lemma.usage_only

pub returns-clause-never : goal.returns-clause-never
returns-clause-never c = lemma.never

pub returns-clause-device : goal.returns-clause-device
returns-clause-device c = lemma.device

pub returns-clause-whole : goal.returns-clause-whole
returns-clause-whole c = λ command. whole_text (behaviour command)

pub returns-clause-file_only : goal.returns-clause-file_only
returns-clause-file_only c = lemma.file_only
