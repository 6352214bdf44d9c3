use Rattle.sst_cli.proofs.CommandWords as lemma
use Rattle.sst_cli.proofs.OptionsSaid.{line-may}
use Rattle.sst_cli.proofs.run_laws.a_command_is_by_its_words.Goals as goal

pub returns-clause-write : goal.returns-clause-write
returns-clause-write c = lemma.is_write

pub returns-clause-calls : goal.returns-clause-calls
returns-clause-calls c = lemma.is_calls

pub returns-clause-is_write : goal.returns-clause-is_write
returns-clause-is_write c = lemma.write_is

pub returns-clause-is_calls : goal.returns-clause-is_calls
returns-clause-is_calls c = lemma.calls_is

pub returns-clause-get : goal.returns-clause-get
returns-clause-get c = lemma.is_get

pub returns-clause-is_get : goal.returns-clause-is_get
returns-clause-is_get c = lemma.get_is

pub returns-clause-scan : goal.returns-clause-scan
returns-clause-scan c = lemma.is_scan

pub returns-clause-is_scan : goal.returns-clause-is_scan
returns-clause-is_scan c = lemma.scan_is

pub returns-clause-none : goal.returns-clause-none
returns-clause-none c = lemma.none_is

pub returns-clause-neither : goal.returns-clause-neither
returns-clause-neither c = lemma.is_none

pub returns-clause-may : goal.returns-clause-may
returns-clause-may c = line-may
