use Rattle.sst_cli.proofs.ScanRuns as lemma
use Rattle.sst_cli.proofs.run_laws.what_a_scan_comes_to.Goals as goal

pub returns-clause-scanned_as_list : goal.returns-clause-scanned_as_list
returns-clause-scanned_as_list c = lemma.scanned_as_list

pub returns-clause-scanned : goal.returns-clause-scanned
returns-clause-scanned c = lemma.scanned

pub returns-clause-command : goal.returns-clause-command
returns-clause-command c = lemma.command
