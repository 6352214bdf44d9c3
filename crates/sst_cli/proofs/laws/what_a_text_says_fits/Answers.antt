use Rattle.sst_cli.proofs.TextsFit.{read_input-fits, read_calls-fit}
use Rattle.sst_cli.proofs.laws.what_a_text_says_fits.Goals as goal

pub returns-clause-list : goal.returns-clause-list
returns-clause-list c = read_input-fits

pub returns-clause-calls : goal.returns-clause-calls
returns-clause-calls c = read_calls-fit
