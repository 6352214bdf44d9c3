use Rattle.sst_text.proofs.CallTexts.{plain_line, target_line, call_of_line-line}
use Rattle.sst_text.proofs.laws.a_call_line_is_that_of_its_call.Goals as goal

pub returns-clause-without_target : goal.returns-clause-without_target
returns-clause-without_target c = plain_line

pub returns-clause-with_target : goal.returns-clause-with_target
returns-clause-with_target c = target_line

pub returns-clause-line : goal.returns-clause-line
returns-clause-line c = call_of_line-line
