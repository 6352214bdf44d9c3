use Rattle.sst_text.proofs.LineTexts.{entry_of_line-texts, entry_of_line-line}
use Rattle.sst_text.proofs.laws.an_entry_line_is_that_of_its_entry.Goals as goal

pub returns-clause-fields : goal.returns-clause-fields
returns-clause-fields c = entry_of_line-texts

pub returns-clause-line : goal.returns-clause-line
returns-clause-line c = entry_of_line-line
