use Rattle.sst_bbt_spec.proofs.TreeFound.{parts-found, found-lead, read-way_lands}
use Rattle.sst_bbt_spec.proofs.found_laws.parts_are_found_where_they_lead.Goals as goal

pub returns-clause-found : goal.returns-clause-found
returns-clause-found c = λ reading file end form top row pairs parts exact lead. parts-found reading file end form top row pairs parts exact lead

pub returns-clause-lead : goal.returns-clause-lead
returns-clause-lead c = λ reading file end form top row pairs parts exact found. found-lead reading file end form top row pairs parts exact found

pub returns-clause-way : goal.returns-clause-way
returns-clause-way c = λ reading file entries stands position number call exact at. read-way_lands reading file entries stands position number call exact at
