use Rattle.sst_bbt_spec.proofs.PartsLead.{opens-one, stands-one}
use Rattle.sst_bbt_spec.proofs.form_laws.a_file_stands_for_one_list.Goals as goal

pub returns-clause-opens : goal.returns-clause-opens
returns-clause-opens c = opens-one

pub returns-clause-stands : goal.returns-clause-stands
returns-clause-stands c = stands-one
