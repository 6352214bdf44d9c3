use Rattle.sst_meta.proofs.FirstStep.{end-shown}
use Rattle.sst_meta.proofs.FooterLaws.{footer_read-leads, leads-read}
use Rattle.sst_meta.proofs.loading_laws.a_footer_is_read.Goals as goal

pub returns-clause-complete : goal.returns-clause-complete
returns-clause-complete c = λ file metaindex index leads. (footer_read-leads file _ metaindex index leads).1

pub returns-clause-sound : goal.returns-clause-sound
returns-clause-sound c = leads-read

pub returns-clause-faults : goal.returns-clause-faults
returns-clause-faults c = end-shown
