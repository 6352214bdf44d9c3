use Rattle.sst_meta.proofs.FirstStep.{load-shown}
use Rattle.sst_meta.proofs.NoMetaFault.{no-meta_fault, either}
use Rattle.sst_meta.proofs.loading_laws.a_meta_fault_is_shown.Goals as goal

pub returns : goal.returns
returns c = record { shown = load-shown; none = no-meta_fault; either = either }
