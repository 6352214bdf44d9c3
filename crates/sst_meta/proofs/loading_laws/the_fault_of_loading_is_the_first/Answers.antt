use Rattle.sst_meta.proofs.FirstStep.{load-first}
use Rattle.sst_meta.proofs.OneOrder.{load-none, first-load, load-all, shown-late}
use Rattle.sst_meta.proofs.StepsFail.{fails-once}
use Rattle.sst_meta.proofs.loading_laws.the_fault_of_loading_is_the_first.Goals as goal

pub returns : goal.returns
returns c = record { first = load-first; read = first-load; loads = load-none; all = load-all; one = fails-once; shown = shown-late }
