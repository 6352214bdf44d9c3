use Rattle.sst_block.proofs.FirstFaults.{read-first, first-read}
use Rattle.sst_block.proofs.laws.first_fault_is_first.Goals as goal

pub returns : goal.returns
returns c = record { found = read-first; read = first-read }
