use Rattle.sst_bbt_read.proofs.FirstOpening.{open-first}
use Rattle.sst_bbt_read.proofs.OneOpening.{fails-once, first-open, first-order, open-all, open-none}
use Rattle.sst_bbt_read.proofs.opening_laws.the_fault_of_opening_is_the_first.Goals as goal

pub returns : goal.returns
returns c = record { first = open-first; read = first-open; opens = open-none; all = open-all; one = fails-once; order = first-order }
