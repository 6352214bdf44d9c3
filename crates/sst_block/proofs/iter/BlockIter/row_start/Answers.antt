use Rattle.std.proofs.Common.{arith}
use Rattle.sst_block.proofs.Walking.{start-at}
use Rattle.sst_block.proofs.iter.BlockIter.row_start.Goals as goal

pub overflow_sub-result : goal.overflow_sub-result
overflow_sub-result c =
    let w = c.requires.2 in
    omega (arith, start-at c.args.self.now w.form w.bytes c.requires.0 w.block c.requires.1 w.walks)

pub returns : goal.returns
returns c = λ form bytes rows b i w. omega (arith, start-at c.args.self.now form bytes rows b i w)
