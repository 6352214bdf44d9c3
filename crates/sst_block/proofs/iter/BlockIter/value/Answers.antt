use Rattle.sst_block.proofs.Walking.{value-in}
use Rattle.sst_block.proofs.iter.BlockIter.value.Goals as goal

pub returns : goal.returns
returns c = λ rows i w. value-in c.args.self.now rows i w
