use Rattle.sst_block.specs.Block.{no_handle}
use Rattle.sst_block.proofs.Leading.{pair-at}
use Rattle.sst_block.proofs.iter.BlockIter.handle.Goals as goal

pub returns : goal.returns
returns c = λ user_key delta bytes rows b i pairs w says.
    pair-at user_key delta no_handle c.args.self.now.handle b.spelled pairs i w.is_at.0 says w.is_at.1 w.is_at.3
