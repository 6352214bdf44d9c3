use Rattle.sst_index.proofs.PairRows.{index_block_says}
use Rattle.sst_index.proofs.laws.an_index_block_says_its_pairs.Goals as goal

pub returns : goal.returns
returns c = index_block_says
