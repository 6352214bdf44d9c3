use Rattle.sst_index.proofs.Says.{partitions-say, top-says}
use Rattle.sst_index.proofs.laws.an_index_says_its_pairs.Goals as goal

pub returns-clause-partitions : goal.returns-clause-partitions
returns-clause-partitions c = partitions-say

pub returns-clause-top : goal.returns-clause-top
returns-clause-top c = top-says
