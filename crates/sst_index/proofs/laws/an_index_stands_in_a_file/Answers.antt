use Rattle.sst_index.proofs.Stand.{partitions-stand, top-stands}
use Rattle.sst_index.proofs.laws.an_index_stands_in_a_file.Goals as goal

pub returns-clause-partitions : goal.returns-clause-partitions
returns-clause-partitions c = partitions-stand

pub returns-clause-top : goal.returns-clause-top
returns-clause-top c = top-stands
