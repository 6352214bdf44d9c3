use Rattle.sst_index.proofs.Says.{parts-joined, parts-parts}
use Rattle.sst_index.proofs.laws.partitions_are_the_pairs.Goals as goal

pub returns-clause-joined : goal.returns-clause-joined
returns-clause-joined c = parts-joined

pub returns-clause-each : goal.returns-clause-each
returns-clause-each c = parts-parts
