use Rattle.sst_meta.proofs.PairsRead.{Copied}
use Rattle.sst_meta.proofs.props.pairs_of.Given as goal

abbrev pub invariant-loop-row : goal.invariant-loop-row
invariant-loop-row l = Copied l.block l.count l.rows l._row l.pairs.items
