use Rattle.sst_bbt_read.proofs.BlockRows.{Added}
use Rattle.sst_bbt_read.proofs.block_rows.add_entries.Given as goal

abbrev pub invariant-loop-row : goal.invariant-loop-row
invariant-loop-row l = Added l.block l.count l.fn.entries.items l.rows l._row l.entries.items
