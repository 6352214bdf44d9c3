use Rattle.std.proofs.Common.{take}
use Rattle.sst_block.specs.declared.row_form.RowForm.TheVariants.{Names}
use Rattle.sst_block.specs.Builder.{Holds}
use Rattle.sst_meta.specs.MetaRows.{rows_given}
use Rattle.sst_meta.proofs.ending.block_of_rows.Given as goal

-- the builder holds the rows so far
abbrev pub invariant-loop-row : goal.invariant-loop-row
invariant-loop-row l = Holds l.block Names l.interval (rows_given (take l.row-index l.rows))
