use Rattle.std.proofs.lemmas.Option.{slice_get-get_or}
use Rattle.sst_meta.proofs.RowsPut.{takes_given}
use Rattle.sst_meta.proofs.ending.block_of_rows.Goals as goal

pub add_row-requires : goal.add_row-requires
add_row-requires c =
    let rows = c.args.rows.now in
    let n = c.loop-row.row-index in
    takes_given c.loop-row.block c.args.interval rows n _ c.requires.rows (slice_get-get_or rows n _ c.loop-row-test.true) c.loop-row.invariant
