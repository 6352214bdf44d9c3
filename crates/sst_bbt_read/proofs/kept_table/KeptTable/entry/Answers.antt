use Rattle.std.proofs.Common.{Some, ap, ◌∙◌}
use Rattle.sst_bbt_read.proofs.Moves.{entry-at, lent-entry}
use Rattle.sst_bbt_read.proofs.kept_table.KeptTable.entry.Goals as goal

pub returns : goal.returns
returns c =
    let e = c.index-entry.result.now in
    entry-at _ c.args.self.now c.args.place e c.self.view_is c.self.invariant c.requires c.index-entry.ensures
    ∙ ap Some (lent-entry e c.as_slice.result.now c.as_slice-2.result.now c.as_slice.ensures c.as_slice-2.ensures)
