use Rattle.std.proofs.Common.{◌≡◌, ◌++◌, length}
use Rattle.std.specs.Vec.Iter.{into_iter_items, into_iter_len}
use Rattle.sst_bbt_read.proofs.PartsRead.{PartsRead}
use Rattle.sst_bbt_read.proofs.kept_table.opening.read_parts.Given as goal

abbrev pub invariant-loop-lead : goal.invariant-loop-lead
invariant-loop-lead g l =
    (l.yielded ++ into_iter_items l.lead-iterator ≡ l.fn.leads.items) × (into_iter_len l.lead-iterator ≡ length (into_iter_items l.lead-iterator))
    × PartsRead (g.F.Folder.held l.fn.files) (g.F.Folder.held l.files) (g.F.Folder.faults l.fn.files) (g.F.Folder.faults l.files) l.name l.end l.form l.fn.leads.items (length l.yielded)
    l.tops.items l.blocks
