use Rattle.std.proofs.Common.{refl, sym, subst}
use Rattle.sst_bbt_spec.specs.IndexLeads.{HoldsEntries}
use Rattle.sst_bbt_read.proofs.BlocksRead.{block_again, end_again}
use Rattle.sst_bbt_read.proofs.kept_table.data_blocks.add_block.Goals as goal

pub returns-clause-added : goal.returns-clause-added
returns-clause-added g c =
    let b = c.in_ok-place.ensures.added in
    let again = block_again c.args.blocks.now.entries.items c.read_block.new.entries.items c.in_ok-place.place b.0 in (
      again.0,
      end_again c.args.blocks.now.ends.items c.add_end.new.ends.items c.args.lead.separator c.args.lead.separator c.in_ok-place.place c.read_block.new.entries.items
          c.in_ok-add_end.ensures refl b.0.ends,
      λ file told. subst (HoldsEntries file c.args.end c.args.lead.handle) (sym again.1) (b.1 file told),
    )
