use Rattle.std.proofs.Common.{Err, ℕ, List, inl, sym, subst, arith}
use Rattle.std.proofs.lemmas.Result.{err_from_is_err_and}
use Rattle.sst_block.specs.declared.row_form.RowForm.TheVariants.{Entries}
use Rattle.sst_block.specs.Block.{Block}
use Rattle.sst_device.specs.Framed.{Framed}
use Rattle.sst_bbt_read.specs.OpeningFaults.{BlockFails, SomeBlockFails}
use Rattle.sst_bbt_read.proofs.BlockHeld.{block_empty, block_added, entries_held}
use Rattle.sst_bbt_read.proofs.StopsWeaker.{stopped_weaker}
use Rattle.sst_bbt_read.proofs.kept_table.data_blocks.read_block.Goals as goal

pub returns-in_err-block-clause-told : goal.returns-in_err-block-clause-told
returns-in_err-block-clause-told g c = λ file told.
    let p = err_from_is_err_and c.from_residual.result c.from_residual.ensures.1 in
    rw (p.1) (stopped_weaker {A = ℕ} (Err p.0) (BlockFails Entries file c.args.end c.args.handle) (SomeBlockFails Entries file c.args.end c.args.handle) (λ fault is. inl is)
    (rw (p.2) (c.in_err-block.ensures.told file told)))

pub returns-then-block-eq0-clause-told : goal.returns-then-block-eq0-clause-told
returns-then-block-eq0-clause-told g c = λ file told.
    let b = c.in_ok-block.ensures.block in
    block_empty Entries file c.args.end c.args.handle c.in_ok-block.block.bytes b.0 c.in_ok-block.block.count (c.in_ok-block.ensures.framed file told) b.1 b.2 c.if-block-eq0.true

pub returns-clause-added : goal.returns-clause-added
returns-clause-added g c =
    let b = c.in_ok-block.ensures.block in
    let shown = subst (λ (block : List ℕ). Block Entries block b.0) (sym c.as_slice.ensures) b.1 in
    let a = block_added c.as_slice.result.now b.0 c.in_ok-block.block.count c.len.result c.args.entries.now.items c.add_entries.new.entries.items shown b.2 c.if-block-eq0.false
    c.in_ok-add_entries.ensures.rows (omega (arith, c.len.ensures, c.add_entries.new.entries.ok.0)) in (
      a.0,
      λ file told.
          entries_held file c.args.end c.args.handle c.as_slice.result.now c.len.result c.args.entries.now.items c.add_entries.new.entries.items a.0
          (subst (λ (block : List ℕ). Framed file c.args.end c.args.handle block) (sym c.as_slice.ensures) (c.in_ok-block.ensures.framed file told)) a.1,
    )
