use Rattle.std.proofs.Common.{None, arith}
use Rattle.sst_block.specs.declared.row_form.RowForm.TheVariants.{Index}
use Rattle.sst_block.proofs.OneReading.{some-pairs}
use Rattle.sst_bbt_read.proofs.LeadsCopied.{here, at_row, walks_rows, leads_more, leads_all}
use Rattle.sst_bbt_read.proofs.kept_table.index_leads.copy_leads.Goals as goal

pub loop-row-init : goal.loop-row-init
loop-row-init c = record {
  walks = λ pairs is.
      c.first.ensures.within (Index c.args.form.user_key c.args.form.delta) c.args.block.now is.rows is.block None (c.start-rows.ensures.within is.rows is.block);
  copied = λ pairs is. c.new-leads.ensures.items;
}

pub key-requires : goal.key-requires
key-requires c =
    let r = c.requires in
    at_row c.args.form.user_key c.args.form.delta c.args.block.now c.args.count c.loop-row.rows c.loop-row._row c.loop-row.leads.items r.0 c.loop-row.invariant r.1 r.2 c.loop-row-test.true

pub handle-handle-requires : goal.handle-handle-requires
handle-handle-requires c =
    let r = c.requires in
    let said = some-pairs c.args.form.user_key c.args.form.delta c.args.block.now r.0 r.1 in
    let w = here c.args.form.user_key c.args.form.delta c.args.block.now c.args.count c.loop-row.rows c.loop-row._row c.loop-row.leads.items r.0 c.loop-row.invariant r.1 r.2 c.loop-row-test.true said.0 said.1 in
    (c.args.form.user_key, c.args.form.delta, c.args.block.now, said.1.rows, said.1.block, c.loop-row._row, w)

pub next-requires : goal.next-requires
next-requires c =
    let r = c.requires in
    at_row c.args.form.user_key c.args.form.delta c.args.block.now c.args.count c.loop-row.rows c.loop-row._row c.loop-row.leads.items r.0 c.loop-row.invariant r.1 r.2 c.loop-row-test.true

pub loop-row-preserved : goal.loop-row-preserved
loop-row-preserved c =
    let r = c.requires in
    let form = Index c.args.form.user_key c.args.form.delta in
    let so = c.loop-row.invariant in
    let n = c.loop-row._row in
    let at = here c.args.form.user_key c.args.form.delta c.args.block.now c.args.count c.loop-row.rows n c.loop-row.leads.items r.0 so r.1 r.2 c.loop-row-test.true in
    record {
      walks = λ pairs is. c.next.ensures.within form c.args.block.now is.rows is.block n (at pairs is);
      copied = λ pairs is.
          leads_more c.args.form.user_key c.args.form.delta c.args.block.now pairs n c.loop-row.leads.items c.push.new.self.items c.key.result.now
          c.in_ok-separator.separator c.handle-handle.result is
          (c.key.ensures is.rows n (walks_rows c.loop-row.rows form c.args.block.now is.rows is.block n (at pairs is)))
          (c.handle-handle.ensures c.args.form.user_key c.args.form.delta c.args.block.now is.rows is.block n pairs (at pairs is) is.says)
          c.in_ok-separator.ensures c.in_ok-push.ensures.items (so.copied pairs is);
    }

pub returns : goal.returns
returns c = λ pairs is.
    let r = c.requires in
    leads_all c.args.form.user_key c.args.form.delta c.args.block.now c.args.count c.loop-row._row c.loop-row.leads.items r.0 pairs r.1 r.2
    (omega (arith, c.loop-row-test.false)) is (c.loop-row.invariant.copied pairs is)
