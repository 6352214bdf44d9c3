use Rattle.std.proofs.Common.{◌≡◌, ◌+◌, ◌-◌, length, ap, ◌∙◌, arith}
use Rattle.std.proofs.lemmas.Result.{on_ok_weaker}
use Rattle.sst_meta.specs.MetaRows.{rows_given}
use Rattle.sst_meta.specs.Put.{props_for}
use Rattle.sst_meta.proofs.EndingPut.{ending_joined, metaindex_at, props_at, stored_is}
use Rattle.sst_meta.proofs.ending.put_ending.Goals as goal

pub returns-clause-ok : goal.returns-clause-ok
returns-clause-ok c =
    let pairs = rows_given c.args.properties.now in
    let at = c.args.at in
    let old = c.args.out.now.items in
    let first = c.put_frame.new.out.items in
    let long = c.len.ensures ∙ ap length c.in_ok-block.ensures in
    let put = stored_is old first c.as_slice.result.now c.in_ok-put_frame.ensures.ok in
    let block_is = c.as_slice.ensures ∙ c.in_ok-block.ensures in
    let stored : c.len-2.result - c.len-start.result ≡ length (props_for pairs) + 5 = omega (arith, put, ap length block_is, c.len-2.ensures, c.len-start.ensures) in
    let names = c.in_ok-block-2.ensures at pairs (props_at at c.len.result pairs long) in
    let place = metaindex_at at _ c.len-3.result pairs stored (c.len-3.ensures ∙ ap length names) in
    on_ok_weaker c.put_block_footer.result
    (λ footer. ending_joined old first c.put_frame-2.new.out.items c.put_block_footer.new.out.items c.as_slice.result.now c.as_slice-2.result.now at c.args.version _ c.args.index pairs
    c.in_ok-put_frame.ensures.ok c.in_ok-put_frame-2.ensures.ok footer block_is (c.as_slice-2.ensures ∙ names) place)
    c.put_block_footer.ensures.ok
