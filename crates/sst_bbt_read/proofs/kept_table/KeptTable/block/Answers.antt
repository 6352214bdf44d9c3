use Rattle.std.proofs.Common.{arith}
use Rattle.sst_bbt_read.proofs.TableRead.{bounds, block-read, entries-read, entries-ordered, entries-within}
use Rattle.sst_bbt_read.proofs.kept_table.KeptTable.block.Goals as goal

pub offset_bounds-deref-start : goal.offset_bounds-deref-start
offset_bounds-deref-start c =
    let at = block-read _ c.args.self.now c.args.i c.index.result.now c.self.view_is c.requires c.index.ensures in
    let b = bounds c.as_slice.result.now _ _ c.start_of-start.result c.args.i c.index.result.now c.self.invariant.ends c.as_slice.ensures.value c.start_of-start.ensures at in
    omega (arith, b.0, b.1)

pub slice_bounds-result-count : goal.slice_bounds-result-count
slice_bounds-result-count c =
    let at = block-read _ c.args.self.now c.args.i c.index.result.now c.self.view_is c.requires c.index.ensures in
    (bounds c.as_slice.result.now _ _ c.start_of-start.result c.args.i c.index.result.now c.self.invariant.ends c.as_slice.ensures.value c.start_of-start.ensures at).0

pub slice_bounds-result-start : goal.slice_bounds-result-start
slice_bounds-result-start c =
    let at = block-read _ c.args.self.now c.args.i c.index.result.now c.self.view_is c.requires c.index.ensures in
    (bounds c.as_slice.result.now _ _ c.start_of-start.result c.args.i c.index.result.now c.self.invariant.ends c.as_slice.ensures.value c.start_of-start.ensures at).0

pub slice_bounds-result-end : goal.slice_bounds-result-end
slice_bounds-result-end c =
    let at = block-read _ c.args.self.now c.args.i c.index.result.now c.self.view_is c.requires c.index.ensures in
    let b = bounds c.as_slice.result.now _ _ c.start_of-start.result c.args.i c.index.result.now c.self.invariant.ends c.as_slice.ensures.value c.start_of-start.ensures at in
    omega (arith, b.1)

pub returns-clause-entries : goal.returns-clause-entries
returns-clause-entries c = λ b there.
    let at = block-read _ c.args.self.now c.args.i c.index.result.now c.self.view_is c.requires c.index.ensures in
    entries-read _ c.args.self.now c.deref.result.now c.start_of-start.result c.args.i c.index.result.now b c.self.view_is c.deref.ensures.value at there

pub returns-clause-ordered : goal.returns-clause-ordered
returns-clause-ordered c =
    let at = block-read _ c.args.self.now c.args.i c.index.result.now c.self.view_is c.requires c.index.ensures in
    entries-ordered _ c.args.i c.start_of-start.result c.index.result.now c.as_slice.result.now c.deref.result.now c.self.invariant c.as_slice.ensures.value c.start_of-start.ensures c.deref.ensures.value at

pub returns-clause-within : goal.returns-clause-within
returns-clause-within c =
    let at = block-read _ c.args.self.now c.args.i c.index.result.now c.self.view_is c.requires c.index.ensures in
    entries-within _ c.args.self.now c.args.i c.start_of-start.result c.index.result.now c.as_slice.result.now c.deref.result.now c.self.view_is c.self.invariant c.as_slice.ensures.value c.start_of-start.ensures c.deref.ensures.value at
