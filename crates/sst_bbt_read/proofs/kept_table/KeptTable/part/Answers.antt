use Rattle.std.proofs.Common.{arith}
use Rattle.sst_bbt_read.proofs.TableRead.{bounds, top-read, part-read}
use Rattle.sst_bbt_read.proofs.Moves.{open-now}
use Rattle.sst_bbt_read.proofs.PartLandings.{in_part, ends-separate, ends-within}
use Rattle.sst_bbt_read.proofs.kept_table.KeptTable.part.Goals as goal

pub offset_bounds-deref-first : goal.offset_bounds-deref-first
offset_bounds-deref-first c =
    let look = c.in_ok-top.ensures.lookup in
    let at = top-read c.self.inside.tops.items c.deref.result.now c.args.i c.in_ok-top.top.now c.deref.ensures.value look.0 look.1 in
    let b = bounds c.as_slice.result.now _ _ c.start_of-first.result c.args.i c.in_ok-top.top.now c.self.invariant.tops c.as_slice.ensures.value c.start_of-first.ensures at in
    omega (arith, b.0, b.1)

pub slice_bounds-result-count : goal.slice_bounds-result-count
slice_bounds-result-count c =
    let look = c.in_ok-top.ensures.lookup in
    let at = top-read c.self.inside.tops.items c.deref.result.now c.args.i c.in_ok-top.top.now c.deref.ensures.value look.0 look.1 in
    (bounds c.as_slice.result.now _ _ c.start_of-first.result c.args.i c.in_ok-top.top.now c.self.invariant.tops c.as_slice.ensures.value c.start_of-first.ensures at).0

pub slice_bounds-result-start : goal.slice_bounds-result-start
slice_bounds-result-start c =
    let look = c.in_ok-top.ensures.lookup in
    let at = top-read c.self.inside.tops.items c.deref.result.now c.args.i c.in_ok-top.top.now c.deref.ensures.value look.0 look.1 in
    (bounds c.as_slice.result.now _ _ c.start_of-first.result c.args.i c.in_ok-top.top.now c.self.invariant.tops c.as_slice.ensures.value c.start_of-first.ensures at).0

pub slice_bounds-result-end : goal.slice_bounds-result-end
slice_bounds-result-end c =
    let look = c.in_ok-top.ensures.lookup in
    let at = top-read c.self.inside.tops.items c.deref.result.now c.args.i c.in_ok-top.top.now c.deref.ensures.value look.0 look.1 in
    let b = bounds c.as_slice.result.now _ _ c.start_of-first.result c.args.i c.in_ok-top.top.now c.self.invariant.tops c.as_slice.ensures.value c.start_of-first.ensures at in
    omega (arith, b.1)

pub returns-clause-some : goal.returns-clause-some
returns-clause-some c =
    let look = c.in_ok-top.ensures.lookup in
    let at = top-read c.self.inside.tops.items c.deref.result.now c.args.i c.in_ok-top.top.now c.deref.ensures.value look.0 look.1 in
    part-read _ c.args.self.now c.as_slice.result.now c.deref-2.result.now c.start_of-first.result c.args.i c.in_ok-top.top.now c.self.view_is
    c.as_slice.ensures.value c.deref-2.ensures.value c.start_of-first.ensures at

pub returns-clause-separators : goal.returns-clause-separators
returns-clause-separators c =
    ends-separate c.args.self.now c.args.i _ _ (open-now _ c.args.self.now c.self.view_is c.self.invariant) (in_part c.args.self.now c.args.i _ _ (returns-clause-some c))

pub returns-clause-within : goal.returns-clause-within
returns-clause-within c =
    ends-within c.args.self.now c.args.i _ _ (open-now _ c.args.self.now c.self.view_is c.self.invariant) (in_part c.args.self.now c.args.i _ _ (returns-clause-some c))
