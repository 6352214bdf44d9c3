use Rattle.std.proofs.Common.{None, ◌∙◌}
use Rattle.sst_block.specs.Iter.{place_of}
use Rattle.sst_tests_blocks.proofs.BlockWalks.{sought, found-goes, found-paused, paused-there, paused-found}
use Rattle.sst_tests_blocks.proofs.seeking.assert_sought.Goals as goal

pub start-walk-requires : goal.start-walk-requires
start-walk-requires g c = let found = c.in-Ok.ensures.accepts in (found.0, found.1)

pub seek-there-requires : goal.seek-there-requires
seek-there-requires g c =
    let (rows, block, many) = c.in-Ok.ensures.accepts in
    let w = c.start-walk.ensures.within rows block in
    record { form = c.args.form; bytes = c.args.sought.0.now; rows = rows; block = block; place = None; walks = w; long = c.requires.target }

pub assert_row-requires : goal.assert_row-requires
assert_row-requires g c =
    let (rows, block, many) = c.in-Ok.ensures.accepts in
    let w = c.start-walk.ensures.within rows block in
    let f = sought _ _ c.args.form _ rows block _ _ w c.requires.target c.seek-there.ensures.within c.seek-there.ensures.tells in
    (found-goes _ c.args.form _ _ f).there

pub assert_place-requires : goal.assert_place-requires
assert_place-requires g c =
    let (rows, block, many) = c.in-Ok.ensures.accepts in
    let w = c.start-walk.ensures.within rows block in
    let f = sought _ _ c.args.form _ rows block _ _ w c.requires.target c.seek-there.ensures.within c.seek-there.ensures.tells in
    let p = found-paused _ _ c.args.form _ _ _ f c.pause-place.ensures (c.as_slice-same.ensures ∙ c.in_ok-copy.ensures) in
    paused-there _ c.args.form _ _ p

pub resume-again-requires : goal.resume-again-requires
resume-again-requires g c =
    let (rows, block, many) = c.in-Ok.ensures.accepts in
    let w = c.start-walk.ensures.within rows block in
    let f = sought _ _ c.args.form _ rows block _ _ w c.requires.target c.seek-there.ensures.within c.seek-there.ensures.tells in
    let p = found-paused _ _ c.args.form _ _ _ f c.pause-place.ensures (c.as_slice-same.ensures ∙ c.in_ok-copy.ensures) in
    (p.rows, p.block, place_of p.rows p.i, p.paused)

pub assert_row-requires-in-Ok : goal.assert_row-requires-in-Ok
assert_row-requires-in-Ok g c =
    let (rows, block, many) = c.in-Ok.ensures.accepts in
    let w = c.start-walk.ensures.within rows block in
    let f = sought _ _ c.args.form _ rows block _ _ w c.requires.target c.seek-there.ensures.within c.seek-there.ensures.tells in
    let p = found-paused _ _ c.args.form _ _ _ f c.pause-place.ensures (c.as_slice-same.ensures ∙ c.in_ok-copy.ensures) in
    (found-goes _ c.args.form _ _ (paused-found _ _ c.args.form _ _ p c.resume-again.ensures.within)).there

pub goes_on-more-requires : goal.goes_on-more-requires
goes_on-more-requires g c =
    let (rows, block, many) = c.in-Ok.ensures.accepts in
    let w = c.start-walk.ensures.within rows block in
    let f = sought _ _ c.args.form _ rows block _ _ w c.requires.target c.seek-there.ensures.within c.seek-there.ensures.tells in
    let p = found-paused _ _ c.args.form _ _ _ f c.pause-place.ensures (c.as_slice-same.ensures ∙ c.in_ok-copy.ensures) in
    found-goes _ c.args.form _ _ (paused-found _ _ c.args.form _ _ p c.resume-again.ensures.within)
