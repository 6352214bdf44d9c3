use Rattle.std.proofs.Common.{true, ◌∙◌}
use Rattle.sst_index.specs.declared.flags.IndexFlags.{IndexFlags}
use Rattle.sst_index.specs.Walk.{pair_place}
use Rattle.sst_tests_blocks.proofs.IndexWalks.{begins, sought, found-goes, found-paused, paused-found}
use Rattle.sst_tests_blocks.proofs.index_walks.assert_sought.Goals as goal

pub start-walk-requires : goal.start-walk-requires
start-walk-requires g c = let found = c.in-Ok.ensures.accepts in (found.0, found.1)

pub seek-there-requires-clause-walks : goal.seek-there-requires-clause-walks
seek-there-requires-clause-walks g c =
    let (rows, block, many) = c.in-Ok.ensures.accepts in
    let flags : IndexFlags = record { user_key = c.args.sought.1; delta = true } in
    begins c.start-walk.result flags c.args.sought.0.now rows block c.start-walk.ensures

pub assert_at-requires : goal.assert_at-requires
assert_at-requires g c =
    let (rows, block, many) = c.in-Ok.ensures.accepts in
    let flags : IndexFlags = record { user_key = c.args.sought.1; delta = true } in
    let f = sought c.start-walk.result _ flags _ rows _ _ _ block c.start-walk.ensures c.seek-there.ensures.moves c.seek-there.ensures.tells in
    found-goes _ flags _ _ f

pub resume-again-requires : goal.resume-again-requires
resume-again-requires g c =
    let (rows, block, many) = c.in-Ok.ensures.accepts in
    let flags : IndexFlags = record { user_key = c.args.sought.1; delta = true } in
    let f = sought c.start-walk.result _ flags _ rows _ _ _ block c.start-walk.ensures c.seek-there.ensures.moves c.seek-there.ensures.tells in
    let p = found-paused _ _ flags _ _ _ f c.pause-place.ensures (c.as_slice-same.ensures ∙ c.in_ok-copy.ensures) in
    (p.pairs, pair_place p.pairs p.i, p.paused)

pub assert_at-requires-in-Ok : goal.assert_at-requires-in-Ok
assert_at-requires-in-Ok g c =
    let (rows, block, many) = c.in-Ok.ensures.accepts in
    let flags : IndexFlags = record { user_key = c.args.sought.1; delta = true } in
    let f = sought c.start-walk.result _ flags _ rows _ _ _ block c.start-walk.ensures c.seek-there.ensures.moves c.seek-there.ensures.tells in
    let p = found-paused _ _ flags _ _ _ f c.pause-place.ensures (c.as_slice-same.ensures ∙ c.in_ok-copy.ensures) in
    found-goes _ flags _ _ (paused-found _ _ flags _ _ p c.resume-again.ensures)

pub moved-more-requires : goal.moved-more-requires
moved-more-requires g c =
    let (rows, block, many) = c.in-Ok.ensures.accepts in
    let flags : IndexFlags = record { user_key = c.args.sought.1; delta = true } in
    let f = sought c.start-walk.result _ flags _ rows _ _ _ block c.start-walk.ensures c.seek-there.ensures.moves c.seek-there.ensures.tells in
    let p = found-paused _ _ flags _ _ _ f c.pause-place.ensures (c.as_slice-same.ensures ∙ c.in_ok-copy.ensures) in
    found-goes _ flags _ _ (paused-found _ _ flags _ _ p c.resume-again.ensures)
