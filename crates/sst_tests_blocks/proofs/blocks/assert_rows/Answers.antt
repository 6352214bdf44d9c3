use Rattle.std.proofs.Common.{None}
use Rattle.sst_tests_blocks.proofs.blocks.assert_rows.Goals as goal

pub start-requires : goal.start-requires
start-requires g c = let found = c.in-Ok.ensures.accepts in (found.0, found.1)

pub assert_walk-requires : goal.assert_walk-requires
assert_walk-requires g c =
    let found = c.in-Ok.ensures.accepts in
    (found.0, None, c.start.ensures.walks found.0 found.1)

pub start-requires-in-Ok : goal.start-requires-in-Ok
start-requires-in-Ok g c = let found = c.in-Ok.ensures.accepts in (found.0, found.1)

pub assert_walk_back-requires : goal.assert_walk_back-requires
assert_walk_back-requires g c =
    let found = c.in-Ok.ensures.accepts in
    (found.0, None, c.start-in-Ok.ensures.walks found.0 found.1)
