use Rattle.std.proofs.Common.{None, arith}
use Rattle.sst_block.specs.declared.row_form.RowForm.TheVariants.{Names}
use Rattle.sst_block.specs.Iter.{place_of}
use Rattle.sst_block.proofs.Walking.{walks-of, Moved-stands}
use Rattle.sst_tests_blocks.proofs.seeking.restarts_of_a_block.Goals as goal

pub start-walk-requires : goal.start-walk-requires
start-walk-requires g c = let found = c.in-Ok.ensures.accepts in (found.0, found.1)

pub at_restart-last-requires : goal.at_restart-last-requires
at_restart-last-requires g c =
    let (rows, block, many) = c.in-Ok.ensures.accepts in
    let w = c.start-walk.ensures.within rows block in
    let count = c.restarts-count.ensures Names _ rows block None w in
    (Names, _, rows, block, None, w, omega (arith, count.0, count.1))

pub assert_at-requires : goal.assert_at-requires
assert_at-requires g c = λ is.
    let (rows, block, many) = c.in-Ok.ensures.accepts in
    let w = c.start-walk.ensures.within rows block in
    let count = c.restarts-count.ensures Names _ rows block None w in
    let (k, at, there, told, row) = c.at_restart-last.ensures.within Names _ rows block None w (omega (arith, count.0, count.1)) in
    Moved-stands _ _ (record { rows = rows; i = k; walks = walks-of _ Names _ rows block _ there; told = told }) is

pub at_restart-first-requires : goal.at_restart-first-requires
at_restart-first-requires g c =
    let (rows, block, many) = c.in-Ok.ensures.accepts in
    let w = c.start-walk.ensures.within rows block in
    let count = c.restarts-count.ensures Names _ rows block None w in
    let (k, at, there, told, row) = c.at_restart-last.ensures.within Names _ rows block None w (omega (arith, count.0, count.1)) in
    (Names, _, rows, block, place_of rows k, there, omega (arith, count.0, count.1))

pub assert_at-requires-in-Ok : goal.assert_at-requires-in-Ok
assert_at-requires-in-Ok g c = λ is.
    let (rows, block, many) = c.in-Ok.ensures.accepts in
    let w = c.start-walk.ensures.within rows block in
    let count = c.restarts-count.ensures Names _ rows block None w in
    let (k, at, there, told, row) = c.at_restart-last.ensures.within Names _ rows block None w (omega (arith, count.0, count.1)) in
    let (j, begins, here, tells, second) = c.at_restart-first.ensures.within Names _ rows block (place_of rows k) there (omega (arith, count.0, count.1)) in
    Moved-stands _ _ (record { rows = rows; i = j; walks = walks-of _ Names _ rows block _ here; told = tells }) is
