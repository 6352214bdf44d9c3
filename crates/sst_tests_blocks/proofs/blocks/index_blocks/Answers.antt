use Rattle.std.proofs.Common.{true, None}
use Rattle.sst_block.specs.declared.row_form.RowForm.TheVariants.{Index}
use Rattle.sst_block.proofs.Walking.{walks-of}
use Rattle.sst_block.proofs.Forward.{told-stands}
use Rattle.sst_tests_blocks.proofs.blocks.index_blocks.Goals as goal

pub handle-requires : goal.handle-requires
handle-requires g c =
    let (rows, block, many) = c.in-Ok.ensures.accepts in
    let start = c.start-walk.ensures.within rows block in
    let first = c.first-there.ensures.within (Index true true) _ rows block None start in
    let told = c.first-there.ensures.tells rows None (walks-of _ _ _ rows block _ start) in
    (true, true, _, rows, block, 0, (told-stands _ _ (Index true true) _ rows block 0 c.if-there.true told first).1)

pub next-next-requires : goal.next-next-requires
next-next-requires g c =
    let (rows, block, many) = c.in-Ok.ensures.accepts in
    let start = c.start-walk.ensures.within rows block in
    let first = c.first-there.ensures.within (Index true true) _ rows block None start in
    let told = c.first-there.ensures.tells rows None (walks-of _ _ _ rows block _ start) in
    (rows, 0, walks-of _ _ _ rows block _ (told-stands _ _ (Index true true) _ rows block 0 c.if-there.true told first).1)

pub handle-requires-then-next : goal.handle-requires-then-next
handle-requires-then-next g c =
    let (rows, block, many) = c.in-Ok.ensures.accepts in
    let start = c.start-walk.ensures.within rows block in
    let first = c.first-there.ensures.within (Index true true) _ rows block None start in
    let told = c.first-there.ensures.tells rows None (walks-of _ _ _ rows block _ start) in
    let here = (told-stands _ _ (Index true true) _ rows block 0 c.if-there.true told first).1 in
    let next = c.next-next.ensures.within (Index true true) _ rows block 0 here in
    let tells = c.next-next.ensures.tells rows 0 (walks-of _ _ _ rows block _ here) in
    (true, true, _, rows, block, 1, (told-stands _ _ (Index true true) _ rows block 1 c.if-next.true tells next).1)
