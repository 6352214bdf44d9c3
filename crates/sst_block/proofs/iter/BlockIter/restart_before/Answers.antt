use Rattle.std.proofs.Common.{arith, ◌+◌, ◌-◌, ◌/◌}
use Rattle.sst_block.proofs.Back.{reads-before}
use Rattle.sst_block.proofs.iter.BlockIter.restart_before.Goals as goal

pub loop-high-init : goal.loop-high-init
loop-high-init c = record { order = c.requires.some; within = omega arith; before = c.requires.first }

pub overflow_sub-high : goal.overflow_sub-high
overflow_sub-high c = let order = c.loop-high.invariant.order in omega (arith, order)

pub restart-requires : goal.restart-requires
restart-requires c =
    let within = c.loop-high.invariant.within in
    let room = c.requires.room in
    let test = c.loop-high-test.true in
    omega (arith, within, room, test)

pub loop-high-smaller-then-restart-place : goal.loop-high-smaller-then-restart-place
loop-high-smaller-then-restart-place c = let test = c.loop-high-test.true in omega (arith, test)

pub loop-high-preserved-then-restart-place : goal.loop-high-preserved-then-restart-place
loop-high-preserved-then-restart-place c =
    let test = c.loop-high-test.true in
    record {
      order = omega (arith, test);
      within = c.loop-high.invariant.within;
      before = reads-before c.args.self.now.places.now (c.loop-high.low + (c.loop-high.high - c.loop-high.low) / 2) c.args.place c.restart.result c.restart.ensures c.if-restart-place.true;
    }

pub loop-high-smaller : goal.loop-high-smaller
loop-high-smaller c = let test = c.loop-high-test.true in omega (arith, test)

pub loop-high-preserved : goal.loop-high-preserved
loop-high-preserved c =
    let test = c.loop-high-test.true in
    let within = c.loop-high.invariant.within in
    record { order = omega (arith, test); within = omega (arith, test, within); before = c.loop-high.invariant.before }

pub returns : goal.returns
returns c =
    let order = c.loop-high.invariant.order in
    let within = c.loop-high.invariant.within in
    (omega (arith, order, within), c.loop-high.invariant.before)
