use Rattle.std.proofs.Common.{ℕ, Bool, ◌<◌, ◌+◌, ◌-◌, ◌/◌, sym, subst, arith}
use Rattle.sst_block.proofs.Halves.{restarts-some}
use Rattle.sst_block.proofs.Seeking.{Looks, first-begins, halves-seek, halves-count, halves-up, halves-down}
use Rattle.sst_block.proofs.iter.BlockIter.restart_for.Goals as goal

pub loop-high-init : goal.loop-high-init
loop-high-init c =
    let r = c.requires in (
      subst (λ (n : ℕ). 0 < n) (sym r.walks.count) (restarts-some r.form r.bytes r.rows r.block),
      omega arith,
      λ form bytes rows b place w long.
          (first-begins form bytes rows b c.args.target.now, (place, w)),
    )

pub begins_before-requires-clause-seeks : goal.begins_before-requires-clause-seeks
begins_before-requires-clause-seeks c =
    halves-seek c.args.self.now c.loop-high.self c.args.target.now c.loop-high.low c.loop-high.high c.requires c.loop-high.invariant

pub begins_before-requires-clause-restart : goal.begins_before-requires-clause-restart
begins_before-requires-clause-restart c =
    let count = halves-count c.args.self.now c.loop-high.self c.args.target.now c.loop-high.low c.loop-high.high c.requires c.loop-high.invariant in
    let most = c.loop-high.invariant.1 in
    let test = c.loop-high-test.true in
    omega (arith, count, most, test)

pub loop-high-preserved-then-begins_before : goal.loop-high-preserved-then-begins_before
loop-high-preserved-then-begins_before c =
    let middle = c.loop-high.low + (c.loop-high.high - c.loop-high.low) / 2 in
    let test = c.loop-high-test.true in
    halves-up c.args.self.now c.loop-high.self c.begins_before.new.self c.args.target.now c.loop-high.low c.loop-high.high middle c.loop-high.invariant (omega (arith, test))
    (subst (λ (t : Bool). Looks c.loop-high.self c.begins_before.new.self c.args.target.now middle t) c.if-begins_before.true c.begins_before.ensures)

pub loop-high-preserved : goal.loop-high-preserved
loop-high-preserved c =
    let middle = c.loop-high.low + (c.loop-high.high - c.loop-high.low) / 2 in
    let test = c.loop-high-test.true in
    halves-down c.args.self.now c.loop-high.self c.begins_before.new.self c.args.target.now c.loop-high.low c.loop-high.high middle _ c.loop-high.invariant
    (omega (arith, test)) (omega (arith, test)) c.begins_before.ensures

pub returns : goal.returns
returns c = λ form bytes rows b place w long.
    let there = c.loop-high.invariant.2 form bytes rows b place w long in
    let low = c.loop-high.invariant.0 in
    let most = c.loop-high.invariant.1 in
    let count = w.count in
    (omega (arith, low, most, count), there.0, there.1)
