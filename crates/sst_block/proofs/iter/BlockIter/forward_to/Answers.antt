use Rattle.std.proofs.Common.{Bool, subst}
use Rattle.sst_block.specs.Iter.{place_of}
use Rattle.sst_block.proofs.Seeking.{Tells, came-more, came-shorter, came-end, came-none}
use Rattle.sst_block.proofs.iter.BlockIter.forward_to.Goals as goal

pub loop-self-init : goal.loop-self-init
loop-self-init c = λ form bytes rows b k w low long. (k, w, low)

pub is_before-requires : goal.is_before-requires
is_before-requires c =
    let (form, bytes, rows, b, k, w, low, long) = c.requires in
    let there = c.loop-self.invariant form bytes rows b k w low long in
    record { form = form; bytes = bytes; rows = rows; block = b; place = place_of rows there.0; walks = there.1; long = long }

pub returns-then-not-step : goal.returns-then-not-step
returns-then-not-step c =
    came-none c.args.self.now c.loop-self.self c.step.new.self _ c.args.target.now c.loop-self.invariant
    (subst (λ (t : Bool). Tells c.loop-self.self c.args.target.now t) c.loop-self-test.true c.is_before.ensures) c.step.ensures.stays
    (record { none = c.step.ensures.none; some = c.step.ensures.some }) c.if-not-step.true

pub loop-self-smaller : goal.loop-self-smaller
loop-self-smaller c =
    let (form, bytes, rows, b, k, w, low, long) = c.requires in
    came-shorter c.args.self.now c.loop-self.self c.step.new.self _ c.args.target.now c.loop-self.invariant
    (subst (λ (t : Bool). Tells c.loop-self.self c.args.target.now t) c.loop-self-test.true c.is_before.ensures) c.step.ensures.stays
    (record { none = c.step.ensures.none; some = c.step.ensures.some }) c.if-not-step.false form bytes rows b k w low long

pub loop-self-preserved : goal.loop-self-preserved
loop-self-preserved c =
    came-more c.args.self.now c.loop-self.self c.step.new.self _ c.args.target.now c.loop-self.invariant
    (subst (λ (t : Bool). Tells c.loop-self.self c.args.target.now t) c.loop-self-test.true c.is_before.ensures) c.step.ensures.stays
    (record { none = c.step.ensures.none; some = c.step.ensures.some })

pub returns : goal.returns
returns c =
    came-end c.args.self.now c.loop-self.self c.args.target.now c.loop-self.invariant
    (subst (λ (t : Bool). Tells c.loop-self.self c.args.target.now t) c.loop-self-test.false c.is_before.ensures)
