use Rattle.std.proofs.Common.{rules}
use Rattle.sst_block.proofs.Forward.{comes-more, comes-end, comes-shorter}
use Rattle.sst_block.proofs.iter.BlockIter.forward.Goals as goal

pub loop-self-init : goal.loop-self-init
loop-self-init c = λ form bytes rows b i j w order within leaves. (i, w, order)

pub loop-self-smaller : goal.loop-self-smaller
loop-self-smaller c =
    comes-shorter c.args.self.now c.loop-self.self c.step.new.self _ _ c.requires c.loop-self.invariant c.loop-self-test.true c.step.ensures.stays (record { none = c.step.ensures.none; some = c.step.ensures.some })

pub loop-self-preserved : goal.loop-self-preserved
loop-self-preserved c =
    comes-more c.args.self.now c.loop-self.self c.step.new.self _ _ c.loop-self.invariant c.loop-self-test.true c.step.ensures.stays (record { none = c.step.ensures.none; some = c.step.ensures.some })

pub returns : goal.returns
returns c = comes-end c.args.self.now c.loop-self.self _ c.loop-self.invariant (search rules)
