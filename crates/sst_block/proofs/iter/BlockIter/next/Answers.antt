use Rattle.sst_block.proofs.Walking.{next-in, walks-of}
use Rattle.sst_block.proofs.iter.BlockIter.next.Goals as goal

pub returns-clause-moves : goal.returns-clause-moves
returns-clause-moves c = λ rows i w.
    walks-of _ _ _ _ _ _ (next-in c.args.self.now c.step.new.self _ w.form w.bytes rows w.block i w.walks c.step.ensures.stays (record { none = c.step.ensures.none; some = c.step.ensures.some })).0

pub returns-clause-within : goal.returns-clause-within
returns-clause-within c = λ form bytes rows b i w.
    (next-in c.args.self.now c.step.new.self _ form bytes rows b i w c.step.ensures.stays (record { none = c.step.ensures.none; some = c.step.ensures.some })).0

pub returns-clause-tells : goal.returns-clause-tells
returns-clause-tells c = λ rows i w.
    (next-in c.args.self.now c.step.new.self _ w.form w.bytes rows w.block i w.walks c.step.ensures.stays (record { none = c.step.ensures.none; some = c.step.ensures.some })).1
