use Rattle.std.proofs.Common.{refl}
use Rattle.sst_block.proofs.Walking.{first-in, walks-of}
use Rattle.sst_block.proofs.iter.BlockIter.first.Goals as goal

pub returns-clause-moves : goal.returns-clause-moves
returns-clause-moves c = λ rows place w.
    walks-of _ _ _ _ _ _ (first-in c.args.self.now c.step.new.self _ w.form w.bytes rows w.block place _ _ w.walks (record { form = c.step.ensures.stays.form; rows = c.step.ensures.stays.rows; places = c.step.ensures.stays.places; count = c.step.ensures.stays.count }) (record { none = c.step.ensures.none; some = c.step.ensures.some }) c.set.ensures refl).0

pub returns-clause-within : goal.returns-clause-within
returns-clause-within c = λ form bytes rows b place w.
    (first-in c.args.self.now c.step.new.self _ form bytes rows b place _ _ w (record { form = c.step.ensures.stays.form; rows = c.step.ensures.stays.rows; places = c.step.ensures.stays.places; count = c.step.ensures.stays.count }) (record { none = c.step.ensures.none; some = c.step.ensures.some }) c.set.ensures refl).0

pub returns-clause-tells : goal.returns-clause-tells
returns-clause-tells c = λ rows place w.
    (first-in c.args.self.now c.step.new.self _ w.form w.bytes rows w.block place _ _ w.walks (record { form = c.step.ensures.stays.form; rows = c.step.ensures.stays.rows; places = c.step.ensures.stays.places; count = c.step.ensures.stays.count }) (record { none = c.step.ensures.none; some = c.step.ensures.some }) c.set.ensures refl).1
