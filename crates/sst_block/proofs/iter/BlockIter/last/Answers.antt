use Rattle.sst_block.proofs.RestartPlaces.{last_restart}
use Rattle.sst_block.proofs.Forward.{last-reaches, last-in, last-none}
use Rattle.sst_block.proofs.Walking.{walks-of}
use Rattle.sst_block.proofs.iter.BlockIter.last.Goals as goal

pub at_restart-there-requires : goal.at_restart-there-requires
at_restart-there-requires c =
    let (rows, place, w) = c.requires in
    (w.form, w.bytes, rows, w.block, place, w.walks, last_restart c.args.self.now w.form w.bytes rows w.block place w.walks)

pub forward-requires : goal.forward-requires
forward-requires c =
    let (rows, place, w) = c.requires in
    let (k, at, there, told, row) = c.at_restart-there.ensures.within w.form w.bytes rows w.block place w.walks (last_restart c.args.self.now w.form w.bytes rows w.block place w.walks) in
    last-reaches c.at_restart-there.new.self _ w.form w.bytes rows w.block k c.if-there.true told there

pub returns-then-there-clause-moves : goal.returns-then-there-clause-moves
returns-then-there-clause-moves c = λ rows place w.
    let (k, at, there, told, row) = c.at_restart-there.ensures.within w.form w.bytes rows w.block place w.walks (last_restart c.args.self.now w.form w.bytes rows w.block place w.walks) in
    walks-of _ _ _ _ _ _ (last-in c.at_restart-there.new.self c.forward.new.self _ w.form w.bytes rows w.block k c.if-there.true told there c.forward.ensures)

pub returns-then-there-clause-within : goal.returns-then-there-clause-within
returns-then-there-clause-within c = λ form bytes rows b place w.
    let (k, at, there, told, row) = c.at_restart-there.ensures.within form bytes rows b place w (last_restart c.args.self.now form bytes rows b place w) in
    last-in c.at_restart-there.new.self c.forward.new.self _ form bytes rows b k c.if-there.true told there c.forward.ensures

pub returns-then-there-clause-tells : goal.returns-then-there-clause-tells
returns-then-there-clause-tells c = λ rows place w.
    c.at_restart-there.ensures.tells w.form w.bytes rows w.block place w.walks (last_restart c.args.self.now w.form w.bytes rows w.block place w.walks)

pub returns-else-there-clause-moves : goal.returns-else-there-clause-moves
returns-else-there-clause-moves c = λ rows place w.
    let within = last_restart c.args.self.now w.form w.bytes rows w.block place w.walks in
    let (k, at, there, told, row) = c.at_restart-there.ensures.within w.form w.bytes rows w.block place w.walks within in
    walks-of _ _ _ _ _ _ (last-none c.at_restart-there.new.self _ w.form w.bytes rows w.block k c.if-there.false (c.at_restart-there.ensures.tells w.form w.bytes rows w.block place w.walks within) there)

pub returns-else-there-clause-within : goal.returns-else-there-clause-within
returns-else-there-clause-within c = λ form bytes rows b place w.
    let within = last_restart c.args.self.now form bytes rows b place w in
    let (k, at, there, told, row) = c.at_restart-there.ensures.within form bytes rows b place w within in
    last-none c.at_restart-there.new.self _ form bytes rows b k c.if-there.false (c.at_restart-there.ensures.tells form bytes rows b place w within) there

pub returns-else-there-clause-tells : goal.returns-else-there-clause-tells
returns-else-there-clause-tells c = λ rows place w.
    c.at_restart-there.ensures.tells w.form w.bytes rows w.block place w.walks (last_restart c.args.self.now w.form w.bytes rows w.block place w.walks)
