use Rattle.std.proofs.Common.{◌+◌, Some}
use Rattle.sst_index.specs.IndexBlock.{form_of}
use Rattle.sst_index.proofs.PairWalks.{rows-walk, moved, told_of}
use Rattle.sst_index.proofs.walk.IndexIter.next.Goals as goal

pub next-requires : goal.next-requires
next-requires c =
    let (flags, bytes, pairs, i, w) = c.requires in
    (w.says.rows, i, rows-walk c.args.self.now flags bytes pairs (Some i) w)

pub returns-clause-moves : goal.returns-clause-moves
returns-clause-moves c = λ flags bytes pairs i w.
    moved _ flags bytes pairs w.says (i + 1) w.user_key_is (c.next.ensures.within (form_of flags) bytes w.says.rows w.says.block i w.walks)

pub returns-clause-tells : goal.returns-clause-tells
returns-clause-tells c = λ flags bytes pairs i w.
    told_of flags bytes pairs w.says (i + 1) c.next.result (c.next.ensures.tells w.says.rows i (rows-walk c.args.self.now flags bytes pairs (Some i) w))
