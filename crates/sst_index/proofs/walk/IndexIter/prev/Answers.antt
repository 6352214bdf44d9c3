use Rattle.std.proofs.Common.{Some}
use Rattle.sst_index.specs.IndexBlock.{form_of}
use Rattle.sst_index.proofs.PairWalks.{rows-walk}
use Rattle.sst_index.proofs.walk.IndexIter.prev.Goals as goal

pub prev-requires : goal.prev-requires
prev-requires c =
    let (flags, bytes, pairs, i, w) = c.requires in
    (w.says.rows, i, rows-walk c.args.self.now flags bytes pairs (Some i) w)

pub returns-clause-moves : goal.returns-clause-moves
returns-clause-moves c = λ flags bytes pairs i w.
    record { says = w.says; user_key_is = w.user_key_is; walks = c.prev.ensures.within (form_of flags) bytes w.says.rows w.says.block i w.walks }

pub returns-clause-tells : goal.returns-clause-tells
returns-clause-tells c = λ flags bytes pairs i w. c.prev.ensures.tells w.says.rows i (rows-walk c.args.self.now flags bytes pairs (Some i) w)
