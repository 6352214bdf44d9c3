use Rattle.sst_index.specs.IndexBlock.{form_of}
use Rattle.sst_index.proofs.PairWalks.{rows-walk, moved, told_of}
use Rattle.sst_index.proofs.walk.IndexIter.first.Goals as goal

pub first-requires : goal.first-requires
first-requires c =
    let r = c.requires in
    (r.walks.says.rows, r.place, rows-walk c.args.self.now r.flags r.bytes r.pairs r.place r.walks)

pub returns-clause-moves : goal.returns-clause-moves
returns-clause-moves c = λ flags bytes pairs place w.
    moved _ flags bytes pairs w.says 0 w.user_key_is (c.first.ensures.within (form_of flags) bytes w.says.rows w.says.block place w.walks)

pub returns-clause-tells : goal.returns-clause-tells
returns-clause-tells c = λ flags bytes pairs place w.
    told_of flags bytes pairs w.says 0 c.first.result (c.first.ensures.tells w.says.rows place (rows-walk c.args.self.now flags bytes pairs place w))
