use Rattle.sst_index.specs.IndexBlock.{form_of}
use Rattle.sst_index.proofs.PairWalks.{rows-walk, moved-last, told_of}
use Rattle.sst_index.proofs.walk.IndexIter.last.Goals as goal

pub last-requires : goal.last-requires
last-requires c =
    let r = c.requires in
    (r.walks.says.rows, r.place, rows-walk c.args.self.now r.flags r.bytes r.pairs r.place r.walks)

pub returns-clause-moves : goal.returns-clause-moves
returns-clause-moves c = λ flags bytes pairs place w.
    moved-last _ flags bytes pairs w.says w.user_key_is (c.last.ensures.within (form_of flags) bytes w.says.rows w.says.block place w.walks)

pub returns-clause-tells : goal.returns-clause-tells
returns-clause-tells c = λ flags bytes pairs place w.
    told_of flags bytes pairs w.says 0 c.last.result (c.last.ensures.tells w.says.rows place (rows-walk c.args.self.now flags bytes pairs place w))
