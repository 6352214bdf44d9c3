use Rattle.std.proofs.Common.{Some}
use Rattle.sst_index.proofs.PairWalks.{rows-walk, separator-at}
use Rattle.sst_index.proofs.walk.IndexIter.separator.Goals as goal

pub key-requires : goal.key-requires
key-requires c =
    let (flags, bytes, pairs, i, w) = c.requires in
    (w.says.rows, i, rows-walk c.args.self.now flags bytes pairs (Some i) w)

pub returns : goal.returns
returns c = λ flags bytes pairs i w.
    separator-at flags bytes pairs w.says i c.key.result.now (c.key.ensures w.says.rows i (rows-walk c.args.self.now flags bytes pairs (Some i) w))
