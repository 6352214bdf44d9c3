use Rattle.std.proofs.Common.{Some}
use Rattle.sst_index.specs.IndexBlock.{form_of}
use Rattle.sst_index.proofs.PairWalks.{rows-walk}
use Rattle.sst_index.proofs.walk.IndexIter.row_start.Goals as goal

pub row_start-requires : goal.row_start-requires
row_start-requires c =
    let (flags, bytes, pairs, i, w) = c.requires in
    (w.says.rows, i, rows-walk c.args.self.now flags bytes pairs (Some i) w)

pub returns : goal.returns
returns c = λ flags bytes pairs i w. c.row_start.ensures (form_of flags) bytes w.says.rows w.says.block i w.walks
