use Rattle.sst_index.proofs.walk.IndexIter.handle.Goals as goal

pub returns : goal.returns
returns c = λ flags bytes pairs i w. c.handle.ensures flags.user_key flags.delta bytes w.says.rows w.says.block i pairs w.walks w.says.says
