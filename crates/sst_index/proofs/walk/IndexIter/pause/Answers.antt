use Rattle.sst_index.proofs.walk.IndexIter.pause.Goals as goal

pub returns : goal.returns
returns c = λ flags bytes pairs place w.
    record { says = w.says; paused = c.pause.ensures _ bytes w.says.rows w.says.block place w.walks }
