use Rattle.std.proofs.Common.{refl}
use Rattle.sst_index.proofs.walk.IndexIter.resume.Goals as goal

pub resume-requires : goal.resume-requires
resume-requires c =
    let p = c.requires.2 in
    (p.says.rows, p.says.block, c.requires.1, p.paused)

pub returns : goal.returns
returns c = λ pairs at p.
    record { says = p.says; user_key_is = refl; walks = c.resume.ensures.within p.says.rows p.says.block at p.paused }
