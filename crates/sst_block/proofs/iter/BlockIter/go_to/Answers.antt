use Rattle.sst_block.proofs.Walking.{moves-as}
use Rattle.sst_block.proofs.iter.BlockIter.go_to.Goals as goal

pub returns-clause-some : goal.returns-clause-some
returns-clause-some c =
    (moves-as c.step.new.self c.step.result _ _ _ _ _ _ c.set.ensures c.split_at.ensures.back (record { none = c.step.ensures.none; some = c.step.ensures.some })).some
