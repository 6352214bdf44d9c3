use Rattle.std.proofs.Common.{refl}
use Rattle.sst_block.proofs.Pausing.{paused}
use Rattle.sst_block.proofs.iter.BlockIter.pause.Goals as goal

pub returns : goal.returns
returns c = λ form bytes rows b place w. paused _ _ form bytes rows b place (record { key = refl; left = refl; behind = refl; value = refl; handle = refl; stands = refl }) w
