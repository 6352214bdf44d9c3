use Rattle.sst_device.proofs.Frames.{frame-framed}
use Rattle.sst_device.proofs.laws.frame_is_framed.Goals as goal

pub returns : goal.returns
returns c = frame-framed
