use Rattle.sst_device.proofs.FramesRead.{frame_read-fault, frame-fault}
use Rattle.sst_device.proofs.laws.a_frame_fault_is_the_first.Goals as goal

pub returns : goal.returns
returns c = record { complete = frame_read-fault; sound = frame-fault }
