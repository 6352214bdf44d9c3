use Rattle.sst_device.proofs.FramesRead.{frame_read-framed, framed-read}
use Rattle.sst_device.proofs.laws.a_stored_block_is_read.Goals as goal

pub returns-clause-complete : goal.returns-clause-complete
returns-clause-complete c = frame_read-framed

pub returns-clause-sound : goal.returns-clause-sound
returns-clause-sound c = framed-read
