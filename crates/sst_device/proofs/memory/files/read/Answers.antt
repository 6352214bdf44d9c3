use Rattle.std.proofs.Common.{refl}
use Rattle.sst_device.proofs.MemFiles.{ends-absent}
use Rattle.sst_device.proofs.Plans.{fails-where}
use Rattle.sst_device.proofs.memory.files.read.Goals as goal

pub returns-in-None-clause-fails : goal.returns-in-None-clause-fails
returns-in-None-clause-fails c = fails-where _ _ (ends-absent _ _ c.in-None.ensures) refl
