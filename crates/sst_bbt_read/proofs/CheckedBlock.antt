-- A block that is drawn and checked, or the first thing that is wrong with it.
use Rattle.std.proofs.Common.{◌≡◌, ℕ, List, Ok, Err, refl, inl, inr}
use Rattle.sst_num.specs.declared.block_handle.Handle.{Handle}
use Rattle.sst_num.specs.declared.stops.Stop.{Stop}
use Rattle.sst_num.specs.declared.stops.Stop.TheVariants.{Damage, Device, Memory}
use Rattle.sst_block.specs.declared.row_form.RowForm.{RowForm}
use Rattle.sst_block.specs.declared.fault.BlockFault.{BlockFault}
use Rattle.sst_block.specs.FirstFault.{IsFirstFault}
use Rattle.sst_device.specs.Stops.{Answers, stop_as}
use Rattle.sst_device.specs.FrameReading.{frame_read}
use Rattle.sst_device.specs.declared.frame.FrameFault.{FrameFault}
use Rattle.sst_device.proofs.FramesRead.{framed-read, frame-fault}
use Rattle.sst_bbt_read.specs.OpeningFaults.{BlockFails}
use Rattle.sst_bbt_read.specs.Reader.{Stopped}
use Rattle.sst_bbt_read.specs.declared.bbt_fault.BbtFault.TheVariants as bbt

-- its frame is wrong
pub frame_stopped : (stop : Stop FrameFault) (form : RowForm) (file : List ℕ) (end : ℕ) (h : Handle)
    → Answers {A = List ℕ} (Err stop) (frame_read file end h) → Stopped {A = ℕ} (Err (stop_as bbt.Frame stop)) (BlockFails form file end h)
frame_stopped (Damage fault) form file end h is = inl (fault, refl, frame-fault file end h fault is)
frame_stopped Device form file end h is = tt
frame_stopped Memory form file end h is = tt

-- it is framed, and its bytes are wrong
pub bytes_wrong : (form : RowForm) (file : List ℕ) (end : ℕ) (h : Handle) (block : List ℕ) (fault : BlockFault) → frame_read file end h ≡ Ok block
    → IsFirstFault form block fault → BlockFails form file end h (bbt.Block h fault)
bytes_wrong form file end h block fault drawn wrong = inr (fault, block, refl, framed-read file end h block drawn, wrong)
