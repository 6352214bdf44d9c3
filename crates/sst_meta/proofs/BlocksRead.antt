-- The rows of a framed block are read, and what is read are the rows of a framed block.
use Rattle.std.proofs.Common.{◌≡◌, ℕ, ◌^◌, ◌≤◌, List, length, drop, Ok, Err, sym, subst, ◌∙◌, ap, length-take, arith}
use Rattle.sst_num.specs.declared.block_handle.Handle.{Handle}
use Rattle.sst_block.specs.declared.row_form.RowForm.{RowForm}
use Rattle.sst_block.specs.declared.fault.BlockFault.{BlockFault}
use Rattle.sst_block.specs.Block.{Row, Block}
use Rattle.sst_block.specs.BlockReading.{block_read}
use Rattle.sst_block.specs.FirstFault.{IsFirstFault}
use Rattle.sst_block.proofs.BlockRead.{read-complete, read-sound}
use Rattle.sst_block.proofs.FirstFaults.{read-first, first-read}
use Rattle.sst_block.proofs.OneReading.{one-list, no-rows}
use Rattle.sst_device.specs.Framed.{Framed}
use Rattle.sst_device.specs.FrameReading.{frame_read}
use Rattle.sst_device.specs.FrameFaults.{IsFrameFault}
use Rattle.sst_meta.specs.Blocks.{as_fault, block_at}
use Rattle.sst_device.specs.declared.frame.FrameFault.{FrameFault}
use Rattle.sst_device.proofs.FramesRead.{frame_read-framed, framed-read, frame-fault, frame_read-fault}
use Rattle.sst_meta.proofs.ReadSteps.{then_open-ok, then_open-err, as_fault-ok, as_fault-err}

-- the rows of the block that is framed at a handle
pub record RowsAt (form : RowForm) (file : List ℕ) (end : ℕ) (h : Handle) (rows : List Row) : Type 0 where
  pub bytes : List ℕ
  pub framed : Framed file end h bytes
  pub block : Block form bytes rows

-- a framed block is short
pub framed-short : (file : List ℕ) (end : ℕ) (h : Handle) (bytes : List ℕ) → Framed file end h bytes → length bytes ≤ 2 ^ 29
framed-short file end h bytes framed =
    let size = ap length framed.stands in
    let most = length-take h.size (drop h.offset file) in
    omega (arith, framed.limited)

-- they are read
pub block_at-rows : {F : Type 0} (frame : FrameFault → F) (block : BlockFault → F) (form : RowForm) (file : List ℕ) (end : ℕ) (h : Handle) (rows : List Row)
    → RowsAt form file end h rows → block_at frame block form file end h ≡ Ok rows
block_at-rows frame block form file end h rows at =
    let reads = read-complete form at.bytes rows at.block in
    rw (frame_read-framed file end h at.bytes at.framed, reads.reads) (ap Ok reads.are_rows)

-- rows that are read are they
pub block_at-found : {F : Type 0} (frame : FrameFault → F) (block : BlockFault → F) (form : RowForm) (file : List ℕ) (end : ℕ) (h : Handle) (rows : List Row)
    → block_at frame block form file end h ≡ Ok rows → RowsAt form file end h rows
block_at-found frame block form file end h rows e =
    then_open-ok (as_fault frame (frame_read file end h)) _ rows e
    (λ bytes found e. then_open-ok (as_fault block (block_read form bytes)) _ rows e
    (λ spelled read last.
    let framed = framed-read file end h bytes (as_fault-ok frame (frame_read file end h) bytes found) in
    record {
      bytes = bytes;
      framed = framed;
      block = read-sound form bytes rows (framed-short file end h bytes framed)
          (record { spelled = spelled; reads = as_fault-ok block (block_read form bytes) spelled read; are_rows = cc });
    }))

-- a fault is one of the frame, or of the block in it
pub block_at-fault : {F P : Type 0} (frame : FrameFault → F) (block : BlockFault → F) (form : RowForm) (file : List ℕ) (end : ℕ) (h : Handle) (fault : F)
    → block_at frame block form file end h ≡ Err fault
    → ((f : FrameFault) → IsFrameFault file end h f → frame f ≡ fault → P)
    → ((bytes : List ℕ) → Framed file end h bytes → (f : BlockFault) → IsFirstFault form bytes f → block f ≡ fault → P) → P
block_at-fault frame block form file end h fault e of_frame of_block =
    then_open-err (as_fault frame (frame_read file end h)) _ fault e
    (λ first. as_fault-err frame (frame_read file end h) fault first (λ f is same. of_frame f (frame-fault file end h f is) same))
    (λ bytes found e. then_open-err (as_fault block (block_read form bytes)) _ fault e
    (λ first. as_fault-err block (block_read form bytes) fault first
    (λ f is same. of_block bytes (framed-read file end h bytes (as_fault-ok frame (frame_read file end h) bytes found)) f (read-first form bytes f is) same))
    (λ spelled read last. cc))

-- the same of the parts
pub block_at-complete : {F : Type 0} (frame : FrameFault → F) (block : BlockFault → F) (form : RowForm) (file : List ℕ) (end : ℕ) (h : Handle) (bytes : List ℕ) (rows : List Row)
    → Framed file end h bytes → Block form bytes rows → block_at frame block form file end h ≡ Ok rows
block_at-complete frame block form file end h bytes rows framed is =
    block_at-rows frame block form file end h rows (record { bytes = bytes; framed = framed; block = is })

pub block_at-sound : {F : Type 0} (frame : FrameFault → F) (block : BlockFault → F) (form : RowForm) (file : List ℕ) (end : ℕ) (h : Handle) (rows : List Row)
    → block_at frame block form file end h ≡ Ok rows → (bytes : List ℕ) × Framed file end h bytes × Block form bytes rows
block_at-sound frame block form file end h rows e =
    let at = block_at-found frame block form file end h rows e in (at.bytes, at.framed, at.block)

-- a handle frames one block at most
pub framed-once : (file : List ℕ) (end : ℕ) (h : Handle) (a b : List ℕ) → Framed file end h a → Framed file end h b → a ≡ b
framed-once file end h a b left right =
    let same : Ok a ≡ Ok b = sym (frame_read-framed file end h a left) ∙ frame_read-framed file end h b right in
    cc

pub bytes-once : (form : RowForm) (file : List ℕ) (end : ℕ) (h : Handle) (rows : List Row) (bytes : List ℕ) (at : RowsAt form file end h rows) → Framed file end h bytes
    → at.bytes ≡ bytes
bytes-once form file end h rows bytes at framed = framed-once file end h at.bytes bytes at.framed framed

-- and so one list of rows
pub rows-once : (form : RowForm) (file : List ℕ) (end : ℕ) (h : Handle) (rows others : List Row) (bytes : List ℕ) → RowsAt form file end h rows → Framed file end h bytes
    → Block form bytes others → rows ≡ others
rows-once form file end h rows others bytes at framed block =
    let same = bytes-once form file end h rows bytes at framed in
    one-list form bytes rows others (subst (λ (b : List ℕ). Block form b rows) same at.block) block

-- where rows stand, the frame has no fault, and neither has the block
pub no-frame_fault : (form : RowForm) (file : List ℕ) (end : ℕ) (h : Handle) (rows : List Row) (fault : FrameFault) → RowsAt form file end h rows
    → IsFrameFault file end h fault → ⊥
no-frame_fault form file end h rows fault at wrong = cc (frame_read-framed file end h at.bytes at.framed, frame_read-fault file end h fault wrong)

pub no-block_fault : (form : RowForm) (file : List ℕ) (end : ℕ) (h : Handle) (rows : List Row) (bytes : List ℕ) (fault : BlockFault)
    → RowsAt form file end h rows → Framed file end h bytes → IsFirstFault form bytes fault → ⊥
no-block_fault form file end h rows bytes fault at framed wrong =
    let same = bytes-once form file end h rows bytes at framed in
    let read = first-read form bytes fault (framed-short file end h bytes framed) wrong in
    no-rows form at.bytes fault rows (subst (λ (b : List ℕ). block_read form b ≡ Err fault) (sym same) read) at.block
