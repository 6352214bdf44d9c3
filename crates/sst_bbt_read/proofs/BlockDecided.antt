-- At a handle stands a framed block of a form, or the block has a fault, and not both; and it has one fault.
use Rattle.std.proofs.Common.{◌≡◌, ◌⊎◌, inl, inr, ℕ, ◌<◌, List, [], ◌∷◌, length, Result, Ok, Err, refl, sym, ap, ◌∙◌, arith}
use Rattle.sst_num.specs.declared.block_handle.Handle.{Handle}
use Rattle.sst_block.specs.declared.row_form.RowForm.{RowForm}
use Rattle.sst_block.specs.Block.{Row}
use Rattle.sst_block.proofs.FirstFaults.{first-read}
use Rattle.sst_device.proofs.FramesRead.{frame_read-framed, frame_read-fault}
use Rattle.sst_meta.specs.Blocks.{block_at}
use Rattle.sst_meta.proofs.BlocksRead.{RowsAt, rows-once, framed-short, block_at-rows, block_at-found, block_at-fault}
use Rattle.sst_bbt_read.specs.OpeningFaults.{BlockFails, SomeBlockFails}
use Rattle.sst_bbt_read.specs.declared.bbt_fault.BbtFault.{BbtFault}
use Rattle.sst_bbt_read.specs.declared.bbt_fault.BbtFault.TheVariants as bbt

-- the rows of the framed block at a handle, or its first fault
abbrev rows_or_fault : RowForm → List ℕ → ℕ → Handle → Result (List Row) BbtFault
rows_or_fault form file end h = block_at bbt.Frame (bbt.Block h) form file end h

-- a block that fails is read as its fault
fails-read : (form : RowForm) (file : List ℕ) (end : ℕ) (h : Handle) (fault : BbtFault) → BlockFails form file end h fault
    → rows_or_fault form file end h ≡ Err fault
fails-read form file end h fault (inl frame) = rw (frame_read-fault file end h frame.0 frame.2) (ap Err (sym frame.1))
fails-read form file end h fault (inr block) =
    let short = framed-short file end h block.1 block.3 in
    rw (frame_read-framed file end h block.1 block.3, first-read form block.1 block.0 short block.4) (ap Err (sym block.2))

read-fails : (form : RowForm) (file : List ℕ) (end : ℕ) (h : Handle) (fault : BbtFault) → rows_or_fault form file end h ≡ Err fault
    → BlockFails form file end h fault
read-fails form file end h fault e =
    block_at-fault bbt.Frame (bbt.Block h) form file end h fault e
    (λ wrong is same. inl (wrong, sym same, is))
    (λ block framed wrong is same. inr (wrong, block, sym same, framed, is))

-- a block of the form, or a fault
pub block-either : (form : RowForm) (file : List ℕ) (end : ℕ) (h : Handle)
    → ((rows : List Row) × RowsAt form file end h rows) ⊎ ((fault : BbtFault) × BlockFails form file end h fault)
block-either form file end h =
    elim (rows_or_fault form file end h) as (λ (read : Result (List Row) BbtFault). rows_or_fault form file end h ≡ read
    → ((rows : List Row) × RowsAt form file end h rows) ⊎ ((fault : BbtFault) × BlockFails form file end h fault)) [
      | Ok rows ↦ λ is. inl (rows, block_at-found bbt.Frame (bbt.Block h) form file end h rows is)
      | Err fault ↦ λ is. inr (fault, read-fails form file end h fault is)
    ] refl

pub block-apart : (form : RowForm) (file : List ℕ) (end : ℕ) (h : Handle) (rows : List Row) (fault : BbtFault) → RowsAt form file end h rows
    → BlockFails form file end h fault → ⊥
block-apart form file end h rows fault at fails =
    let read = block_at-rows bbt.Frame (bbt.Block h) form file end h rows at in
    let wrong = fails-read form file end h fault fails in
    cc (read, wrong)

pub block-one : (form : RowForm) (file : List ℕ) (end : ℕ) (h : Handle) (a b : BbtFault) → BlockFails form file end h a → BlockFails form file end h b → a ≡ b
block-one form file end h a b left right =
    let first = fails-read form file end h a left in
    let second = fails-read form file end h b right in
    cc (first, second)

-- the same of a block with a row
some-by : (form : RowForm) (file : List ℕ) (end : ℕ) (h : Handle) (rows : List Row) → RowsAt form file end h rows
    → ((rows : List Row) × RowsAt form file end h rows × (0 < length rows)) ⊎ ((fault : BbtFault) × SomeBlockFails form file end h fault)
some-by form file end h [] at = inr (bbt.EmptyBlock h, inr (at.bytes, refl, at.framed, at.block))
some-by form file end h (row ∷ rows) at = inl (row ∷ rows, at, omega arith)

pub some-either : (form : RowForm) (file : List ℕ) (end : ℕ) (h : Handle)
    → ((rows : List Row) × RowsAt form file end h rows × (0 < length rows)) ⊎ ((fault : BbtFault) × SomeBlockFails form file end h fault)
some-either form file end h =
    elim (block-either form file end h) [
      | inl good ↦ some-by form file end h good.0 good.1
      | inr bad ↦ inr (bad.0, inl bad.1)
    ]

pub some-apart : (form : RowForm) (file : List ℕ) (end : ℕ) (h : Handle) (rows : List Row) (fault : BbtFault) → RowsAt form file end h rows → 0 < length rows
    → SomeBlockFails form file end h fault → ⊥
some-apart form file end h rows fault at some (inl fails) = block-apart form file end h rows fault at fails
some-apart form file end h rows fault at some (inr empty) =
    let none = rows-once form file end h rows [] empty.0 at empty.2 empty.3 in
    let many = ap length none in
    omega (arith, some, many)

pub some-one : (form : RowForm) (file : List ℕ) (end : ℕ) (h : Handle) (a b : BbtFault) → SomeBlockFails form file end h a → SomeBlockFails form file end h b → a ≡ b
some-one form file end h a b (inl left) (inl right) = block-one form file end h a b left right
some-one form file end h a b (inl left) (inr right) =
    absurd (block-apart form file end h [] a (record { bytes = right.0; framed = right.2; block = right.3 }) left)
some-one form file end h a b (inr left) (inl right) =
    absurd (block-apart form file end h [] b (record { bytes = left.0; framed = left.2; block = left.3 }) right)
some-one form file end h a b (inr left) (inr right) = left.1 ∙ sym right.1
