-- A data block whose rows were copied behind the entries before, or which has none.
use Rattle.std.proofs.Common.{◌≡◌, ℕ, zero, suc, ◌<◌, List, [], ◌∷◌, ◌++◌, length, refl, sym, ap, ◌∙◌, subst, inr, arith}
use Rattle.std.proofs.lemmas.List.{length-map}
use Rattle.sst_num.specs.declared.block_handle.Handle.{Handle}
use Rattle.sst_key.specs.declared.entries.Entry.{Entry}
use Rattle.sst_block.specs.declared.row_form.RowForm.{RowForm}
use Rattle.sst_block.specs.declared.row_form.RowForm.TheVariants.{Entries}
use Rattle.sst_block.specs.Block.{Row, Block}
use Rattle.sst_device.specs.Framed.{Framed}
use Rattle.sst_bbt_spec.specs.Rows.{row_of, rows_of}
use Rattle.sst_bbt_spec.specs.IndexLeads.{HoldsEntries}
use Rattle.sst_bbt_read.specs.OpeningFaults.{SomeBlockFails}
use Rattle.sst_bbt_read.specs.Reader.{BlockAdded}
use Rattle.sst_bbt_read.specs.TableBlocks.{AreEntries}
use Rattle.sst_bbt_read.specs.declared.bbt_fault.BbtFault.TheVariants as bbt

no_rows : (rows : List Row) (count : ℕ) → length rows ≡ count → count ≡ 0 → rows ≡ []
no_rows [] count many none = refl
no_rows (row ∷ rest) count many none = absurd (omega (arith, many, none))

-- a block without a row
pub block_empty : (form : RowForm) (file : List ℕ) (end : ℕ) (h : Handle) (block : List ℕ) (rows : List Row) (count : ℕ) → Framed file end h block → Block form block rows
    → length rows ≡ count → count ≡ 0 → SomeBlockFails form file end h (bbt.EmptyBlock h)
block_empty form file end h block rows count framed b many none =
    inr (block, refl, framed, subst (λ (rs : List Row). Block form block rs) (no_rows rows count many none) b)

positive : (n : ℕ) → (n ≡ 0 → ⊥) → 0 < n
positive zero some = absurd (some refl)
positive (suc n) some = omega arith

-- the entries of a data block were added
pub block_added : (block : List ℕ) (rows : List Row) (count place : ℕ) (before now : List Entry) → Block Entries block rows → length rows ≡ count → (count ≡ 0 → ⊥)
    → ((rows : List Row) → Block Entries block rows → length rows ≡ count → (added : List Entry) × (now ≡ before ++ added) × (rows ≡ rows_of added) × AreEntries added)
    → place ≡ length now → (added : BlockAdded before now place) × Block Entries block (rows_of added.entries)
block_added block rows count place before now b many some all ends =
    let a = all rows b many in
    let size : length a.0 ≡ count = sym (length-map a.0 row_of) ∙ sym (ap length a.2) ∙ many in
    let one = positive count some in (
      record { entries = a.0; appended = a.1; ends = ends; some = omega (arith, size, one); are = a.3 },
      subst (λ (rs : List Row). Block Entries block rs) a.2 b,
    )

-- it stands at the handle
pub entries_held : (file : List ℕ) (end : ℕ) (h : Handle) (block : List ℕ) (place : ℕ) (before now : List Entry) (added : BlockAdded before now place) → Framed file end h block
    → Block Entries block (rows_of added.entries) → HoldsEntries file end h added.entries
entries_held file end h block place before now added framed rows =
    record { block = block; framed = framed; rows = rows; some = added.some; seqs = added.are.seqs }
