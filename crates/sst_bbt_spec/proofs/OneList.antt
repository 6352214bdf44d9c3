-- The rows of the framed block at a handle are told by the file; and a block by its parts.
use Rattle.std.proofs.Common.{◌≡◌, ℕ, List, refl, sym, ◌∙◌, subst}
use Rattle.sst_num.specs.declared.block_handle.Handle.{Handle}
use Rattle.sst_key.specs.declared.entries.Entry.{Entry}
use Rattle.sst_block.specs.declared.row_form.RowForm.{RowForm}
use Rattle.sst_block.specs.Block.{Row, Block}
use Rattle.sst_block.proofs.OneReading.{one-list}
use Rattle.sst_device.specs.Framed.{Framed}
use Rattle.sst_bbt_spec.specs.Way.{IndexedBlock}

-- the rows of the framed block at a handle
pub framed-one : (form : RowForm) (file : List ℕ) (end : ℕ) (h g : Handle) (x y : List ℕ) (a b : List Row) → h ≡ g
    → Framed file end h x → Framed file end g y → Block form x a → Block form y b → a ≡ b
framed-one form file end h g x y a b same at_x at_y left right =
    let there : Framed file end h y = subst (λ (i : Handle). Framed file end i y) (sym same) at_y in
    let bytes : y ≡ x = sym there.stands ∙ at_x.stands in
    one-list form x a b left (subst (λ (l : List ℕ). Block form l b) bytes right)

pub block-made : (a b : List ℕ) (xs ys : List Entry) → a ≡ b → xs ≡ ys
    → ◌≡◌ {A = IndexedBlock} (record { separator = a; entries = xs }) (record { separator = b; entries = ys })
block-made a b xs ys same are = rw (same, are) refl
