-- The index and data blocks of a block-based file to which its footer and its index lead, by their places: the top block;
-- the part to which the row `i` of the top block leads; the data block to which the row `j` of that part leads. Whether
-- what they lead to is good isn't said.
-- RocksDB: BlockBasedTable::Open and NewDataBlockIterator in table/block_based/block_based_table_reader.cc.
-- Pinned by: a_file_that_opens_shows_no_fault, the_fault_of_opening_is_the_first
use Rattle.std.specs.Prelude.{◌≡◌, ℕ, Bool, true, false, List, Some, slice_get}
use Rattle.sst_num.specs.declared.block_handle.Handle.{Handle}
use Rattle.sst_block.specs.IndexRows.{IndexPair}
use Rattle.sst_meta.specs.BlockFooter.{footer_start}
use Rattle.sst_meta.specs.IndexForms.{index_form}
use Rattle.sst_meta.specs.Meta.{Meta}
use Rattle.sst_meta.specs.declared.index_form.IndexForm.{IndexForm}
use Rattle.sst_meta.specs.declared.loading.Loaded.{Loaded}
use Rattle.sst_bbt_spec.specs.IndexLeads.{SaysPairs}

-- the file says of itself that its top block stands at the handle, and its index has this form
pub record HasTop (file : List ℕ) (form : IndexForm) (handle : Handle) : Type 0 where
  pub loaded : Loaded
  pub meta : Meta file loaded
  pub form_is : form ≡ index_form loaded.props
  pub handle_is : handle ≡ loaded.footer.index

-- the row of this number of the index block at a handle leads to another handle
pub record LeadsOn (file : List ℕ) (form : IndexForm) (at : Handle) (i : ℕ) (handle : Handle) : Type 0 where
  pub pairs : List IndexPair
  pub says : SaysPairs file (footer_start file) form at pairs
  pub pair : IndexPair
  pub row : slice_get pairs i ≡ Some pair
  pub handle_is : pair.handle ≡ handle

-- the row `i` of the top block leads to a part of the index at this handle; only an index in parts has such
abbrev pub LeadsToPart : List ℕ → IndexForm → ℕ → Handle → Type 0
LeadsToPart file form i handle = (form.parted ≡ true) × (top : Handle) × HasTop file form top × LeadsOn file form top i handle

-- the row `j` of the part at the row `i` of the top block leads to a data block at this handle; in a whole index the row
-- of the top block is itself the one row of the part
abbrev pub LeadsInside : Bool → List ℕ → IndexForm → ℕ → ℕ → Handle → Type 0
LeadsInside true file form i j handle = (part : Handle) × LeadsToPart file form i part × LeadsOn file form part j handle
LeadsInside false file form i j handle = (j ≡ 0) × (top : Handle) × HasTop file form top × LeadsOn file form top i handle

abbrev pub LeadsToData : List ℕ → IndexForm → ℕ → ℕ → Handle → Type 0
LeadsToData file form i j handle = LeadsInside form.parted file form i j handle
