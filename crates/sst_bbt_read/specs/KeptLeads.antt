-- The rows of an index block as a reader keeps them while it opens a file: each separator as a stored key, whatever the form
-- of the block is.
-- Own.
-- Pinned by: open.told
use Rattle.std.specs.Prelude.{◌≤◌, Bool, false, List, [], map, length, All}
use Rattle.sst_block.specs.declared.row_form.RowForm.TheVariants.{Index}
use Rattle.sst_block.specs.Block.{Row, AreOrdered}
use Rattle.sst_block.specs.IndexRows.{IndexPair}
use Rattle.sst_bbt_spec.specs.Parts.{separator_of}
use Rattle.sst_bbt_read.specs.declared.kept_table.index_leads.IndexLead.{IndexLead}

-- what a row of an index says, as it is kept
-- Own.
abbrev pub lead_of : Bool → IndexPair → IndexLead
lead_of user_key pair = record { separator = separator_of user_key pair.separator; handle = pair.handle }

abbrev pub leads_of : Bool → List IndexPair → List IndexLead
leads_of user_key pairs = map (lead_of user_key) pairs

-- what is kept as what rows with stored keys say
-- Own.
abbrev pub pair_of : IndexLead → IndexPair
pair_of lead = record { separator = lead.separator; handle = lead.handle }

abbrev pub pairs_of : List IndexLead → List IndexPair
pairs_of leads = map pair_of leads

-- the separators as the keys of index rows
-- Own.
abbrev pub lead_rows : List IndexLead → List Row
lead_rows leads = map (λ (lead : IndexLead). record { key = lead.separator; value = [] }) leads

-- the separators are stored keys in order
-- Own.
pub record AreLeads (leads : List IndexLead) : Type 0 where
  pub long : All (λ (lead : IndexLead). 8 ≤ length lead.separator) leads
  pub ordered : AreOrdered (Index false false) (lead_rows leads)
