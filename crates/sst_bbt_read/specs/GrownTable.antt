-- What is added to the data blocks of a table while its file is opened.
-- Own.
-- Pinned by: open.told
use Rattle.std.specs.Prelude.{◌≡◌, ℕ, ◌<◌, List, ◌++◌, length, map, All}
use Rattle.sst_key.specs.declared.entries.Entry.{Entry}
use Rattle.sst_bbt_spec.specs.Way.{IndexedBlock}
use Rattle.sst_bbt_read.specs.KeptLeads.{AreLeads}
use Rattle.sst_bbt_read.specs.TableBlocks.{AreEntries, AreEnds, blocks_from, separators_of}
use Rattle.sst_bbt_read.specs.declared.kept_table.RunEnd.{RunEnd}
use Rattle.sst_bbt_read.specs.declared.kept_table.data_blocks.DataBlocks.{DataBlocks}
use Rattle.sst_bbt_read.specs.declared.kept_table.index_leads.IndexLead.{IndexLead}

-- the separators of rows
-- Own.
abbrev pub lead_separators : List IndexLead → List (List ℕ)
lead_separators leads = map (λ (lead : IndexLead). lead.separator) leads

-- behind the data blocks before stand others, which have the separators of the rows
-- Own.
pub record BlocksAdded (leads : List IndexLead) (before now : DataBlocks) : Type 0 where
  pub ends : List RunEnd
  pub entries : List Entry
  pub ends_are : now.ends.items ≡ before.ends.items ++ ends
  pub entries_are : now.entries.items ≡ before.entries.items ++ entries
  pub are_ends : AreEnds (length before.entries.items) ends (length now.entries.items)
  pub separators : separators_of ends ≡ lead_separators leads
  pub blocks : List IndexedBlock
  pub blocks_are : blocks ≡ blocks_from (length before.entries.items) ends now.entries.items
  pub are : All (λ (block : IndexedBlock). AreEntries block.entries) blocks

-- behind the data blocks before stand those of one part, of which there is one at least
-- Own.
pub record PartAdded (before now : DataBlocks) : Type 0 where
  pub leads : List IndexLead
  pub are : AreLeads leads
  pub some : 0 < length leads
  pub added : BlocksAdded leads before now
