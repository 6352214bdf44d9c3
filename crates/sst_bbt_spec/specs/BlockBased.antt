-- What a block-based file stands for, whatever form its index has: the list of entries that runs through the parts of its
-- index and their data blocks. The form is told by the file's properties alone.
-- RocksDB: BlockBasedTable::Open and CreateIndexReader in table/block_based/block_based_table_reader.cc; wiki pages
-- "Rocksdb BlockBasedTable Format" and "Partitioned Index Filters".
use Rattle.std.specs.Prelude.{ℕ, List}
use Rattle.sst_key.specs.declared.entries.Entry.{Entry}
use Rattle.sst_block.specs.IndexRows.{IndexPair}
use Rattle.sst_meta.specs.BlockFooter.{footer_start}
use Rattle.sst_meta.specs.IndexForms.{index_form}
use Rattle.sst_meta.specs.Meta.{Meta}
use Rattle.sst_meta.specs.declared.loading.Loaded.{Loaded}
use Rattle.sst_bbt_spec.specs.IndexLeads.{SaysPairs, LeadToParts}
use Rattle.sst_bbt_spec.specs.Parts.{Part}
use Rattle.sst_bbt_spec.specs.PartRuns.{PartsRun}

-- The file opens to these parts: what it says of itself and all its blocks are good. Nothing is said of the separators:
-- where they don't separate, the file opens, and a target leads where its index does (PartWay).
-- Pinned by: a_file_opens_or_fails, a_file_stands_for_one_list
pub record Opens (file : List ℕ) (parts : List Part) : Type 0 where
  pub loaded : Loaded
  pub meta : Meta file loaded
  pub pairs : List IndexPair
  pub top : SaysPairs file (footer_start file) (index_form loaded.props) loaded.footer.index pairs
  pub lead : LeadToParts file (footer_start file) (index_form loaded.props) pairs parts

-- the file stands for the list: it opens to parts through which the list runs
-- Pinned by: what_a_file_stands_for_is_ordered, written_file_stands_for_its_list, a_separated_file_stands
pub record BlockBased (file : List ℕ) (entries : List Entry) : Type 0 where
  pub parts : List Part
  pub opens : Opens file parts
  pub runs : PartsRun parts entries
