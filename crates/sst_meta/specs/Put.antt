-- What is put at the end of a file, the properties block, the metaindex block that leads to it and the footer; and what is
-- loaded of such a file.
-- RocksDB: BlockBasedTableBuilder::Finish with WritePropertiesBlock and WriteFooter in
-- table/block_based/block_based_table_builder.cc; PropertyBlockBuilder and MetaIndexBuilder in table/meta_blocks.cc.
-- Pinned by: what_is_put_is_loaded
use Rattle.std.specs.Prelude.{ℕ, ◌+◌, ◌≤◌, List, [], ◌∷◌, ◌++◌, length, Some, All}
use Rattle.sst_num.specs.Spelling.{handle_spelling}
use Rattle.sst_num.specs.declared.block_handle.Handle.{Handle}
use Rattle.sst_key.specs.Limits.{block_limit}
use Rattle.sst_block.specs.declared.row_form.RowForm.TheVariants.{Names}
use Rattle.sst_block.specs.Block.{Row, IsRow, AreOrdered}
use Rattle.sst_block.specs.Chosen.{block_of}
use Rattle.sst_device.specs.Framed.{frame_of}
use Rattle.sst_meta.specs.BlockFooter.{block_footer}
use Rattle.sst_meta.specs.Builder.{props_interval}
use Rattle.sst_meta.specs.Footer.{footer_spelling}
use Rattle.sst_meta.specs.Meta.{AreGood}
use Rattle.sst_meta.specs.Names.{name_bytes}
use Rattle.sst_meta.specs.declared.footer.Footer.{Footer}
use Rattle.sst_meta.specs.declared.loading.Loaded.{Loaded}
use Rattle.sst_meta.specs.declared.name.Name.TheVariants as name

-- the properties block, which a builder of such blocks makes
abbrev pub props_for : List Row → List ℕ
props_for pairs = block_of Names props_interval pairs

-- the rows of the metaindex, which is one: it leads to the properties block, which stands at this place
abbrev pub metaindex_for : ℕ → List Row → List Row
metaindex_for at pairs =
    record {
      key = name_bytes name.Properties;
      value = handle_spelling (record { offset = at; size = length (props_for pairs) });
    } ∷ []

-- the metaindex block, with a restart at each row
abbrev pub metaindex_block : ℕ → List Row → List ℕ
metaindex_block at pairs = block_of Names 1 (metaindex_for at pairs)

-- where the metaindex block stands: behind the stored properties block
abbrev pub metaindex_place : ℕ → List Row → Handle
metaindex_place at pairs = record { offset = at + length (props_for pairs) + 5; size = length (metaindex_block at pairs) }

-- the footer, with the handle of the index
abbrev pub footer_for : ℕ → ℕ → Handle → List Row → Footer
footer_for at version index pairs = block_footer version (metaindex_place at pairs) index

-- the end of a file from the properties block on, which stands at this place
abbrev pub ending_of : ℕ → ℕ → Handle → List Row → List ℕ
ending_of at version index pairs =
    frame_of (props_for pairs) ++ (frame_of (metaindex_block at pairs) ++ footer_spelling (footer_for at version index pairs))

-- the file: what stands before the properties block, and this end
abbrev pub file_with : List ℕ → ℕ → Handle → List Row → List ℕ
file_with front version index pairs = front ++ ending_of (length front) version index pairs

-- what is loaded of it: its length, that footer, that row, the properties
-- RocksDB: BlockBasedTable::Open
abbrev pub loaded_with : List ℕ → ℕ → Handle → List Row → Loaded
loaded_with front version index pairs =
    record {
      len = length (file_with front version index pairs);
      footer = footer_for (length front) version index pairs;
      names = metaindex_for (length front) pairs;
      props = Some pairs;
    }

-- the pairs are properties that are read again: their names are in bytewise order and aren't too long, their block is
-- short, and the values that a reader looks at are good
-- Own.
pub record AreProps (pairs : List Row) : Type 0 where
  pub forms : All (IsRow Names) pairs
  pub ordered : AreOrdered Names pairs
  pub short : length (props_for pairs) ≤ block_limit
  pub good : AreGood pairs
