-- What a block-based file says of itself where nothing is wrong: the footer, the metaindex and the properties.
-- RocksDB: table/format.h (Footer), table/meta_blocks.h (MetaIndexBuilder, PropertyBlockBuilder),
-- include/rocksdb/table_properties.h; wiki page "Rocksdb BlockBasedTable Format". For now it isn't said of a file with a
-- global sequence number.
-- Pinned by: a_file_loads_as_it_says
use Rattle.std.specs.Prelude.{◌≡◌, ◌⊎◌, ℕ, ◌^◌, ◌<◌, List, length, Option, None, Some, IfSome}
use Rattle.sst_num.specs.Spelling.{fixed, varint, handle_spelling}
use Rattle.sst_num.specs.declared.block_handle.Handle.{Handle}
use Rattle.sst_block.specs.declared.row_form.RowForm.TheVariants.{Names}
use Rattle.sst_block.specs.Block.{Row, Block}
use Rattle.sst_device.specs.Framed.{Framed}
use Rattle.sst_meta.specs.BlockFooter.{FooterLeads, block_footer, footer_start}
use Rattle.sst_meta.specs.Names.{name_bytes, range_tombstones, comparator, bytewise}
use Rattle.sst_meta.specs.Pairs.{value_of}
use Rattle.sst_meta.specs.declared.name.Name.TheVariants as name
use Rattle.sst_meta.specs.declared.loading.Loaded.{Loaded}

-- the framed block of names and values at a handle
-- RocksDB: table/meta_blocks.cc
pub record HasPairs (file : List ℕ) (end : ℕ) (handle : Handle) (pairs : List Row) : Type 0 where
  pub block : List ℕ
  pub framed : Framed file end handle block
  pub is : Block Names block pairs

-- the metaindex, whose rows have this value or none for the properties, leads to them; without a value there are none
-- RocksDB: table/meta_blocks.cc, FindMetaBlock
abbrev pub LeadsToProps : List ℕ → ℕ → Option (List ℕ) → Option (List Row) → Type 0
LeadsToProps file end None props = props ≡ None
LeadsToProps file end (Some value) None = ⊥
LeadsToProps file end (Some value) (Some props) =
    (handle : Handle) × (value ≡ handle_spelling handle) × HasPairs file end handle props

-- the value is the type of an index: by binary search, by hash, or of two levels
-- RocksDB: include/rocksdb/table.h, IndexType
-- Pinned by: a_file_loads_as_it_says, properties_that_are_good
abbrev pub IsIndexType : List ℕ → Type 0
IsIndexType value = (value ≡ fixed 4 0) ⊎ (value ≡ fixed 4 1) ⊎ (value ≡ fixed 4 2)

-- the value is a flag: the varint of a number of 64 bits, which is set where it isn't 0
-- RocksDB: table/table_properties.cc
-- Pinned by: a_file_loads_as_it_says, properties_that_are_good
abbrev pub IsFlag : List ℕ → Type 0
IsFlag value = (n : ℕ) × (n < 2 ^ 64) × (value ≡ varint n)

-- the properties that a reader looks at have good values, where they are there
-- Own, for now.
-- Pinned by: a_file_loads_as_it_says, properties_that_are_good
pub record AreGood (props : List Row) : Type 0 where
  -- user keys are in bytewise order
  pub comparator_is : IfSome (value_of comparator props) (λ value. value ≡ bytewise)
  -- the index is whole, or in parts
  pub index_type : IfSome (value_of (name_bytes name.IndexType) props) IsIndexType
  -- its separators are stored keys or user keys, and its handles whole or differences
  pub user_key_flag : IfSome (value_of (name_bytes name.IndexKeyIsUserKey) props) IsFlag
  pub delta_flag : IfSome (value_of (name_bytes name.IndexValueIsDeltaEncoded) props) IsFlag
  -- the file has no global sequence number
  pub unmarked : IfSome (value_of (name_bytes name.ExternalVersion) props) (λ value. value ≡ fixed 4 1)

-- The file says this of itself.
pub record Meta (file : List ℕ) (loaded : Loaded) : Type 0 where
  -- a reader takes no longer file
  pub limited : length file < 2 ^ 40
  pub len : loaded.len ≡ length file
  -- it ends in a footer of version 2, 3 or 4, whatever its padding
  pub leads : FooterLeads file (footer_start file) loaded.footer.meta loaded.footer.index
  pub footer : loaded.footer ≡ block_footer leads.version loaded.footer.meta loaded.footer.index
  -- the metaindex
  pub names : HasPairs file (footer_start file) loaded.footer.meta loaded.names
  pub no_tombstones : value_of range_tombstones loaded.names ≡ None
  -- the properties
  pub props : LeadsToProps file (footer_start file) (value_of (name_bytes name.Properties) loaded.names) loaded.props
  pub good : IfSome loaded.props AreGood
