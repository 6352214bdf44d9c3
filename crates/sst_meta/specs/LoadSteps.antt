-- The steps of loading a table file, numbered in the order in which they are taken, and what fails at each, told by what
-- stands in the file. A step fails or not whatever else fails. The fault that is read is the one of the first step that
-- fails.
-- RocksDB: BlockBasedTable::Open in table/block_based/block_based_table_reader.cc, Footer::DecodeFrom in table/format.cc
-- and ReadTableProperties in table/meta_blocks.cc. The order among the properties is this project's own.
-- Pinned by: the_fault_of_loading_is_the_first
use Rattle.std.specs.Prelude.{◌≡◌, ◌⊎◌, ℕ, ◌<◌, List}
use Rattle.sst_num.specs.declared.block_handle.Handle.{Handle}
use Rattle.sst_block.specs.declared.row_form.RowForm.TheVariants.{Names}
use Rattle.sst_block.specs.declared.fault.BlockFault.{BlockFault}
use Rattle.sst_block.specs.FirstFault.{IsFirstFault}
use Rattle.sst_device.specs.Framed.{Framed}
use Rattle.sst_device.specs.FrameFaults.{IsFrameFault}
use Rattle.sst_device.specs.declared.frame.FrameFault.{FrameFault}
use Rattle.sst_meta.specs.BlockFooter.{FooterLeads, IsOtherTable}
use Rattle.sst_meta.specs.MetaFaults.{PropsLead, IsOtherForm, ShowsMeta}
use Rattle.sst_meta.specs.declared.name.Name.TheVariants as name
use Rattle.sst_meta.specs.declared.meta_fault.MetaFault.{MetaFault}
use Rattle.sst_meta.specs.declared.meta_fault.MetaFault.TheVariants as meta

-- the steps: the file's length, its end, the metaindex, the block of properties, and the properties that are looked at
pub data LoadStep : Type 0 where
  file_length : LoadStep
  magic_number : LoadStep
  kind_of_table : LoadStep
  format_version : LoadStep
  checksum_type : LoadStep
  footer_handles : LoadStep
  metaindex_frame : LoadStep
  metaindex_rows : LoadStep
  no_tombstones : LoadStep
  props_handle : LoadStep
  props_frame : LoadStep
  props_rows : LoadStep
  key_order : LoadStep
  index_type : LoadStep
  global_sequence : LoadStep
  external_version : LoadStep
  user_key_flag : LoadStep
  delta_flag : LoadStep
  form_is_read : LoadStep

-- the number of a step: of two steps the one with the lesser number is taken first
abbrev pub number_of : LoadStep → ℕ
number_of file_length = 0
number_of magic_number = 1
number_of kind_of_table = 2
number_of format_version = 3
number_of checksum_type = 4
number_of footer_handles = 5
number_of metaindex_frame = 6
number_of metaindex_rows = 7
number_of no_tombstones = 8
number_of props_handle = 9
number_of props_frame = 10
number_of props_rows = 11
number_of key_order = 12
number_of index_type = 13
number_of global_sequence = 14
number_of external_version = 15
number_of user_key_flag = 16
number_of delta_flag = 17
number_of form_is_read = 18

-- the fault is this one, and the file shows it
-- Own.
abbrev pub IsShown : List ℕ → MetaFault → MetaFault → Type 0
IsShown file fault shown = (fault ≡ shown) × ShowsMeta file shown

-- the block at the handle isn't framed: the fault is the first thing that is wrong with its frame
-- Own.
abbrev pub IsFrameWrong : List ℕ → ℕ → Handle → MetaFault → Type 0
IsFrameWrong file end h fault = (wrong : FrameFault) × (fault ≡ meta.Frame wrong) × IsFrameFault file end h wrong

-- the block at the handle is framed: the fault is the first of its bytes as a block of names
-- Own.
abbrev pub IsBlockWrong : List ℕ → ℕ → Handle → MetaFault → Type 0
IsBlockWrong file end h fault =
    (wrong : BlockFault) × (block : List ℕ) × (fault ≡ meta.Block h wrong) × Framed file end h block × IsFirstFault Names block wrong

-- at this step loading the file fails with the fault
abbrev pub FailsAt : List ℕ → LoadStep → MetaFault → Type 0
FailsAt file file_length fault = IsShown file fault meta.FileLong
FailsAt file magic_number fault = IsShown file fault meta.NotTable
FailsAt file kind_of_table fault = (fault ≡ meta.NotYet) × IsOtherTable file
FailsAt file format_version fault = (version : ℕ) × IsShown file fault (meta.Version version)
FailsAt file checksum_type fault = (kind : ℕ) × IsShown file fault (meta.ChecksumType kind)
FailsAt file footer_handles fault = IsShown file fault meta.BadFooter
FailsAt file metaindex_frame fault =
    (end : ℕ) × (h : Handle) × (index : Handle) × FooterLeads file end h index × IsFrameWrong file end h fault
FailsAt file metaindex_rows fault =
    (end : ℕ) × (h : Handle) × (index : Handle) × FooterLeads file end h index × IsBlockWrong file end h fault
FailsAt file no_tombstones fault = IsShown file fault meta.RangeTombstones
FailsAt file props_handle fault = IsShown file fault (meta.BadProperty name.Properties)
FailsAt file props_frame fault = (end : ℕ) × (h : Handle) × PropsLead file end h × IsFrameWrong file end h fault
FailsAt file props_rows fault = (end : ℕ) × (h : Handle) × PropsLead file end h × IsBlockWrong file end h fault
FailsAt file key_order fault = IsShown file fault meta.Comparator
FailsAt file index_type fault =
    IsShown file fault (meta.BadProperty name.IndexType) ⊎ ((type : ℕ) × IsShown file fault (meta.IndexType type))
FailsAt file global_sequence fault =
    IsShown file fault (meta.MissingProperty name.GlobalSequence) ⊎ IsShown file fault (meta.BadProperty name.GlobalSequence)
FailsAt file external_version fault = IsShown file fault (meta.BadProperty name.ExternalVersion)
FailsAt file user_key_flag fault = IsShown file fault (meta.BadProperty name.IndexKeyIsUserKey)
FailsAt file delta_flag fault = IsShown file fault (meta.BadProperty name.IndexValueIsDeltaEncoded)
FailsAt file form_is_read fault = (fault ≡ meta.NotYet) × IsOtherForm file

-- loading the file fails with the fault at this step, and no earlier step fails
pub record FailsFirst (file : List ℕ) (step : LoadStep) (fault : MetaFault) : Type 0 where
  pub fails : FailsAt file step fault
  pub first : (earlier : LoadStep) (other : MetaFault) → number_of earlier < number_of step → FailsAt file earlier other → ⊥
