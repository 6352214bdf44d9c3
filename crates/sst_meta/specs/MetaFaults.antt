-- Which faults a table file shows in what it says of itself: each is one of its end, of a block that the footer or the
-- metaindex leads to, or of a property.
-- RocksDB: Status::Corruption and Status::NotSupported of Footer::DecodeFrom in table/format.cc, of ReadTableProperties in
-- table/meta_blocks.cc, and of BlockBasedTable::Open in table/block_based/block_based_table_reader.cc.
-- Pinned by: a_meta_fault_is_shown
use Rattle.std.specs.Prelude.{◌≡◌, ◌≢◌, ◌⊎◌, ℕ, ◌^◌, ◌<◌, ◌≤◌, List, length, None, Some}
use Rattle.sst_num.specs.Spelling.{fixed, varint, handle_spelling}
use Rattle.sst_num.specs.declared.block_handle.Handle.{Handle}
use Rattle.sst_block.specs.declared.row_form.RowForm.TheVariants.{Names}
use Rattle.sst_block.specs.Block.{Row}
use Rattle.sst_block.specs.FirstFault.{IsFirstFault}
use Rattle.sst_device.specs.Framed.{Framed}
use Rattle.sst_device.specs.FrameFaults.{IsFrameFault}
use Rattle.sst_meta.specs.BlockFooter.{EndsWith, EndsIn, IsTable, IsOtherTable, IsBuilt, FooterLeads}
use Rattle.sst_meta.specs.Footer.{legacy_block_based_magic, AreHandles}
use Rattle.sst_meta.specs.Meta.{HasPairs}
use Rattle.sst_meta.specs.Names.{name_bytes, range_tombstones, comparator, bytewise}
use Rattle.sst_meta.specs.Pairs.{value_of}
use Rattle.sst_meta.specs.declared.name.Name.{Name}
use Rattle.sst_meta.specs.declared.name.Name.TheVariants as name
use Rattle.sst_meta.specs.declared.meta_fault.MetaFault.{MetaFault}
use Rattle.sst_meta.specs.declared.meta_fault.MetaFault.TheVariants as meta

-- the value is a block handle and nothing else
-- RocksDB: table/format.h
abbrev pub IsHandleOf : Handle → List ℕ → Type 0
IsHandleOf handle value = (handle.offset < 2 ^ 64) × (handle.size < 2 ^ 64) × (value ≡ handle_spelling handle)

-- the metaindex of the file has these rows
abbrev pub HasNames : List ℕ → ℕ → List Row → Type 0
HasNames file end names = (metaindex : Handle) × (index : Handle) × FooterLeads file end metaindex index × HasPairs file end metaindex names

-- the metaindex leads to a block of properties at this handle
abbrev pub PropsLead : List ℕ → ℕ → Handle → Type 0
PropsLead file end handle =
    (names : List Row) × (value : List ℕ) × HasNames file end names × (value_of (name_bytes name.Properties) names ≡ Some value)
    × IsHandleOf handle value

-- the file has these properties
abbrev pub HasProps : List ℕ → List Row → Type 0
HasProps file props = (end : ℕ) × (handle : Handle) × PropsLead file end handle × HasPairs file end handle props

-- among the properties of the file this name has this value
abbrev pub HasValue : List ℕ → List ℕ → List ℕ → Type 0
HasValue file name value = (props : List Row) × HasProps file props × (value_of name props ≡ Some value)

-- the footer or the metaindex leads to the block of names and values at this handle
-- Own.
abbrev pub IsMetaReached : List ℕ → ℕ → Handle → Type 0
IsMetaReached file end handle = ((index : Handle) × FooterLeads file end handle index) ⊎ PropsLead file end handle

-- the value of this name is there, and has another form than it must have
-- Own.
abbrev pub IsBadValue : List ℕ → Name → Type 0
IsBadValue file name.Properties =
    (end : ℕ) × (names : List Row) × (value : List ℕ) × HasNames file end names
    × (value_of (name_bytes name.Properties) names ≡ Some value) × ((handle : Handle) → IsHandleOf handle value → ⊥)
IsBadValue file name.IndexType =
    (value : List ℕ) × HasValue file (name_bytes name.IndexType) value × ((type : ℕ) → type < 2 ^ 32 → value ≡ fixed 4 type → ⊥)
IsBadValue file name.GlobalSequence =
    (props : List Row) × (value : List ℕ) × HasProps file props
    × (value_of (name_bytes name.ExternalVersion) props ≡ Some (fixed 4 2))
    × (value_of (name_bytes name.GlobalSequence) props ≡ Some value)
    × ((sequence : ℕ) → sequence < 2 ^ 56 → value ≡ fixed 8 sequence → ⊥)
IsBadValue file name.ExternalVersion =
    (value : List ℕ) × HasValue file (name_bytes name.ExternalVersion) value × (value ≢ fixed 4 1) × (value ≢ fixed 4 2)
IsBadValue file name.IndexKeyIsUserKey =
    (value : List ℕ) × HasValue file (name_bytes name.IndexKeyIsUserKey) value × ((n : ℕ) → n < 2 ^ 64 → value ≡ varint n → ⊥)
IsBadValue file name.IndexValueIsDeltaEncoded =
    (value : List ℕ) × HasValue file (name_bytes name.IndexValueIsDeltaEncoded) value × ((n : ℕ) → n < 2 ^ 64 → value ≡ varint n → ⊥)

-- this name must be there, and isn't: a marked file has the sequence number
-- Own.
abbrev pub IsMissing : List ℕ → Name → Type 0
IsMissing file name.GlobalSequence =
    (props : List Row) × HasProps file props × (value_of (name_bytes name.ExternalVersion) props ≡ Some (fixed 4 2))
    × (value_of (name_bytes name.GlobalSequence) props ≡ None)
IsMissing file name.Properties = ⊥
IsMissing file name.IndexType = ⊥
IsMissing file name.ExternalVersion = ⊥
IsMissing file name.IndexKeyIsUserKey = ⊥
IsMissing file name.IndexValueIsDeltaEncoded = ⊥

-- the properties tell of a form that isn't read yet: the file is marked, so that all its entries have one sequence number
-- Own, for now.
abbrev pub IsOtherForm : List ℕ → Type 0
IsOtherForm file = HasValue file (name_bytes name.ExternalVersion) (fixed 4 2)

-- the file isn't read yet: it is another kind of table, or of such a form
-- Own, for now.
abbrev pub IsNotYet : List ℕ → Type 0
IsNotYet file = IsOtherTable file ⊎ IsOtherForm file

-- the file shows the fault
abbrev pub ShowsMeta : List ℕ → MetaFault → Type 0
ShowsMeta file meta.NotTable = IsTable file → ⊥
ShowsMeta file (meta.Version version) =
    (EndsWith legacy_block_based_magic 48 file × (version ≡ 0))
    ⊎ ((end : ℕ) × (kind : ℕ) × (between : List ℕ) × EndsIn file end kind version between × (IsBuilt version → ⊥))
ShowsMeta file (meta.ChecksumType kind) =
    (end : ℕ) × (version : ℕ) × (between : List ℕ) × EndsIn file end kind version between × IsBuilt version × (kind ≢ 1)
ShowsMeta file meta.BadFooter =
    (end : ℕ) × (version : ℕ) × (between : List ℕ) × EndsIn file end 1 version between × IsBuilt version
    × ((metaindex : Handle) (index : Handle) → AreHandles metaindex index between → ⊥)
ShowsMeta file meta.FileLong = 2 ^ 40 ≤ length file
ShowsMeta file (meta.Frame fault) =
    (end : ℕ) × (handle : Handle) × IsMetaReached file end handle × IsFrameFault file end handle fault
ShowsMeta file (meta.Block handle fault) =
    (end : ℕ) × (block : List ℕ) × IsMetaReached file end handle × Framed file end handle block × IsFirstFault Names block fault
ShowsMeta file meta.RangeTombstones =
    (end : ℕ) × (names : List Row) × (value : List ℕ) × HasNames file end names × (value_of range_tombstones names ≡ Some value)
ShowsMeta file meta.Comparator = (value : List ℕ) × HasValue file comparator value × (value ≢ bytewise)
ShowsMeta file (meta.IndexType type) =
    (2 < type) × (type < 2 ^ 32) × HasValue file (name_bytes name.IndexType) (fixed 4 type)
ShowsMeta file (meta.BadProperty name) = IsBadValue file name
ShowsMeta file (meta.MissingProperty name) = IsMissing file name
ShowsMeta file meta.NotYet = IsNotYet file
