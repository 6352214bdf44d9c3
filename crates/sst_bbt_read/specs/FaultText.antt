-- What is printed where a file is damaged: one line, which says what is wrong first. These texts are this project's own.
-- O and S stand for the offset and the size of a block, A for a place in it, V and T for numbers. All
-- are decimal.
-- Pinned by: texts_of_damages, stored_blocks
use Rattle.std.specs.Prelude.{ℕ, List, ◌++◌, codes}
use Rattle.std.specs.Fmt.{decimal}
use Rattle.sst_num.specs.declared.block_handle.Handle.{Handle}
use Rattle.sst_block.specs.declared.fault.BlockFault.{BlockFault}
use Rattle.sst_block.specs.declared.fault.BlockFault.TheVariants.{BadRow, BadRestart, BadFooter, Disorder, BadKind, BadHash, BadHandle}
use Rattle.sst_device.specs.declared.frame.FrameFault.{FrameFault}
use Rattle.sst_device.specs.declared.frame.FrameFault.TheVariants.{OutOfFile, TooLarge, Checksum, Compressed}
use Rattle.sst_meta.specs.Names.{name_bytes}
use Rattle.sst_meta.specs.declared.meta_fault.MetaFault.{MetaFault}
use Rattle.sst_meta.specs.declared.meta_fault.MetaFault.TheVariants as meta
use Rattle.sst_bbt_read.specs.declared.bbt_fault.BbtFault.{BbtFault}
use Rattle.sst_bbt_read.specs.declared.bbt_fault.BbtFault.TheVariants as bbt

-- a name, and a number behind it
abbrev pub with_number : List ℕ → ℕ → List ℕ
with_number name n = name ++ (codes " " ++ decimal n)

-- a name, and two numbers behind it
abbrev pub with_two : List ℕ → ℕ → ℕ → List ℕ
with_two name n m = name ++ (codes " " ++ (decimal n ++ (codes " " ++ decimal m)))

-- a name, and the offset and the size of a block behind it
abbrev pub with_handle : List ℕ → Handle → List ℕ
with_handle name h = with_two name h.offset h.size

-- what is wrong with how a block is stored: `out-of-file O S`, `too-large O S`, `checksum O S`, `compressed O S T`
-- Pinned by: stored_blocks, too_large_blocks
abbrev pub frame_fault_text : FrameFault → List ℕ
frame_fault_text (OutOfFile h) = with_handle (codes "out-of-file") h
frame_fault_text (TooLarge h) = with_handle (codes "too-large") h
frame_fault_text (Checksum h) = with_handle (codes "checksum") h
frame_fault_text (Compressed h type) = with_handle (codes "compressed") h ++ (codes " " ++ decimal type)

-- what is wrong within the block at an offset: `row O A`, `restart O A`, `block-footer O`, `disorder O A`, `kind O A`,
-- `hash O A`, `handle O A`
-- Pinned by: texts_of_damages
abbrev pub block_fault_text : ℕ → BlockFault → List ℕ
block_fault_text offset (BadRow at) = with_two (codes "row") offset at
block_fault_text offset (BadRestart at) = with_two (codes "restart") offset at
block_fault_text offset BadFooter = with_number (codes "block-footer") offset
block_fault_text offset (Disorder at) = with_two (codes "disorder") offset at
block_fault_text offset (BadKind at) = with_two (codes "kind") offset at
block_fault_text offset (BadHash at) = with_two (codes "hash") offset at
block_fault_text offset (BadHandle at) = with_two (codes "handle") offset at

-- what is wrong with what a file says of itself: `not-table`, `version V`, `checksum-type T`, `comparator`, `index-type T`,
-- `range-tombstones`, `property NAME`, `missing-property NAME`, `footer`, `file-long`, `not-yet`, or what is wrong with its
-- metaindex or properties block
-- Pinned by: texts_of_damages, a_file_of_two_to_the_forty_bytes
abbrev pub meta_fault_text : MetaFault → List ℕ
meta_fault_text meta.NotTable = codes "not-table"
meta_fault_text (meta.Version version) = with_number (codes "version") version
meta_fault_text (meta.ChecksumType type) = with_number (codes "checksum-type") type
meta_fault_text meta.Comparator = codes "comparator"
meta_fault_text (meta.IndexType type) = with_number (codes "index-type") type
meta_fault_text meta.RangeTombstones = codes "range-tombstones"
meta_fault_text (meta.BadProperty name) = codes "property " ++ name_bytes name
meta_fault_text (meta.MissingProperty name) = codes "missing-property " ++ name_bytes name
meta_fault_text meta.BadFooter = codes "footer"
meta_fault_text meta.FileLong = codes "file-long"
meta_fault_text (meta.Frame fault) = frame_fault_text fault
meta_fault_text (meta.Block h fault) = block_fault_text h.offset fault
meta_fault_text meta.NotYet = codes "not-yet"

-- what is wrong with a file: that of what it says of itself, that of a block, or `empty-block O S`
-- Pinned by: texts_of_damages
abbrev pub bbt_fault_text : BbtFault → List ℕ
bbt_fault_text (bbt.Meta fault) = meta_fault_text fault
bbt_fault_text (bbt.Frame fault) = frame_fault_text fault
bbt_fault_text (bbt.Block h fault) = block_fault_text h.offset fault
bbt_fault_text (bbt.EmptyBlock h) = with_handle (codes "empty-block") h

-- the line that is printed for a damaged file
-- Pinned by: texts_of_damages
abbrev pub fault_text : BbtFault → List ℕ
fault_text fault = codes "damage " ++ (bbt_fault_text fault ++ codes "\n")
