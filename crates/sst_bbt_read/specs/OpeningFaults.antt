-- The first fault of a block-based file that doesn't open, told by what stands in the file: what it says of itself; then the
-- top block of its index; then each part of the index in turn, and behind each part its data blocks. Each block is framed
-- before it is read, and whatever comes before a fault is good.
-- RocksDB: BlockBasedTable::Open and NewDataBlockIterator in table/block_based/block_based_table_reader.cc. For now all data
-- blocks are read when a file is opened.
-- Pinned by: a_file_opens_or_fails, a_file_that_opens_shows_no_fault, the_fault_of_opening_is_the_first
use Rattle.std.specs.Prelude.{◌≡◌, ◌⊎◌, ℕ, Bool, true, false, List, [], ◌∷◌, Err}
use Rattle.sst_num.specs.declared.block_handle.Handle.{Handle}
use Rattle.sst_key.specs.declared.entries.Entry.{Entry}
use Rattle.sst_block.specs.declared.row_form.RowForm.{RowForm}
use Rattle.sst_block.specs.declared.row_form.RowForm.TheVariants.{Entries, Index}
use Rattle.sst_block.specs.declared.fault.BlockFault.{BlockFault}
use Rattle.sst_block.specs.Block.{Block}
use Rattle.sst_block.specs.FirstFault.{IsFirstFault}
use Rattle.sst_block.specs.IndexRows.{IndexPair}
use Rattle.sst_device.specs.Framed.{Framed}
use Rattle.sst_device.specs.FrameFaults.{IsFrameFault}
use Rattle.sst_device.specs.declared.frame.FrameFault.{FrameFault}
use Rattle.sst_meta.specs.BlockFooter.{footer_start}
use Rattle.sst_meta.specs.IndexForms.{index_form}
use Rattle.sst_meta.specs.LoadReading.{load_read}
use Rattle.sst_meta.specs.Meta.{Meta}
use Rattle.sst_meta.specs.declared.index_form.IndexForm.{IndexForm}
use Rattle.sst_meta.specs.declared.loading.Loaded.{Loaded}
use Rattle.sst_meta.specs.declared.meta_fault.MetaFault.{MetaFault}
use Rattle.sst_bbt_spec.specs.IndexLeads.{HoldsEntries, SaysPairs, HoldsPairs, LeadsWithin}
use Rattle.sst_bbt_spec.specs.Way.{IndexedBlock}
use Rattle.sst_bbt_read.specs.declared.bbt_fault.BbtFault.{BbtFault}
use Rattle.sst_bbt_read.specs.declared.bbt_fault.BbtFault.TheVariants as bbt

-- ---- one block

-- the block at the handle isn't framed: the fault is the first thing that is wrong with its frame
-- RocksDB: table/block_fetcher.cc
abbrev pub IsFrameWrong : List ℕ → ℕ → Handle → BbtFault → Type 0
IsFrameWrong file end h fault = (wrong : FrameFault) × (fault ≡ bbt.Frame wrong) × IsFrameFault file end h wrong

-- the block at the handle is framed: the fault is the first of its bytes as a block of the form
-- RocksDB: table/block_based/block.cc
abbrev pub IsBlockWrong : RowForm → List ℕ → ℕ → Handle → BbtFault → Type 0
IsBlockWrong form file end h fault =
    (wrong : BlockFault) × (block : List ℕ) × (fault ≡ bbt.Block h wrong) × Framed file end h block × IsFirstFault form block wrong

-- the block at the handle is one of the form without a row, which is the fault
-- Own.
abbrev pub IsBlockEmpty : RowForm → List ℕ → ℕ → Handle → BbtFault → Type 0
IsBlockEmpty form file end h fault = (block : List ℕ) × (fault ≡ bbt.EmptyBlock h) × Framed file end h block × Block form block []

-- the block at the handle isn't a framed block of the form
abbrev pub BlockFails : RowForm → List ℕ → ℕ → Handle → BbtFault → Type 0
BlockFails form file end h fault = IsFrameWrong file end h fault ⊎ IsBlockWrong form file end h fault

-- the block at the handle isn't a framed block of the form that has a row
abbrev pub SomeBlockFails : RowForm → List ℕ → ℕ → Handle → BbtFault → Type 0
SomeBlockFails form file end h fault = BlockFails form file end h fault ⊎ IsBlockEmpty form file end h fault

-- ---- the tree

-- of the data blocks to which the rows of an index block lead, the first that isn't good has the fault
abbrev pub BlocksFail : List ℕ → ℕ → List IndexPair → BbtFault → Type 0
BlocksFail file end [] fault = ⊥
BlocksFail file end (pair ∷ pairs) fault =
    SomeBlockFails Entries file end pair.handle fault
    ⊎ ((entries : List Entry) × HoldsEntries file end pair.handle entries × BlocksFail file end pairs fault)

-- what a row of the top block leads to has the fault: in an index of parts the part, or else the first of its data blocks
-- that isn't good; in a whole index the row's data block
abbrev pub WithinFails : Bool → List ℕ → ℕ → IndexForm → IndexPair → BbtFault → Type 0
WithinFails true file end form pair fault =
    SomeBlockFails (Index form.user_key form.delta) file end pair.handle fault
    ⊎ ((pairs : List IndexPair) × HoldsPairs file end form pair.handle pairs × BlocksFail file end pairs fault)
WithinFails false file end form pair fault = BlocksFail file end (pair ∷ []) fault

-- of what the rows of the top block lead to, the first that isn't good has the fault
abbrev pub PartsFail : List ℕ → ℕ → IndexForm → List IndexPair → BbtFault → Type 0
PartsFail file end form [] fault = ⊥
PartsFail file end form (pair ∷ pairs) fault =
    WithinFails form.parted file end form pair fault
    ⊎ ((blocks : List IndexedBlock) × LeadsWithin form.parted file end form pair blocks × PartsFail file end form pairs fault)

-- the index with its top block at the handle has the fault
abbrev pub TreeFails : List ℕ → ℕ → IndexForm → Handle → BbtFault → Type 0
TreeFails file end form h fault =
    BlockFails (Index form.user_key form.delta) file end h fault
    ⊎ ((pairs : List IndexPair) × SaysPairs file end form h pairs × PartsFail file end form pairs fault)

-- ---- the file

-- the file doesn't say of itself what it must: the fault is what loading it answers
abbrev pub LoadingFails : List ℕ → BbtFault → Type 0
LoadingFails file fault = (wrong : MetaFault) × (fault ≡ bbt.Meta wrong) × (load_read file ≡ Err wrong)

-- the file says of itself what it must, and its index has the fault
abbrev pub IndexFails : List ℕ → BbtFault → Type 0
IndexFails file fault =
    (loaded : Loaded) × Meta file loaded × TreeFails file (footer_start file) (index_form loaded.props) loaded.footer.index fault

-- the file doesn't open: this is its first fault
-- Pinned by: open.told
abbrev pub FailsToOpen : List ℕ → BbtFault → Type 0
FailsToOpen file fault = LoadingFails file fault ⊎ IndexFails file fault
