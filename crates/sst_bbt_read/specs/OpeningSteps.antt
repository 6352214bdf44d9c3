-- The steps of opening a block-based file, in the order in which they are taken: those of loading it; the top block of its
-- index; then each part of the index, and behind it the data blocks to which its rows lead. What fails at each is told by
-- what stands in the file: a step fails or not whatever else fails, but no block is known before the file says of itself
-- what it must. The fault that is read is the one of the first step that fails.
-- RocksDB: BlockBasedTable::Open and NewDataBlockIterator in table/block_based/block_based_table_reader.cc. For now all data
-- blocks are read when a file is opened.
-- Pinned by: the_fault_of_opening_is_the_first
use Rattle.std.specs.Prelude.{◌≡◌, ◌⊎◌, ℕ, ◌+◌, ◌<◌, List}
use Rattle.sst_num.specs.declared.block_handle.Handle.{Handle}
use Rattle.sst_block.specs.declared.row_form.RowForm.TheVariants.{Entries, Index}
use Rattle.sst_meta.specs.BlockFooter.{footer_start}
use Rattle.sst_meta.specs.LoadSteps.{LoadStep, number_of, FailsAt}
use Rattle.sst_meta.specs.declared.index_form.IndexForm.{IndexForm}
use Rattle.sst_meta.specs.declared.meta_fault.MetaFault.{MetaFault}
use Rattle.sst_bbt_spec.specs.Reached.{HasTop, LeadsToPart, LeadsToData}
use Rattle.sst_bbt_read.specs.OpeningFaults.{BlockFails, SomeBlockFails}
use Rattle.sst_bbt_read.specs.declared.bbt_fault.BbtFault.{BbtFault}
use Rattle.sst_bbt_read.specs.declared.bbt_fault.BbtFault.TheVariants as bbt

-- the steps: a step of loading; the top block; a part, by the number of its row in the top block; a data block, by the
-- numbers of its part and of its row there
pub data OpenStep : Type 0 where
  loading : LoadStep → OpenStep
  top_block : OpenStep
  part_block : ℕ → OpenStep
  data_block : ℕ → ℕ → OpenStep

-- the part of the file that a step looks at, by a number: what the file says of itself, the top block, a part with its
-- data blocks
abbrev pub part_of : OpenStep → ℕ
part_of (loading step) = 0
part_of top_block = 1
part_of (part_block i) = i + 2
part_of (data_block i j) = i + 2

-- the number of a step among those of its part
abbrev pub check_of : OpenStep → ℕ
check_of (loading step) = number_of step
check_of top_block = 0
check_of (part_block i) = 0
check_of (data_block i j) = j + 1

-- a step is taken before another
abbrev pub IsEarlier : OpenStep → OpenStep → Type 0
IsEarlier a b = (part_of a < part_of b) ⊎ ((part_of a ≡ part_of b) × (check_of a < check_of b))

-- at this step opening the file fails with the fault
abbrev pub OpeningFailsAt : List ℕ → OpenStep → BbtFault → Type 0
OpeningFailsAt file (loading step) fault = (wrong : MetaFault) × (fault ≡ bbt.Meta wrong) × FailsAt file step wrong
OpeningFailsAt file top_block fault =
    (form : IndexForm) × (h : Handle) × HasTop file form h × BlockFails (Index form.user_key form.delta) file (footer_start file) h fault
OpeningFailsAt file (part_block i) fault =
    (form : IndexForm) × (h : Handle) × LeadsToPart file form i h
    × SomeBlockFails (Index form.user_key form.delta) file (footer_start file) h fault
OpeningFailsAt file (data_block i j) fault =
    (form : IndexForm) × (h : Handle) × LeadsToData file form i j h × SomeBlockFails Entries file (footer_start file) h fault

-- opening the file fails with the fault at this step, and no earlier step fails
pub record OpeningFailsFirst (file : List ℕ) (step : OpenStep) (fault : BbtFault) : Type 0 where
  pub fails : OpeningFailsAt file step fault
  pub first : (earlier : OpenStep) (other : BbtFault) → IsEarlier earlier step → OpeningFailsAt file earlier other → ⊥

-- the file shows the fault: opening fails with it at a step, be it the first or a later one
-- RocksDB: Status::Corruption and Status::NotSupported of BlockBasedTable::Open and of its iterators
-- Pinned by: a_file_that_opens_shows_no_fault
abbrev pub Shows : List ℕ → BbtFault → Type 0
Shows file fault = (step : OpenStep) × OpeningFailsAt file step fault
