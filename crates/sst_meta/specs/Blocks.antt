-- Reading the framed block of rows that a handle leads to: first its frame, then its rows.
-- RocksDB: BlockFetcher::ReadBlockContents in table/block_fetcher.cc, and Block in table/block_based/block.cc.
-- Pinned by: a_file_loads_as_it_says, a_metaindex_that_is_a_fault
use Rattle.std.specs.Prelude.{ℕ, List, map, Result, Ok, Err}
use Rattle.sst_num.specs.declared.block_handle.Handle.{Handle}
use Rattle.sst_block.specs.declared.row_form.RowForm.{RowForm}
use Rattle.sst_block.specs.declared.fault.BlockFault.{BlockFault}
use Rattle.sst_block.specs.Block.{Row, Spelled}
use Rattle.sst_block.specs.BlockReading.{block_read}
use Rattle.sst_device.specs.FrameReading.{frame_read}
use Rattle.sst_device.specs.declared.frame.FrameFault.{FrameFault}

-- the next step, if the one before found no fault
-- Own.
abbrev pub then_open : {A B F : Type 0} → Result A F → (A → Result B F) → Result B F
then_open (Ok x) next = next x
then_open (Err fault) next = Err fault

-- the same with the fault as a fault of another type
-- Own.
abbrev pub as_fault : {A F G : Type 0} → (F → G) → Result A F → Result A G
as_fault f (Ok x) = Ok x
as_fault f (Err fault) = Err (f fault)

-- the rows without how they are spelled
-- Own.
-- Pinned by: a_file_loads_as_it_says
abbrev pub rows_in : List Spelled → List Row
rows_in spelled = map (λ (s : Spelled). s.row) spelled

-- the rows of a block, or its first fault
-- Pinned by: a_metaindex_that_is_a_fault, properties_that_are_faults
abbrev pub rows_checked : {F : Type 0} → (BlockFault → F) → RowForm → List ℕ → Result (List Row) F
rows_checked block form bytes =
    then_open (as_fault block (block_read form bytes)) (λ spelled. Ok (rows_in spelled))

-- the framed block at a handle, and its rows in a form; faults are named by the functions. `end` is the file's length
-- without its footer.
-- Pinned by: a_file_loads_as_it_says, properties_that_are_faults
abbrev pub block_at : {F : Type 0} → (FrameFault → F) → (BlockFault → F) → RowForm → List ℕ → ℕ → Handle → Result (List Row) F
block_at frame block form file end h =
    then_open (as_fault frame (frame_read file end h)) (rows_checked block form)
