-- The one block that a builder makes of some rows: a restart at each `interval`-th row, and between them the
-- longest shared fronts. RocksDB: BlockBuilder::Add and Finish in table/block_based/block_builder.cc.
use Rattle.std.specs.Prelude.{ℕ, ◌+◌, ◌%◌, ◌==◌, if◌then◌else◌, List, [], ◌∷◌, ◌++◌, length}
use Rattle.std.specs.List.{flat_map}
use Rattle.sst_block.specs.declared.row_form.RowForm.{RowForm}
use Rattle.sst_block.specs.Block.{Row, Spelled, common, row_spelling, restarts_spelling}

-- the rows as they are spelled; `i` is the number of the first, `before` the key before it
-- Pinned by: each_group_begins_whole, blocks_that_are_built
abbrev pub chosen : ℕ → ℕ → List ℕ → List Row → List Spelled
chosen interval i before [] = []
chosen interval i before (row ∷ rows) =
    record { shared = if i % interval == 0 then 0 else common before row.key; row = row } ∷ chosen interval (i + 1) row.key rows

-- where each `interval`-th row begins; `i` is the number of the first, `at` its place
-- Pinned by: blocks_that_are_built, second_and_third_restarts
abbrev pub restarts_from : RowForm → ℕ → ℕ → ℕ → List Spelled → List ℕ
restarts_from form interval i at [] = []
restarts_from form interval i at (s ∷ rest) =
    (if i % interval == 0 then at ∷ [] else []) ++ restarts_from form interval (i + 1) (at + length (row_spelling form s)) rest

-- the restarts of all rows; a block without rows has the one restart 0
-- Pinned by: sound_blocks, chosen_block_stands_for_its_rows
abbrev pub restarts_of : RowForm → ℕ → List Spelled → List ℕ
restarts_of form interval [] = 0 ∷ []
restarts_of form interval (s ∷ rest) = restarts_from form interval 0 0 (s ∷ rest)

-- the bytes of the block
-- Pinned by: blocks_that_are_built, chosen_block_stands_for_its_rows
unfoldable pub block_of : RowForm → ℕ → List Row → List ℕ
block_of form interval rows =
    let spelled = chosen interval 0 [] rows in
    flat_map (row_spelling form) spelled ++ restarts_spelling (restarts_of form interval spelled)
