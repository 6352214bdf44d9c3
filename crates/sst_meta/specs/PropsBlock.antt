-- The block of properties in its own words: one restart, and between names the longest shared fronts.
-- RocksDB: PropertyBlockBuilder in table/meta_blocks.cc, and BlockBuilder::Add in table/block_based/block_builder.cc.
-- Pinned by: properties_have_one_restart
use Rattle.std.specs.Prelude.{ℕ, List, [], ◌∷◌, ◌++◌}
use Rattle.std.specs.List.{flat_map}
use Rattle.sst_num.specs.Spelling.{fixed}
use Rattle.sst_block.specs.declared.row_form.RowForm.TheVariants.{Names}
use Rattle.sst_block.specs.Block.{Row, Spelled, common, row_spelling}

-- each name leaves to the name before it all that they have in common at their fronts; `before` is the name before
abbrev pub sharing : List ℕ → List Row → List Spelled
sharing before [] = []
sharing before (pair ∷ pairs) = record { shared = common before pair.key; row = pair } ∷ sharing pair.key pairs

-- the pairs, then the one restart, which is 0, and that there is one
-- RocksDB: table/block_based/block_builder.cc, Finish
abbrev pub properties_block : List Row → List ℕ
properties_block pairs = flat_map (row_spelling Names) (sharing [] pairs) ++ (fixed 4 0 ++ fixed 4 1)
