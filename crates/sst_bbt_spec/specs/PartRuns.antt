-- What separates the parts of an index, and the list that runs through them.
-- RocksDB: PartitionedIndexBuilder in table/block_based/index_builder.h, which gives a part the separator of its last
-- row; wiki page "Partitioned Index Filters".
-- Pinned by: what_a_file_stands_for_is_ordered, a_separated_file_stands, a_whole_index_is_parts_of_one_block,
-- the_tree_decides
use Rattle.std.specs.Prelude.{◌≡◌, ◌≢◌, ℕ, List, [], ◌∷◌, map}
use Rattle.std.specs.declared.cmp.Ordering.TheVariants.{Greater}
use Rattle.sst_key.specs.declared.entries.Entry.{Entry}
use Rattle.sst_key.specs.InternalKey.{internal_cmp}
use Rattle.sst_bbt_spec.specs.Way.{IndexedBlock, Separate}
use Rattle.sst_bbt_spec.specs.Runs.{AreSeparated, IsAfterAll}
use Rattle.sst_bbt_spec.specs.Parts.{Part, whole_of, stored_in}

-- the separator of the last of some blocks; `before` where there is none
-- Own.
abbrev pub last_separator : List ℕ → List IndexedBlock → List ℕ
last_separator before [] = before
last_separator before (block ∷ rest) = last_separator block.separator rest

-- the last separator of a part isn't after the part's own separator in the top block
abbrev pub IsWithinTop : Part → Type 0
IsWithinTop part = internal_cmp (last_separator [] part.blocks) part.separator ≢ Greater

-- Within each part the separators stand between the ends of the blocks. The last of them isn't after the part's own
-- separator in the top block, and the first key of the next part is after that.
abbrev pub ArePartsSeparated : List Part → Type 0
ArePartsSeparated [] = Unit {0}
ArePartsSeparated (part ∷ rest) =
    AreSeparated part.blocks × IsWithinTop part × IsAfterAll part.separator (map whole_of rest) × ArePartsSeparated rest

-- the list runs through the parts, which the separators separate
pub record PartsRun (parts : List Part) (entries : List Entry) : Type 0 where
  pub separated : ArePartsSeparated parts
  pub joined_is : stored_in parts ≡ entries

-- the separators of each part separate its blocks
-- Pinned by: the_way_over_parts_is_the_lists
abbrev pub SeparateWithin : List Part → Type 0
SeparateWithin [] = Unit {0}
SeparateWithin (part ∷ rest) = Separate part.blocks × SeparateWithin rest

-- the separators separate: those of each part its blocks, and those of the top block the parts
-- Pinned by: the_way_over_parts_is_the_lists, what_a_file_stands_for_is_ordered
abbrev pub SeparateParts : List Part → Type 0
SeparateParts parts = SeparateWithin parts × Separate (map whole_of parts)
