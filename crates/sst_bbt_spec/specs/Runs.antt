-- Where separators stand: between the last key of their block and the first key of the next.
-- RocksDB: IndexBuilder in table/block_based/index_builder.h, which says what a separator separates.
-- Pinned by: what_a_file_stands_for_is_ordered, written_file_stands_for_its_list, a_separated_file_stands
use Rattle.std.specs.Prelude.{◌≡◌, ◌≢◌, ℕ, List, [], ◌∷◌}
use Rattle.std.specs.declared.cmp.Ordering.TheVariants.{Less, Greater}
use Rattle.sst_key.specs.declared.entries.Entry.{Entry}
use Rattle.sst_key.specs.Entry.{key_of}
use Rattle.sst_key.specs.InternalKey.{internal_cmp}
use Rattle.sst_block.specs.Builder.{last_key}
use Rattle.sst_bbt_spec.specs.Rows.{rows_of}
use Rattle.sst_bbt_spec.specs.Way.{IndexedBlock}

-- the first key of the block is after the separator of the block before
abbrev pub BeginsAfter : List ℕ → List Entry → Type 0
BeginsAfter separator [] = Unit {0}
BeginsAfter separator (e ∷ rest) = internal_cmp separator (key_of e) ≡ Less

-- the same of the first of some blocks
abbrev pub IsAfterAll : List ℕ → List IndexedBlock → Type 0
IsAfterAll separator [] = Unit {0}
IsAfterAll separator (block ∷ rest) = BeginsAfter separator block.entries

-- the last key of each block isn't after its separator, and the first key of the next block is
abbrev pub AreSeparated : List IndexedBlock → Type 0
AreSeparated [] = Unit {0}
AreSeparated (block ∷ rest) =
    (internal_cmp (last_key [] (rows_of block.entries)) block.separator ≢ Greater) × IsAfterAll block.separator rest × AreSeparated rest
