-- Where a writer ends the data blocks of a list: a block that has an entry and as many bytes as the option says is ended
-- before the next entry is added.
-- RocksDB: FlushBlockBySizePolicy::Update in table/block_based/flush_block_policy.cc; option `block_size` in
-- include/rocksdb/table.h. RocksDB also looks ahead to the next entry; ending a block by what it has alone is this
-- project's own.
-- Pinned by: a_list_is_cut_where_blocks_are_full
use Rattle.std.specs.Prelude.{◌≡◌, ℕ, ◌<◌, ◌&&◌, nat_lt, nat_le, Bool, if◌then◌else◌, List, [], ◌∷◌, ◌++◌, length, IsTrue}
use Rattle.sst_key.specs.declared.entries.Entry.{Entry}
use Rattle.sst_block.specs.declared.row_form.RowForm.TheVariants.{Entries}
use Rattle.sst_block.specs.Chosen.{block_of}
use Rattle.sst_bbt_spec.specs.Rows.{rows_of}
use Rattle.sst_bbt_write.specs.declared.bbt_options.BbtOptions.{BbtOptions}

-- a data block: a restart at each so many entries
-- RocksDB: include/rocksdb/table.h, block_restart_interval
-- Pinned by: second_and_third_restarts, files_of_other_intervals
abbrev pub data_block : BbtOptions → List Entry → List ℕ
data_block options entries = block_of Entries options.restart (rows_of entries)

-- the blocks that were ended, and the entries of the one that wasn't
-- Own.
-- Pinned by: forty_entries
pub record Blocks : Type 0 where
  pub ended : List (List Entry)
  pub current : List Entry

-- the block has an entry, and so many bytes or more
-- Pinned by: a_block_for_each_version, forty_entries
abbrev pub is_full : BbtOptions → List Entry → Bool
is_full options block = nat_lt 0 (length block) && nat_le options.block_size (length (data_block options block))

-- one entry more
-- Pinned by: a_list_is_cut_where_blocks_are_full, forty_entries
abbrev pub add_entry : BbtOptions → Blocks → Entry → Blocks
add_entry options blocks e =
    if is_full options blocks.current
    then record { ended = blocks.ended ++ blocks.current ∷ []; current = e ∷ [] }
    else record { ended = blocks.ended; current = blocks.current ++ e ∷ [] }

-- a list of entries, one by one
-- Pinned by: a_list_is_cut_where_blocks_are_full, forty_entries
abbrev pub cut_from : BbtOptions → Blocks → List Entry → Blocks
cut_from options blocks [] = blocks
cut_from options blocks (e ∷ rest) = cut_from options (add_entry options blocks e) rest

unfoldable pub cut_of : BbtOptions → List Entry → Blocks
cut_of options entries = cut_from options (record { ended = []; current = [] }) entries

-- the current block is ended with the list, if it has an entry
-- RocksDB: Finish
-- Pinned by: a_list_is_cut_where_blocks_are_full, worked_files
abbrev pub ended_all : Blocks → List (List Entry)
ended_all blocks = blocks.ended ++ (if nat_lt 0 (length blocks.current) then blocks.current ∷ [] else [])

-- the data blocks of a list
-- RocksDB: Finish
-- Pinned by: a_list_is_cut_where_blocks_are_full, worked_files
unfoldable pub blocks_for : BbtOptions → List Entry → List (List Entry)
blocks_for options entries = ended_all (cut_of options entries)

-- all entries of some blocks
-- Own.
abbrev pub entries_in : List (List Entry) → List Entry
entries_in [] = []
entries_in (block ∷ rest) = block ++ entries_in rest

-- no front of the block that is shorter than it is full
-- Own.
abbrev pub IsLean : BbtOptions → List Entry → Type 0
IsLean options block = (front back : List Entry) → block ≡ front ++ back → 0 < length back → IsTrue (is_full options front) → ⊥

-- The blocks in their own words: each has an entry, none has an entry more than it takes to be full, and each but the
-- last is full.
-- Own.
abbrev pub AreBlocks : BbtOptions → List (List Entry) → Type 0
AreBlocks options [] = Unit {0}
AreBlocks options (block ∷ []) = (0 < length block) × IsLean options block
AreBlocks options (block ∷ next ∷ rest) = IsTrue (is_full options block) × IsLean options block × AreBlocks options (next ∷ rest)
