-- Small trees to try the ways on, worked out by hand.
-- Own.
use Rattle.std.specs.Prelude.{ℕ, List, [], ◌∷◌, Ok, Err}
use Rattle.sst_key.specs.declared.entries.Kind.TheVariants.{Value}
use Rattle.sst_key.specs.declared.entries.Entry.{Entry}
use Rattle.sst_bbt_spec.specs.Way.{IndexedBlock}
use Rattle.sst_bbt_spec.specs.Parts.{Part}
use Rattle.sst_bbt_spec.specs.FoundParts.{FoundBlock, FoundPart}

-- the entry of a user key of one byte, with this sequence number
-- Pinned by: the_tree_decides
abbrev pub entry_at : ℕ → ℕ → Entry
entry_at byte seq = record { user = byte ∷ []; seq = seq; kind = Value; value = [] }

-- the separator of a user key of one byte: its stored key with tag 0
-- Pinned by: the_tree_decides
abbrev pub separator_at : ℕ → List ℕ
separator_at byte = byte ∷ 0 ∷ 0 ∷ 0 ∷ 0 ∷ 0 ∷ 0 ∷ 0 ∷ 0 ∷ []

-- a block of one entry, whose separator has the entry's user key
-- Pinned by: the_tree_decides
abbrev pub block_at : ℕ → ℕ → IndexedBlock
block_at byte seq = record { separator = separator_at byte; entries = entry_at byte seq ∷ [] }

-- The separators of the top block are 6d and 7a. Under 6d stands 61, and under 7a stand 62 and 7a, of which 62 belongs
-- before 6d: so the separators don't separate.
-- Pinned by: the_tree_decides
abbrev pub crossed_tree : List Part
crossed_tree =
    record { separator = separator_at 109; blocks = block_at 97 1 ∷ [] }
    ∷ record { separator = separator_at 122; blocks = block_at 98 1 ∷ block_at 122 1 ∷ [] } ∷ []

-- the three blocks of this tree, side by side under their own separators
-- Pinned by: the_tree_decides
abbrev pub crossed_blocks : List IndexedBlock
crossed_blocks = block_at 97 1 ∷ block_at 98 1 ∷ block_at 122 1 ∷ []

-- 61 and 62, stored with sequence number 0, as a file keeps them that is then stamped
-- Pinned by: the_tree_decides.marked_seek
abbrev pub stamped_tree : List Part
stamped_tree =
    record { separator = separator_at 97; blocks = block_at 97 0 ∷ [] } ∷ record { separator = separator_at 98; blocks = block_at 98 0 ∷ [] } ∷ []

-- a data block of one entry as it is found
-- Pinned by: a_fault_ends_the_way
abbrev pub found_at : ℕ → FoundBlock ℕ
found_at byte = record { separator = separator_at byte; entries = Ok (entry_at byte 1 ∷ []); misplaced = 1; repeated = 2 }

-- a part with the row 61 under the top separator 61, and under 6d a part with fault 7
-- Pinned by: a_fault_ends_the_way
abbrev pub broken_part : List (FoundPart ℕ)
broken_part =
    record { separator = separator_at 97; blocks = Ok (found_at 97 ∷ []); misplaced = 3 }
    ∷ record { separator = separator_at 109; blocks = Err 7; misplaced = 4 } ∷ []

-- a part with a data block that has fault 8, and the row 62 behind it
-- Pinned by: a_fault_ends_the_way
abbrev pub broken_block : List (FoundPart ℕ)
broken_block =
    record {
      separator = separator_at 98;
      blocks = Ok (record { separator = separator_at 97; entries = Err 8; misplaced = 5; repeated = 6 } ∷ found_at 98 ∷ []);
      misplaced = 9;
    }
    ∷ []
