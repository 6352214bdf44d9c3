-- The tree of a block-based file as a reader keeps it: all entries in one list; for each data block its separator and where
-- its entries end; for each part of the index its separator and where its data blocks end.
-- RocksDB: wiki pages "Rocksdb BlockBasedTable Format" and "Partitioned Index Filters";
-- table/block_based/block_based_table_reader.cc.
-- Pinned by: seek.way
use Rattle.std.specs.Prelude.{◌≡◌, ℕ, zero, suc, ◌-◌, ◌<◌, ◌≤◌, Bool, true, false, List, [], ◌∷◌, length, map, take, drop, All}
use Rattle.sst_key.specs.declared.entries.Entry.{Entry}
use Rattle.sst_key.specs.Entry.{IsOrdered}
use Rattle.sst_key.specs.Limits.{key_limit}
use Rattle.sst_block.specs.declared.row_form.RowForm.TheVariants.{Index}
use Rattle.sst_block.specs.Block.{Row, AreOrdered}
use Rattle.sst_bbt_spec.specs.Parts.{Part}
use Rattle.sst_bbt_spec.specs.Rows.{HasSeq}
use Rattle.sst_bbt_spec.specs.Way.{IndexedBlock}
use Rattle.sst_bbt_read.specs.declared.kept_table.RunEnd.{RunEnd}

-- what a reader keeps of a table: the parts, each by its separator and where its data blocks end; the data blocks, each by
-- its separator and where its entries end; the entries of all; and whether the index is whole, so that each part is one data block
-- Own.
-- Pinned by: open.told
pub record OpenTable : Type 0 where
  pub whole : Bool
  pub tops : List RunEnd
  pub ends : List RunEnd
  pub entries : List Entry

-- the blocks with these ends, the first of which begins at `start`; `entries` are those of the whole table
-- Own.
-- Pinned by: open.told, seek.way
abbrev pub blocks_from : ℕ → List RunEnd → List Entry → List IndexedBlock
blocks_from start [] entries = []
blocks_from start (b ∷ rest) entries =
    record { separator = b.separator; entries = take (b.end - start) (drop start entries) } ∷ blocks_from b.end rest entries

-- the blocks of a table
-- Own.
-- Pinned by: open.told, seek.way
abbrev pub blocks_of : OpenTable → List IndexedBlock
blocks_of table = blocks_from 0 table.ends table.entries

-- the parts with these ends, the first of which begins at `start`; `blocks` are those of the whole table
-- Own.
-- Pinned by: open.told, seek.way
abbrev pub parts_from : ℕ → List RunEnd → List IndexedBlock → List Part
parts_from start [] blocks = []
parts_from start (t ∷ rest) blocks =
    record { separator = t.separator; blocks = take (t.end - start) (drop start blocks) } ∷ parts_from t.end rest blocks

-- the parts of a table
-- Own.
-- Pinned by: open.told, seek.way
abbrev pub parts_of : OpenTable → List Part
parts_of table = parts_from 0 table.tops (blocks_of table)

-- the runs of `count` things: each has one at least, the first begins at `start`, and the last ends at the end
-- Own.
abbrev pub AreEnds : ℕ → List RunEnd → ℕ → Type 0
AreEnds start [] count = start ≡ count
AreEnds start (b ∷ rest) count = (start < b.end) × (b.end ≤ count) × AreEnds b.end rest count

-- where the i-th of the runs begins, the first of which begins at `start`
-- Own.
abbrev pub start_at : ℕ → List RunEnd → ℕ → ℕ
start_at start ends zero = start
start_at start [] (suc i) = start
start_at start (b ∷ rest) (suc i) = start_at b.end rest i

-- the separators of runs
-- Own.
abbrev pub separators_of : List RunEnd → List (List ℕ)
separators_of ends = map (λ (b : RunEnd). b.separator) ends

-- the separators as the keys of index rows
-- Own.
abbrev pub separator_rows : List RunEnd → List Row
separator_rows ends = map (λ (b : RunEnd). record { key = b.separator; value = [] }) ends

-- the separators are stored keys in order
-- Own.
pub record AreSeparators (ends : List RunEnd) : Type 0 where
  pub long : All (λ (b : RunEnd). 8 ≤ length b.separator) ends
  pub ordered : AreOrdered (Index false false) (separator_rows ends)

-- this holds of each part and its data blocks; the first part begins at `start`
-- Own.
abbrev pub EachPart : (RunEnd → List RunEnd → Type 0) → ℕ → List RunEnd → List RunEnd → Type 0
EachPart P start [] ends = Unit {0}
EachPart P start (t ∷ rest) ends = P t (take (t.end - start) (drop start ends)) × EachPart P t.end rest ends

-- the separators of the data blocks of a part are stored keys in order
-- Own.
abbrev pub IsSeparated : RunEnd → List RunEnd → Type 0
IsSeparated part blocks = AreSeparators blocks

-- a part has one data block, and that block's separator
-- Own.
-- Pinned by: parts_taken_as_whole
abbrev pub IsAlone : RunEnd → List RunEnd → Type 0
IsAlone part blocks = separators_of blocks ≡ part.separator ∷ []

-- the entries of a data block: they increase, their sequence numbers are in range, and their user keys aren't longer
-- than one may be
pub record AreEntries (entries : List Entry) : Type 0 where
  pub ordered : IsOrdered entries
  pub seqs : All HasSeq entries
  pub users : All (λ (e : Entry). length e.user ≤ key_limit) entries

-- what a reader keeps of a table: the separators of the parts are stored keys in order, and so are those of the data blocks
-- of each part; in a whole index each part has one data block; the entries of each data block are in order
-- Own.
-- Pinned by: seek.way, seek_for_prev.way
pub record IsOpenTable (table : OpenTable) : Type 0 where
  pub ends : AreEnds 0 table.ends (length table.entries)
  pub tops : AreEnds 0 table.tops (length table.ends)
  pub separators : AreSeparators table.tops
  pub within : EachPart IsSeparated 0 table.tops table.ends
  pub alone : table.whole ≡ true → EachPart IsAlone 0 table.tops table.ends
  pub blocks : All (λ (block : IndexedBlock). AreEntries block.entries) (blocks_of table)
