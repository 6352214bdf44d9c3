-- The tree of an index as it is found in a file, with the faults that reading it may meet: a part or a data block is
-- there, or a fault is in its place. Whatever can't be read says nothing of what lies beyond it.
-- RocksDB: BlockBasedTable::NewDataBlockIterator and IndexReaderCommon::GetOrReadIndexBlock in
-- table/block_based/block_based_table_reader.h and index_reader_common.h, whose iterators keep the status of such a
-- fault.
use Rattle.std.specs.Prelude.{◌≡◌, ℕ, ◌+◌, ◌<◌, List, [], ◌∷◌, length, take, slice_get, Option, None, Some, option_and_then, Result, Ok, Err}
use Rattle.sst_key.specs.declared.entries.Entry.{Entry}
use Rattle.sst_bbt_spec.specs.Way.{IndexedBlock, joined}
use Rattle.sst_bbt_spec.specs.Parts.{Part, stored_in}

-- A data block as it is found, under its separator: its stored entries, or the fault that it has. The two faults
-- behind it are those that a walk through the whole file finds there and a call doesn't look for: keys that are on
-- the wrong side of a separator, and a user key that repeats in a file with a mark.
-- Own.
-- Pinned by: a_way_without_a_fault_is_counted, a_fault_ends_the_way
pub record FoundBlock (F : Type 0) : Type 0 where
  pub separator : List ℕ
  pub entries : Result (List Entry) F
  pub misplaced : F
  pub repeated : F

-- A part of the index as it is found: the data blocks to which its rows lead, or the fault that it has; and the fault
-- that a walk finds where its last separator is after its own in the top block.
-- Own.
-- Pinned by: a_way_without_a_fault_is_counted, a_fault_ends_the_way
pub record FoundPart (F : Type 0) : Type 0 where
  pub separator : List ℕ
  pub blocks : Result (List (FoundBlock F)) F
  pub misplaced : F

-- where a cursor stands: at a row of a data block, to which a row of a part leads, to which a row of the top block
-- leads
-- RocksDB: BlockBasedTableIterator, whose index_iter_ and block_iter_ each have a place
-- Pinned by: a_way_without_a_fault_is_counted, a_fault_ends_the_way
pub record Place : Type 0 where
  pub part : ℕ
  pub block : ℕ
  pub row : ℕ

-- where a way ends: at a place or at none, or in a fault
-- Own.
-- Pinned by: a_way_without_a_fault_is_counted, a_fault_ends_the_way
abbrev pub Landing : Type 0 → Type 0
Landing F = Result (Option Place) F

-- what is found is looked into, and a fault stays
-- Own.
-- Pinned by: a_fault_ends_the_way
abbrev pub then_open : {A B F : Type 0} → Result A F → (A → Result B F) → Result B F
then_open (Ok found) look = look found
then_open (Err fault) look = Err fault

-- what is found, as a list; none where a fault is
-- Own.
-- Pinned by: a_way_without_a_fault_is_counted
abbrev pub opened : {A F : Type 0} → Result (List A) F → List A
opened (Ok found) = found
opened (Err fault) = []

-- the stored entry at a place
-- Own.
-- Pinned by: a_way_without_a_fault_is_counted
abbrev pub entry_in : {F : Type 0} → List (FoundPart F) → Place → Option Entry
entry_in parts place =
    option_and_then (λ part. option_and_then (λ block. slice_get (opened block.entries) place.row) (slice_get (opened part.blocks) place.block))
    (slice_get parts place.part)

-- the blocks are found without a fault
-- Pinned by: a_way_without_a_fault_is_counted
abbrev pub AreFound : {F : Type 0} → List (FoundBlock F) → List IndexedBlock → Type 0
AreFound [] blocks = blocks ≡ []
AreFound (found ∷ rest) [] = ⊥
AreFound (found ∷ rest) (block ∷ blocks) =
    (found.separator ≡ block.separator) × (found.entries ≡ Ok block.entries) × AreFound rest blocks

-- a part is found without a fault
-- Pinned by: a_way_without_a_fault_is_counted
pub record IsFound {F : Type 0} (found : FoundPart F) (part : Part) : Type 0 where
  pub separator : found.separator ≡ part.separator
  pub inside : List (FoundBlock F)
  pub is : found.blocks ≡ Ok inside
  pub blocks : AreFound inside part.blocks

-- the parts are found without a fault
-- Pinned by: a_way_without_a_fault_is_counted
abbrev pub AllFound : {F : Type 0} → List (FoundPart F) → List Part → Type 0
AllFound [] parts = parts ≡ []
AllFound (found ∷ rest) [] = ⊥
AllFound (found ∷ rest) (part ∷ parts) = IsFound found part × AllFound rest parts

-- a place of a tree, and the number of its entry in the list of all: how many stand in the parts before, in the blocks
-- before within its part, and in the rows before within its block
-- Own.
-- Pinned by: a_way_without_a_fault_is_counted, places_and_numbers_tell_each_other
pub record IsNumbered (parts : List Part) (place : Place) (number : ℕ) : Type 0 where
  pub part : Part
  pub at_part : slice_get parts place.part ≡ Some part
  pub block : IndexedBlock
  pub at_block : slice_get part.blocks place.block ≡ Some block
  pub at_row : place.row < length block.entries
  pub counts : number ≡ length (stored_in (take place.part parts)) + (length (joined (take place.block part.blocks)) + place.row)

-- the same of a place or nowhere
-- Own.
-- Pinned by: a_way_without_a_fault_is_counted
abbrev pub AreNumbered : List Part → Option Place → Option ℕ → Type 0
AreNumbered parts None None = Unit {0}
AreNumbered parts None (Some number) = ⊥
AreNumbered parts (Some place) None = ⊥
AreNumbered parts (Some place) (Some number) = IsNumbered parts place number

-- a way ends without a fault, at the place of this number, or at none
-- Own.
-- Pinned by: a_way_without_a_fault_is_counted
pub record LandsAt {F : Type 0} (parts : List Part) (landing : Landing F) (number : Option ℕ) : Type 0 where
  pub place : Option Place
  pub is : landing ≡ Ok place
  pub numbered : AreNumbered parts place number
