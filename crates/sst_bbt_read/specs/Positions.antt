-- How a reader and its cursors stand to a file: the reader is one of the file, a cursor belongs to the reader, and it stands
-- on an entry of the file or nowhere. The calls of a reader give these relations again, so that a caller chains them and
-- looks into neither.
-- RocksDB: Iterator in include/rocksdb/iterator.h; BlockBasedTableIterator in table/block_based/block_based_table_iterator.h.
-- For now a reader keeps all entries of its file in memory, so its relations speak of what it keeps.
use Rattle.std.specs.Prelude.{◌≡◌, ◌≢◌, ℕ, ◌-◌, Bool, true, List, length, Option, None, Some, Result, Ok, Err, slice_get}
use Rattle.std.specs.FinMap.{get}
use Rattle.std.specs.Option.{is_some}
use Rattle.sst_num.specs.declared.stops.Stop.{Stop}
use Rattle.sst_num.specs.declared.stops.Stop.TheVariants.{Damage, Device, Memory}
use Rattle.sst_key.specs.declared.entries.Entry.{Entry}
use Rattle.sst_key.specs.declared.calls.Answer.{Answer}
use Rattle.sst_key.specs.declared.calls.Reply.{Reply}
use Rattle.sst_device.specs.Folder.{Files, file_of}
use Rattle.sst_bbt_spec.specs.BlockBased.{BlockBased, Opens}
use Rattle.sst_bbt_spec.specs.Parts.{Part}
use Rattle.sst_bbt_read.specs.Cursors.{IsPlace}
use Rattle.sst_bbt_read.specs.OpeningFaults.{FailsToOpen}
use Rattle.sst_bbt_read.specs.Seats.{OpenReader, SameSeats}
use Rattle.sst_bbt_read.specs.TableBlocks.{parts_of}
use Rattle.sst_bbt_read.specs.declared.bbt_fault.BbtFault.{BbtFault}
use Rattle.sst_bbt_read.specs.declared.cursor.Cursor.{Cursor}

-- the folder tells these bytes under the reader's name
-- Own.
-- Pinned by: next.way, next.moved
abbrev pub Tells : Option Files → OpenReader → List ℕ → Type 0
Tells held r file = file_of held r.name ≡ Some file

-- the reader is one of the file: what it keeps are the parts to which the file opens
-- Pinned by: open.told, next.way
abbrev pub Of : OpenReader → List ℕ → Type 0
Of r file = (parts : List Part) → Opens file parts → parts_of r.table ≡ parts

-- the folder tells that the reader's name has no file of which the reader is
-- Own.
-- Pinned by: next.folder
abbrev pub IsLost : Option Files → OpenReader → Type 0
IsLost None r = ⊥
IsLost (Some files) r = (file : List ℕ) → get files r.name ≡ Some file → Of r file → ⊥

-- the cursor is one of the reader's: it has a seat of it
-- RocksDB: BlockBasedTable::NewIterator
-- Pinned by: next.belongs, cursor.two
pub record Belongs (r : OpenReader) (c : Cursor) : Type 0 where
  pub seated : slice_get r.seats c.number ≡ Some true
  pub place : IsPlace r.table.entries c.place

-- two cursors of a reader; and one cursor, before a call and after it
-- Own.
-- Pinned by: cursor.two, next.others
abbrev pub AreTwo : Cursor → Cursor → Type 0
AreTwo c d = c.number ≢ d.number

abbrev pub IsSame : Cursor → Cursor → Type 0
IsSame c d = c.number ≡ d.number

-- the cursor stands on an entry, and not nowhere
-- RocksDB: Iterator::Valid
-- Pinned by: stands, next.nowhere
abbrev pub is_placed : Cursor → Bool
is_placed c = is_some c.place

-- how many entries there are from a place on
-- Own.
-- Pinned by: next.lowers
abbrev pub left_from : List Entry → Option ℕ → ℕ
left_from entries None = 0
left_from entries (Some i) = length entries - i

-- A number that each Next from an entry lowers, and that is 0 exactly where the cursor stands nowhere, whatever the folder
-- tells. So a walk ends.
-- Own.
-- Pinned by: next.lowers, stands.rest
abbrev pub rest : OpenReader → Cursor → ℕ
rest r c = left_from r.table.entries c.place

-- the reader is one of the file, and the cursor stands on this entry of those in the file's parts, or nowhere
-- Pinned by: next.way, cursor.on
pub record On (r : OpenReader) (c : Cursor) (file : List ℕ) (place : Option ℕ) : Type 0 where
  pub of : Of r file
  pub belongs : Belongs r c
  pub stands : c.place ≡ place

-- the file stands for the list, and the cursor stands on the entry of the list with this number, or nowhere
-- Pinned by: next.moved, cursor.at
pub record At (r : OpenReader) (c : Cursor) (file : List ℕ) (entries : List Entry) (place : Option ℕ) : Type 0 where
  pub stands_for : BlockBased file entries
  pub on : On r c file place

-- A call leaves the reader what it was: its name and its seats, and of which file it is, where the folder tells the file.
-- Own.
-- Pinned by: next.reader
pub record SameReader (held : Option Files) (old new : OpenReader) : Type 0 where
  pub name : new.name ≡ old.name
  pub seats : SameSeats old new
  pub of : (file : List ℕ) → Tells held old file → Of old file → Of new file

-- A call on a cursor leaves each other one where it stood. Where it stands on the file is kept where the folder tells the
-- file.
-- Own.
-- Pinned by: next.others
pub record OthersStay (held : Option Files) (old new : OpenReader) (c : Cursor) : Type 0 where
  pub belongs : (d : Cursor) → AreTwo c d → Belongs old d → Belongs new d
  pub rests : (d : Cursor) → AreTwo c d → Belongs old d → rest new d ≡ rest old d
  pub on : (d : Cursor) (file : List ℕ) (place : Option ℕ) → AreTwo c d → Tells held old file → On old d file place
      → On new d file place
  pub at : (d : Cursor) (file : List ℕ) (entries : List Entry) (place : Option ℕ) → AreTwo c d → Tells held old file
      → At old d file entries place → At new d file entries place

-- What a move comes to on a file that opens: the reply, and the cursor at the position of the answer. After a fault it stands
-- nowhere. Such a file isn't damaged.
-- Pinned by: next.way
abbrev pub Goes : Result Reply (Stop BbtFault) → OpenReader → Cursor → List ℕ → Answer → Type 0
Goes (Ok reply) r c file answer = (reply ≡ answer.reply) × On r c file answer.position
Goes (Err (Damage fault)) r c file answer = ⊥
Goes (Err Device) r c file answer = On r c file None
Goes (Err Memory) r c file answer = On r c file None

-- the same on a file that stands for a list
-- Pinned by: next.moved
abbrev pub Moved : Result Reply (Stop BbtFault) → OpenReader → Cursor → List ℕ → List Entry → Answer → Type 0
Moved (Ok reply) r c file entries answer = (reply ≡ answer.reply) × At r c file entries answer.position
Moved (Err (Damage fault)) r c file entries answer = ⊥
Moved (Err Device) r c file entries answer = At r c file entries None
Moved (Err Memory) r c file entries answer = At r c file entries None

-- What a Get comes to on a file that opens: whether an entry was found, and the cursor on it, or nowhere
-- RocksDB: BlockBasedTable::Get
-- Pinned by: get.way
abbrev pub Finds : Result Bool (Stop BbtFault) → OpenReader → Cursor → List ℕ → Option ℕ → Type 0
Finds (Ok found) r c file place = (found ≡ is_some place) × On r c file place
Finds (Err (Damage fault)) r c file place = ⊥
Finds (Err Device) r c file place = On r c file None
Finds (Err Memory) r c file place = On r c file None

-- the same on a file that stands for a list
-- Pinned by: get.moved
abbrev pub Found : Result Bool (Stop BbtFault) → OpenReader → Cursor → List ℕ → List Entry → Option ℕ → Type 0
Found (Ok found) r c file entries place = (found ≡ is_some place) × At r c file entries place
Found (Err (Damage fault)) r c file entries place = ⊥
Found (Err Device) r c file entries place = At r c file entries None
Found (Err Memory) r c file entries place = At r c file entries None

-- What opening a file comes to: a reader of it, and the file opens to parts; or its first fault
-- Pinned by: open.told
abbrev pub OpensAs : Result OpenReader (Stop BbtFault) → List ℕ → Type 0
OpensAs (Ok r) file = Of r file × ((parts : List Part) × Opens file parts)
OpensAs (Err (Damage fault)) file = FailsToOpen file fault
OpensAs (Err Device) file = Unit {0}
OpensAs (Err Memory) file = Unit {0}
