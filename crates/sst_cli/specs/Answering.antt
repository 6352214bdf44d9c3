-- How the calls of a list are answered by two cursors of a reader: one has the position, the other goes where each Get
-- leads.
-- Own.
use Rattle.std.specs.Prelude.{◌≡◌, ℕ, Bool, if◌then◌else◌, List, [], ◌∷◌, ◌++◌, Option, Result, Ok, Err}
use Rattle.sst_num.specs.declared.stops.Stop.{Stop}
use Rattle.sst_key.specs.declared.calls.Call.{Call}
use Rattle.sst_key.specs.declared.calls.Call.TheVariants.{Get, First, Last, Seek, SeekForPrev, Next, Prev}
use Rattle.sst_key.specs.declared.calls.Reply.{Reply}
use Rattle.sst_key.specs.declared.calls.Reply.TheVariants as reply
use Rattle.sst_key.specs.declared.entries.Entry.{Entry}
use Rattle.sst_device.specs.Folder.{Files}
use Rattle.sst_text.specs.ReplyText.{reply_line}
use Rattle.sst_bbt_spec.specs.Parts.{Part}
use Rattle.sst_bbt_read.specs.Kept.{StandsOn}
use Rattle.sst_bbt_read.specs.Seats.{OpenReader}
use Rattle.sst_bbt_read.specs.declared.bbt_fault.BbtFault.{BbtFault}
use Rattle.sst_bbt_read.specs.declared.cursor.Cursor.{Cursor}

-- the call moves the position; Get leaves it
-- RocksDB: include/rocksdb/iterator.h, include/rocksdb/db.h
-- Pinned by: move_by.kept
abbrev pub IsMove : Call → Type 0
IsMove (Get target) = ⊥
IsMove First = Unit {0}
IsMove Last = Unit {0}
IsMove (Seek target) = Unit {0}
IsMove (SeekForPrev target) = Unit {0}
IsMove Next = Unit {0}
IsMove Prev = Unit {0}

-- the reply of a Get that found an entry, or none
-- Pinned by: what_calls_come_to.answered
abbrev pub replied : Result Bool (Stop BbtFault) → Result Reply (Stop BbtFault)
replied (Ok found) = Ok (if found then reply.Shown else reply.None)
replied (Err stop) = Err stop

-- the line of a reply that shows this entry, and its line end
-- Pinned by: what_calls_come_to.answered
abbrev pub reply_text : Reply → Option Entry → Call → List ℕ
reply_text said shown call = reply_line said shown call ++ 10 ∷ []

-- both cursors stand somewhere on the parts
-- Pinned by: put_answer.both
abbrev pub StandBoth : OpenReader → Cursor → Cursor → List Part → Type 0
StandBoth r c d parts = ((place : Option ℕ) × StandsOn r c parts place) × ((place : Option ℕ) × StandsOn r d parts place)

-- the folder is as it was, and counted no fault
-- Pinned by: run.hides_none
abbrev pub IsQuiet : Option Files → Option Files → ℕ → ℕ → Type 0
IsQuiet held left before now = (left ≡ held) × (now ≡ before)
