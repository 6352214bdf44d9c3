-- What opening a file answers: the tree of what it opens to, or its first fault. Where a device failed or memory ran out an
-- answer says nothing.
-- Pinned by: open.told
use Rattle.std.specs.Prelude.{◌≡◌, ℕ, ◌<◌, List, ◌++◌, length, Result, Ok, Err}
use Rattle.sst_key.specs.declared.entries.Entry.{Entry}
use Rattle.sst_num.specs.declared.stops.Stop.{Stop}
use Rattle.sst_num.specs.declared.stops.Stop.TheVariants.{Damage, Device, Memory}
use Rattle.sst_bbt_spec.specs.BlockBased.{Opens}
use Rattle.sst_bbt_spec.specs.Parts.{Part}
use Rattle.sst_bbt_read.specs.OpeningFaults.{FailsToOpen}
use Rattle.sst_bbt_read.specs.TableBlocks.{OpenTable, AreEntries, parts_of}
use Rattle.sst_bbt_read.specs.declared.bbt_fault.BbtFault.{BbtFault}

-- an answer has the parts to which the file opens, or is its first fault
-- Pinned by: open.told, what_calls_come_to.answered, what_calls_come_to.damaged
abbrev pub Opened : Result OpenTable (Stop BbtFault) → List ℕ → Type 0
Opened (Ok table) file = Opens file (parts_of table)
Opened (Err (Damage fault)) file = FailsToOpen file fault
Opened (Err Device) file = Unit {0}
Opened (Err Memory) file = Unit {0}

-- an answer has these parts, and isn't a fault
-- Pinned by: open.stands
abbrev pub OpensTo : Result OpenTable (Stop BbtFault) → List Part → Type 0
OpensTo (Ok table) parts = parts_of table ≡ parts
OpensTo (Err (Damage fault)) parts = ⊥
OpensTo (Err Device) parts = Unit {0}
OpensTo (Err Memory) parts = Unit {0}

-- where an answer is a fault, the relation has it
-- Own.
abbrev pub Stopped : {A : Type 0} → Result A (Stop BbtFault) → (BbtFault → Type 0) → Type 0
Stopped (Ok x) Fails = Unit {0}
Stopped (Err (Damage fault)) Fails = Fails fault
Stopped (Err Device) Fails = Unit {0}
Stopped (Err Memory) Fails = Unit {0}

-- the entries of one data block stand behind those before, and end at the place
pub record BlockAdded (before now : List Entry) (place : ℕ) : Type 0 where
  pub entries : List Entry
  pub appended : now ≡ before ++ entries
  pub ends : place ≡ length now
  pub some : 0 < length entries
  pub are : AreEntries entries
