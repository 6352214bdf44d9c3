-- What holds of a reader whatever its folder tells, for now: it keeps all parts of its file's index with their data blocks, and
-- answers by these. Once a reader draws its blocks as it comes to them, it answers by them only where its folder tells the file
-- (Positions).
-- Own.
use Rattle.std.specs.Prelude.{◌≡◌, ℕ, Bool, List, All, Option, None, Result, Ok, Err}
use Rattle.std.specs.Option.{is_some}
use Rattle.sst_num.specs.declared.stops.Stop.{Stop}
use Rattle.sst_key.specs.declared.calls.Answer.{Answer}
use Rattle.sst_key.specs.declared.calls.Call.{Call}
use Rattle.sst_key.specs.declared.calls.Reply.{Reply}
use Rattle.sst_bbt_spec.specs.Rows.{HasSeq}
use Rattle.sst_bbt_spec.specs.Parts.{Part, stored_in}
use Rattle.sst_bbt_spec.specs.PartWay.{answer_in_parts, get_in_parts}
use Rattle.sst_bbt_read.specs.Positions.{AreTwo, Belongs}
use Rattle.sst_bbt_read.specs.Seats.{OpenReader}
use Rattle.sst_bbt_read.specs.TableBlocks.{parts_of}
use Rattle.sst_bbt_read.specs.declared.bbt_fault.BbtFault.{BbtFault}
use Rattle.sst_bbt_read.specs.declared.cursor.Cursor.{Cursor}

-- the parts that a reader keeps
-- Own.
-- Pinned by: open.kept
abbrev pub Keeps : OpenReader → List Part → Type 0
Keeps r parts = (parts_of r.table ≡ parts) × All HasSeq (stored_in parts)

-- a cursor of it stands on this entry of them, or nowhere
-- Own.
-- Pinned by: next.kept
pub record StandsOn (r : OpenReader) (c : Cursor) (parts : List Part) (place : Option ℕ) : Type 0 where
  pub keeps : Keeps r parts
  pub belongs : Belongs r c
  pub stands : c.place ≡ place

-- a move answers so; it never fails
-- Own.
-- Pinned by: next.kept
abbrev pub Answers : Result Reply (Stop BbtFault) → OpenReader → Cursor → List Part → Answer → Type 0
Answers (Ok reply) r c parts answer = (reply ≡ answer.reply) × StandsOn r c parts answer.position
Answers (Err stop) r c parts answer = ⊥

-- a Get answers so; it never fails
-- Own.
-- Pinned by: get.kept
abbrev pub AnswersGet : Result Bool (Stop BbtFault) → OpenReader → Cursor → List Part → Option ℕ → Type 0
AnswersGet (Ok found) r c parts place = (found ≡ is_some place) × StandsOn r c parts place
AnswersGet (Err stop) r c parts place = ⊥

-- each other cursor stays on the parts that are kept
-- Own.
-- Pinned by: next.kept
abbrev pub OthersStand : OpenReader → OpenReader → Cursor → Type 0
OthersStand old new c = (d : Cursor) (parts : List Part) (place : Option ℕ) → AreTwo c d → StandsOn old d parts place
    → StandsOn new d parts place

-- what a move comes to on the parts that are kept
-- Own.
-- Pinned by: next.kept
pub record KeptMove (result : Result Reply (Stop BbtFault)) (old new : OpenReader) (c d : Cursor) (call : Call) : Type 0 where
  pub answers : (parts : List Part) (place : Option ℕ) → StandsOn old c parts place
      → Answers result new d parts (answer_in_parts None parts place call)
  pub others : OthersStand old new c

-- what a Get comes to
-- Own.
-- Pinned by: get.kept
pub record KeptGet (result : Result Bool (Stop BbtFault)) (old new : OpenReader) (c d : Cursor) (user : List ℕ) (seq : ℕ) : Type 0 where
  pub answers : (parts : List Part) (place : Option ℕ) → StandsOn old c parts place
      → AnswersGet result new d parts (get_in_parts None parts user seq)
  pub others : OthersStand old new c
