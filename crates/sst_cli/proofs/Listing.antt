-- A walk over the entries of a file: what a step shows, and what the line of an entry does to the text.
use Rattle.std.proofs.Common.{◌≡◌, ℕ, ◌+◌, Bool, true, false, List, [], ◌∷◌, ◌++◌, length, drop, slice_get, Option, None, Some, refl, sym, ap, ◌∙◌, inl, inr, arith}
use Rattle.std.proofs.lemmas.Bool.{cases_lt, lt-ltb, le-ltb}
use Rattle.std.proofs.lemmas.List.{drop_all}
use Rattle.sst_key.specs.declared.entries.Entry.{Entry}
use Rattle.sst_key.specs.ListMachine.{first_of, next_of}
use Rattle.sst_text.specs.EntryText.{lines_text}
use Rattle.std.specs.Option.{is_some}
use Rattle.sst_block.proofs.NextRow.{drop-at}
use Rattle.sst_bbt_spec.specs.Parts.{Part}
use Rattle.sst_bbt_read.specs.Kept.{StandsOn}
use Rattle.sst_bbt_read.specs.Positions.{is_placed}
use Rattle.sst_bbt_read.specs.Seats.{OpenReader}
use Rattle.sst_bbt_read.specs.declared.cursor.Cursor.{Cursor}
use Rattle.sst_cli.specs.ScanCommand.{from_place, scanned_after}

-- a walk that begins has all entries before it
pub from-first : (entries : List Entry) → from_place (first_of entries) entries ≡ entries
from-first [] = refl
from-first (e ∷ rest) = rw (lt-ltb 0 (length (e ∷ rest)) (omega arith)) refl

-- behind the entry at a place come those from the next place on
pub from-next : (entries : List Entry) (i : ℕ) → from_place (next_of entries i) entries ≡ drop (i + 1) entries
from-next entries i =
    elim (cases_lt (i + 1) (length entries)) [
      | inl within ↦ rw (lt-ltb (i + 1) (length entries) within) refl
      | inr past ↦ rw (le-ltb (i + 1) (length entries) past) (sym (drop_all (i + 1) entries past))
    ]

-- ---- the line of an entry

-- what one entry adds to the text that waits, where it is the first of those ahead
pub line-waits : (snapshot : Option ℕ) (last next : Option (List ℕ)) (e : Entry) (before after : List Entry) (text more : List ℕ) → before ≡ e ∷ after
    → ((rest : List Entry) → text ++ lines_text (scanned_after snapshot last (e ∷ rest)) ≡ more ++ lines_text (scanned_after snapshot next rest))
    → text ++ lines_text (scanned_after snapshot last before) ≡ more ++ lines_text (scanned_after snapshot next after)
line-waits snapshot last next e before after text more step adds =
    ap (λ (es : List Entry). text ++ lines_text (scanned_after snapshot last es)) step ∙ adds after

-- the line of the entry where the walk stands
pub shown-waits : (snapshot : Option ℕ) (last next : Option (List ℕ)) (entries : List Entry) (i : ℕ) (e : Entry) (text more : List ℕ) → slice_get entries i ≡ Some e
    → ((rest : List Entry) → text ++ lines_text (scanned_after snapshot last (e ∷ rest)) ≡ more ++ lines_text (scanned_after snapshot next rest))
    → text ++ lines_text (scanned_after snapshot last (from_place (Some i) entries)) ≡ more ++ lines_text (scanned_after snapshot next (from_place (next_of entries i) entries))
shown-waits snapshot last next entries i e text more at adds =
    line-waits snapshot last next e (drop i entries) (drop (i + 1) entries) text more (drop-at entries i e at) adds
    ∙ ap (λ (es : List Entry). more ++ lines_text (scanned_after snapshot next es)) (sym (from-next entries i))

-- nothing is left where the walk stands nowhere
nothing-scanned : (snapshot : Option ℕ) (last : Option (List ℕ)) → lines_text (scanned_after snapshot last []) ≡ []
nothing-scanned None last = refl
nothing-scanned (Some seq) last = refl

pub nothing-left : (snapshot : Option ℕ) (last : Option (List ℕ)) (entries : List Entry) (place : Option ℕ) (there : Bool) → there ≡ is_some place → there ≡ false
    → lines_text (scanned_after snapshot last (from_place place entries)) ≡ []
nothing-left snapshot last entries None there told is = nothing-scanned snapshot last
nothing-left snapshot last entries (Some i) there told is = absurd cc

-- the entry where a cursor stands
pub record IsHere (r : OpenReader) (c : Cursor) (parts : List Part) (place : Option ℕ) : Type 0 where
  pub i : ℕ
  pub is : place ≡ Some i
  pub stands : StandsOn r c parts (Some i)

pub here-at : (r : OpenReader) (c : Cursor) (parts : List Part) (place : Option ℕ) (there : Bool) → StandsOn r c parts place → there ≡ is_some place → there ≡ true
    → IsHere r c parts place
here-at r c parts None there stands told is = absurd cc
here-at r c parts (Some i) there stands told is = record { i = i; is = refl; stands = stands }

pub here-placed : (r : OpenReader) (c : Cursor) (parts : List Part) (place : Option ℕ) → IsHere r c parts place → is_placed c ≡ true
here-placed r c parts place here = ap is_some here.stands.stands
