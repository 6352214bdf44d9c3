-- What a `scan` comes to: it opens its file, and lists its entries, or those of them that a snapshot sees.
use Rattle.std.specs.Prelude.{ℕ, nat_le, Bool, true, false, if◌then◌else◌, List, [], ◌∷◌, drop, Option, Some, None}
use Rattle.sst_key.specs.declared.entries.Entry.{Entry}
use Rattle.sst_key.specs.ListMachine.{is_of_user, visible}
use Rattle.sst_text.specs.EntryText.{lines_text}
use Rattle.sst_bbt_spec.specs.Parts.{Part, stored_in}
use Rattle.sst_cli.specs.Behaviour.{Behaviour}
use Rattle.sst_cli.specs.OpenFile.{prints_of_file}
use Rattle.sst_cli.specs.Words.{ScanLine}

-- the entry has the user key that was printed last
-- Own.
-- Pinned by: a_filtered_walk_is_what_is_visible, questions
abbrev pub is_of_last : Option (List ℕ) → Entry → Bool
is_of_last None e = false
is_of_last (Some user) e = is_of_user user e

-- the walk passes the entry over: its sequence number is above the snapshot's, or its user key is the one printed last
-- Own.
-- Pinned by: a_filtered_walk_is_what_is_visible, questions
abbrev pub is_passed : ℕ → Option (List ℕ) → Entry → Bool
is_passed snapshot last e = if nat_le e.seq snapshot then is_of_last last e else true

-- of the entries of a walk those that are printed, after one with this user key
-- Own.
-- Pinned by: a_filtered_walk_is_what_is_visible, questions
abbrev pub shown_after : ℕ → Option (List ℕ) → List Entry → List Entry
shown_after snapshot last [] = []
shown_after snapshot last (e ∷ rest) =
    if is_passed snapshot last e then shown_after snapshot last rest else e ∷ shown_after snapshot (Some e.user) rest

-- of the entries of a walk from the front those that are printed at a snapshot
-- Own.
-- Pinned by: a_filtered_walk_is_what_is_visible
abbrev pub shown_at : ℕ → List Entry → List Entry
shown_at snapshot entries = shown_after snapshot None entries

-- the same where there may be no snapshot: then all are printed
-- Own.
-- Pinned by: what_a_scan_comes_to.scanned, questions
abbrev pub scanned_after : Option ℕ → Option (List ℕ) → List Entry → List Entry
scanned_after None last entries = entries
scanned_after (Some snapshot) last entries = shown_after snapshot last entries

-- the text of a scan over a list: its entries, or what is visible of it at the snapshot
-- Pinned by: what_a_scan_comes_to.scanned_as_list, questions
abbrev pub list_text : Option ℕ → List Entry → List ℕ
list_text None entries = lines_text entries
list_text (Some snapshot) entries = lines_text (visible entries snapshot)

-- the text of a scan over parts
-- Pinned by: what_a_scan_comes_to.scanned, questions
abbrev pub scan_text : Option ℕ → List Part → List ℕ
scan_text snapshot parts = lines_text (scanned_after snapshot None (stored_in parts))

-- what a `scan` comes to
-- Pinned by: what_a_scan_comes_to.scanned, questions
abbrev pub scan_command : ScanLine → Behaviour
scan_command line = prints_of_file line.name (scan_text line.snapshot)

-- ---- the walk

-- the entries that a walk still has to show: those from its place on
-- For proofs alone.
-- Pinned by: run.ends
abbrev pub from_place : Option ℕ → List Entry → List Entry
from_place None entries = []
from_place (Some i) entries = drop i entries
