-- What the uses of the library come to, in the words of lists.
use Rattle.std.specs.Prelude.{◌≡◌, ℕ, ◌<◌, List, ◌∷◌, ◌++◌, length, take, Option, None, Some, option_and_then, slice_get}
use Rattle.sst_key.specs.declared.entries.Entry.{Entry}
use Rattle.sst_key.specs.declared.faults.WriteFault.{WriteFault}
use Rattle.sst_key.specs.ListMachine.{first_of, get_of, last_of}
use Rattle.sst_bbt_write.specs.Reasons.{reason}

-- the list has an entry that is refused for this after those before it, of which none is refused
-- Pinned by: write_table.refused
pub record IsRefused (entries : List Entry) (fault : WriteFault) : Type 0 where
  pub front : List Entry
  pub entry : Entry
  pub back : List Entry
  pub parts : entries ≡ front ++ entry ∷ back
  pub why : reason front entry ≡ Some fault

-- the entry at a place of the list, if there is one
-- Own.
-- Pinned by: look_up.found
abbrev pub shown_at : List Entry → Option ℕ → Option Entry
shown_at entries place = option_and_then (λ i. slice_get entries i) place

-- the newest entry of a user key at a snapshot
-- Pinned by: look_up.found
abbrev pub found_in : List Entry → List ℕ → ℕ → Option Entry
found_in entries user seq = shown_at entries (get_of entries user seq)

-- two that are there
-- Own.
-- Pinned by: ends.ends
abbrev pub both_of : Option Entry → Option Entry → Option (Entry × Entry)
both_of None last = None
both_of (Some first) None = None
both_of (Some first) (Some last) = Some (first, last)

-- the first entry of the list and the last
-- RocksDB: FileMetaData::smallest and FileMetaData::largest in db/version_edit.h
-- Pinned by: ends.ends
abbrev pub ends_of : List Entry → Option (Entry × Entry)
ends_of entries = both_of (shown_at entries (first_of entries)) (shown_at entries (last_of entries))

-- the entries before a cursor are those that were copied; with a cursor that stands nowhere all were
-- Pinned by: all_entries.all
abbrev pub IsCopied : List Entry → List Entry → Option ℕ → Type 0
IsCopied entries copied None = copied ≡ entries
IsCopied entries copied (Some i) = (copied ≡ take i entries) × (i < length entries)
