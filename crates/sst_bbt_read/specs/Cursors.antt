-- What the calls of a reader's cursor come to, by the list machine.
-- Pinned by: what_calls_come_to.answered
use Rattle.std.specs.Prelude.{◌≡◌, ℕ, ◌<◌, List, length, Option, None, Some, option_and_then, slice_get}
use Rattle.std.specs.Option.{option_map}
use Rattle.sst_key.specs.declared.entries.Entry.{Entry}
use Rattle.sst_key.specs.declared.entries.EntryView.{EntryView}
use Rattle.sst_key.specs.declared.calls.Reply.{Reply}
use Rattle.sst_key.specs.declared.calls.Answer.{Answer}
use Rattle.sst_key.specs.Entry.{entry_of}

-- the place is that of an entry of the list, or nowhere
-- RocksDB: include/rocksdb/iterator.h, Valid
-- Pinned by: next.way
abbrev pub IsPlace : List Entry → Option ℕ → Type 0
IsPlace entries None = Unit {0}
IsPlace entries (Some i) = i < length entries

-- a call's reply, and where the cursor is after it, are those of an answer
abbrev pub Comes : Reply → Option ℕ → Answer → Type 0
Comes reply place answer = (reply ≡ answer.reply) × (place ≡ answer.position)

-- the entry that an answer shows
-- Pinned by: lists
abbrev pub entry_shown : List Entry → Answer → Option Entry
entry_shown entries answer = option_and_then (λ i. slice_get entries i) answer.shown

-- the entry that is lent, if one is
abbrev pub lent : Option EntryView → Option Entry
lent view = option_map entry_of view
