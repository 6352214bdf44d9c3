-- What the seven calls of a table answer over the list of its entries: a machine that has a position, and no file.
-- RocksDB: DB::Get and Iterator (Valid, SeekToFirst, SeekToLast, Seek, SeekForPrev, Next, Prev) in include/rocksdb;
-- table/plain/plain_table_reader.cc and table/cuckoo/cuckoo_table_reader.cc for what these formats lack.
use Rattle.std.specs.Prelude.{ℕ, zero, suc, ◌+◌, Bool, true, false, not, if◌then◌else◌, nat_eq, nat_lt, nat_le, bytes_eq, Option, Some, None, List, [], ◌∷◌, length, take, filter, count_by, slice_get}
use Rattle.std.specs.List.{starts_with}
use Rattle.std.specs.Ordering.{nat_cmp, ordering_then, is_lt, is_le}
use Rattle.std.specs.Cmp.Lexicographic.{slice_cmp}
use Rattle.std.specs.declared.cmp.Ordering.{Ordering}
use Rattle.sst_key.specs.declared.entries.Entry.{Entry}
use Rattle.sst_key.specs.declared.calls.Call.{Call}
use Rattle.sst_key.specs.declared.calls.Call.TheVariants.{Get, First, Last, Seek, SeekForPrev, Next, Prev}
use Rattle.sst_key.specs.declared.calls.Format.{Format}
use Rattle.sst_key.specs.declared.calls.Format.TheVariants.{Block, Plain, Cuckoo}
use Rattle.sst_key.specs.declared.calls.Reply.TheVariants as reply
use Rattle.sst_key.specs.declared.calls.Answer.{Answer}

-- how an entry stands to a target, a user key and a sequence number: the user keys bytewise, and then the greater
-- sequence number first
-- RocksDB: db/dbformat.h, InternalKeyComparator::Compare; db/lookup_key.h, LookupKey
-- Pinned by: targets_compare_as_said, calls_over_lists
abbrev pub target_cmp : List ℕ → ℕ → Entry → Ordering
target_cmp user seq e = ordering_then (slice_cmp nat_cmp e.user user) (nat_cmp seq e.seq)

-- the entry is before the target: its user key is less, or it is the same and its sequence number is greater
-- RocksDB: db/dbformat.h, InternalKeyComparator::Compare; db/lookup_key.h, LookupKey
-- Pinned by: targets_compare_as_said
abbrev pub is_before_target : List ℕ → ℕ → Entry → Bool
is_before_target user seq e = is_lt (target_cmp user seq e)

-- the entry is before the target or at it: its user key is less, or it is the same and its sequence number isn't less
-- RocksDB: db/dbformat.h, InternalKeyComparator::Compare; db/lookup_key.h, LookupKey
-- Pinned by: targets_compare_as_said
abbrev pub is_up_to_target : List ℕ → ℕ → Entry → Bool
is_up_to_target user seq e = is_le (target_cmp user seq e)

-- how many entries are before the target
-- Own.
-- Pinned by: seek_lands_on_the_first_not_before
abbrev pub below : List Entry → List ℕ → ℕ → ℕ
below entries user seq = count_by (is_before_target user seq) entries

-- how many entries are before the target or at it
-- Own.
-- Pinned by: seek_for_prev_lands_on_the_last_up_to
abbrev pub up_to : List Entry → List ℕ → ℕ → ℕ
up_to entries user seq = count_by (is_up_to_target user seq) entries

-- the place, if it is one of the list
-- Own.
-- Pinned by: seek_lands_on_the_first_not_before, first_and_next_go_through
abbrev pub place_in : List Entry → ℕ → Option ℕ
place_in entries i = if nat_lt i (length entries) then Some i else None

-- the place before, if there is one
-- Own.
-- Pinned by: seek_for_prev_lands_on_the_last_up_to, last_and_prev_go_back
abbrev pub place_before : ℕ → Option ℕ
place_before zero = None
place_before (suc i) = Some i

-- the place, if an entry stands there and passes the test
-- Own.
-- Pinned by: get_shows_the_newest
abbrev pub where_passes : (Entry → Bool) → ℕ → Option Entry → Option ℕ
where_passes test i None = None
where_passes test i (Some e) = if test e then Some i else None

-- where First lands: at the first entry
-- RocksDB: include/rocksdb/iterator.h, SeekToFirst, SeekToLast
-- Pinned by: first_and_next_go_through, last_and_prev_go_back
abbrev pub first_of : List Entry → Option ℕ
first_of entries = place_in entries 0

-- where Last lands: at the last entry
-- RocksDB: include/rocksdb/iterator.h, SeekToFirst, SeekToLast
-- Pinned by: first_and_next_go_through, last_and_prev_go_back
abbrev pub last_of : List Entry → Option ℕ
last_of entries = place_before (length entries)

-- where Seek lands: after all entries that are before the target
-- RocksDB: include/rocksdb/iterator.h, Seek
-- Pinned by: seek_lands_on_the_first_not_before, calls_over_lists
abbrev pub seek_of : List Entry → List ℕ → ℕ → Option ℕ
seek_of entries user seq = place_in entries (below entries user seq)

-- where SeekForPrev lands: at the last of the entries that are before the target or at it
-- RocksDB: include/rocksdb/iterator.h, SeekForPrev
-- Pinned by: seek_for_prev_lands_on_the_last_up_to, calls_over_lists
abbrev pub seek_for_prev_of : List Entry → List ℕ → ℕ → Option ℕ
seek_for_prev_of entries user seq = place_before (up_to entries user seq)

-- where Next lands: one place on
-- RocksDB: include/rocksdb/iterator.h, Next, Prev
-- Pinned by: first_and_next_go_through, last_and_prev_go_back
abbrev pub next_of : List Entry → ℕ → Option ℕ
next_of entries i = place_in entries (i + 1)

-- where Prev lands: one place back
-- RocksDB: include/rocksdb/iterator.h, Next, Prev
-- Pinned by: first_and_next_go_through, last_and_prev_go_back
abbrev pub prev_of : ℕ → Option ℕ
prev_of i = place_before i

-- the entry has this user key
-- Own.
-- Pinned by: get_shows_the_newest
abbrev pub is_of_user : List ℕ → Entry → Bool
is_of_user user e = bytes_eq e.user user

-- what Get shows: the entry after all that are before the target, if it has the target's user key
-- RocksDB: include/rocksdb/db.h, DB::Get
-- Pinned by: get_shows_the_newest, calls_over_lists
abbrev pub get_of : List Entry → List ℕ → ℕ → Option ℕ
get_of entries user seq =
    where_passes (is_of_user user) (below entries user seq) (slice_get entries (below entries user seq))

-- the formats that lack a call: plain tables can't go back, and cuckoo tables have no SeekForPrev
-- Pinned by: calls_over_lists, the_way_is_the_lists
abbrev pub lacks : Format → Call → Bool
lacks Plain Last = true
lacks Plain (SeekForPrev target) = true
lacks Plain Prev = true
lacks Cuckoo (SeekForPrev target) = true
lacks format call = false

-- a plain table whose prefixes have a length seeks within the prefix of the target alone
-- Pinned by: seek_stays_within_a_prefix
abbrev pub is_prefix_mode : Format → ℕ → Bool
is_prefix_mode Plain prefix = nat_lt 0 prefix
is_prefix_mode Block prefix = false
is_prefix_mode Cuckoo prefix = false

-- the user key has a whole prefix, and the entry's begins with it
-- RocksDB: table/plain/plain_table_reader.cc, PlainTableIterator::Seek
-- Pinned by: seek_stays_within_a_prefix, calls_over_lists
abbrev pub begins_alike : ℕ → List ℕ → Entry → Bool
begins_alike prefix user e =
    if nat_lt (length user) prefix then false else starts_with nat_eq e.user (take prefix user)

-- where Seek lands in a format
-- RocksDB: table/plain/plain_table_reader.cc, PlainTableIterator::Seek
-- Pinned by: calls_over_lists, the_way_is_the_lists
abbrev pub seek_in : Format → ℕ → List Entry → List ℕ → ℕ → Option ℕ
seek_in format prefix entries user seq =
    if is_prefix_mode format prefix
    then where_passes (begins_alike prefix user) (below entries user seq) (slice_get entries (below entries user seq))
    else seek_of entries user seq

-- an entry is shown, or none, and the position stays
-- RocksDB: include/rocksdb/iterator.h, Valid
-- Pinned by: calls_over_lists
abbrev pub shows : Option ℕ → Option ℕ → Answer
shows position None = record { reply = reply.None; shown = None; position = position }
shows position (Some i) = record { reply = reply.Shown; shown = Some i; position = position }

-- a move shows where it landed, and that is the position
-- RocksDB: include/rocksdb/iterator.h, Valid
-- Pinned by: calls_over_lists
abbrev pub lands : Option ℕ → Answer
lands place = shows place place

-- the call is lacking: nothing is shown, and the position stays
-- Own.
-- Pinned by: calls_over_lists
abbrev pub lacking : Option ℕ → Answer
lacking position = record { reply = reply.Lacks; shown = None; position = position }

-- a step from nowhere: nothing is shown, and the position is nowhere
-- Own.
-- Pinned by: calls_over_lists
abbrev pub not_positioned : Answer
not_positioned = record { reply = reply.NotPositioned; shown = None; position = None }

-- one place on from the position
-- RocksDB: include/rocksdb/iterator.h, Next, Prev
-- Pinned by: first_and_next_go_through, last_and_prev_go_back, calls_over_lists
abbrev pub steps_on : List Entry → Option ℕ → Answer
steps_on entries None = not_positioned
steps_on entries (Some i) = lands (next_of entries i)

-- one place back from the position
-- RocksDB: include/rocksdb/iterator.h, Next, Prev
-- Pinned by: first_and_next_go_through, last_and_prev_go_back, calls_over_lists
abbrev pub steps_back : Option ℕ → Answer
steps_back None = not_positioned
steps_back (Some i) = lands (prev_of i)

-- what a call answers that the format has
-- RocksDB: include/rocksdb/db.h, iterator.h
-- Pinned by: calls_over_lists
abbrev pub answer_to : Format → ℕ → List Entry → Option ℕ → Call → Answer
answer_to format prefix entries position (Get target) = shows position (get_of entries target.user target.seq)
answer_to format prefix entries position First = lands (first_of entries)
answer_to format prefix entries position Last = lands (last_of entries)
answer_to format prefix entries position (Seek target) = lands (seek_in format prefix entries target.user target.seq)
answer_to format prefix entries position (SeekForPrev target) = lands (seek_for_prev_of entries target.user target.seq)
answer_to format prefix entries position Next = steps_on entries position
answer_to format prefix entries position Prev = steps_back position

-- what a call answers at a position (None is nowhere), in a format, with the length of a plain table's prefixes
-- RocksDB: include/rocksdb/db.h, iterator.h
-- Pinned by: calls_over_lists
abbrev pub answer_of : Format → ℕ → List Entry → Option ℕ → Call → Answer
answer_of format prefix entries position call =
    if lacks format call then lacking position else answer_to format prefix entries position call

-- what a sequence of calls answers, from a position on
-- RocksDB: include/rocksdb/db.h, iterator.h
-- Pinned by: first_and_next_go_through, the_way_is_the_lists.replies
abbrev pub replies_from : Format → ℕ → List Entry → Option ℕ → List Call → List Answer
replies_from format prefix entries position [] = []
replies_from format prefix entries position (call ∷ calls) =
    answer_of format prefix entries position call
    ∷ replies_from format prefix entries (answer_of format prefix entries position call).position calls

-- what a sequence of calls answers, from nowhere on
-- RocksDB: include/rocksdb/db.h, iterator.h
-- Pinned by: first_and_next_go_through, the_way_is_the_lists.replies
abbrev pub replies : Format → ℕ → List Entry → List Call → List Answer
replies format prefix entries calls = replies_from format prefix entries None calls

-- what a snapshot sees: an entry with at most its sequence number, which hides the later ones of its user key
-- RocksDB: include/rocksdb/options.h, ReadOptions::snapshot
-- Pinned by: visible_is_what_gets_show
abbrev pub visible : List Entry → ℕ → List Entry
visible [] snapshot = []
visible (e ∷ entries) snapshot =
    if nat_le e.seq snapshot then e ∷ filter (λ later. not (is_of_user e.user later)) (visible entries snapshot)
    else visible entries snapshot
