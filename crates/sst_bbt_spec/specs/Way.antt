-- What the seven calls answer over the blocks of a table: Get, Seek and SeekForPrev go by the index, from the block to
-- which a target leads. Where the separators separate the blocks, these are the answers of the list.
-- RocksDB: BlockBasedTableIterator (SeekImpl, SeekForPrev) in table/block_based/block_based_table_iterator.cc, and
-- BlockBasedTable::Get in table/block_based/block_based_table_reader.cc.
-- Pinned by: the_way_is_the_lists, entries_after_separators
use Rattle.std.specs.Prelude.{◌≡◌, ◌≢◌, ℕ, ◌+◌, ◌*◌, Bool, if◌then◌else◌, List, [], ◌∷◌, ◌++◌, length, count_by, slice_get, All, Option, None, Some, option_and_then}
use Rattle.std.specs.Option.{option_map}
use Rattle.std.specs.Ordering.{nat_cmp, ordering_then, is_lt}
use Rattle.std.specs.Cmp.Lexicographic.{slice_cmp}
use Rattle.std.specs.declared.cmp.Ordering.TheVariants.{Less, Greater}
use Rattle.sst_key.specs.declared.entries.Entry.{Entry}
use Rattle.sst_key.specs.declared.calls.Call.{Call}
use Rattle.sst_key.specs.declared.calls.Call.TheVariants.{Get, First, Last, Seek, SeekForPrev, Next, Prev}
use Rattle.sst_key.specs.declared.calls.Answer.{Answer}
use Rattle.sst_key.specs.Entry.{key_of}
use Rattle.sst_key.specs.InternalKey.{user_of, tag_of, internal_cmp}
use Rattle.sst_key.specs.ListMachine.{is_before_target, is_up_to_target, is_of_user, where_passes, place_in, place_before, first_of, last_of, steps_on, steps_back, shows, lands}

-- a data block as a table has it: its separator, which the index has as a stored key, and its entries
-- Pinned by: a_file_stands_for_one_list
pub record IndexedBlock : Type 0 where
  pub separator : List ℕ
  pub entries : List Entry

-- the entries of all blocks, in order: the places of entries are numbers in this list
-- Own.
-- Pinned by: the_way_is_the_lists, calls_on_versions
abbrev pub joined : List IndexedBlock → List Entry
joined [] = []
joined (block ∷ rest) = block.entries ++ joined rest

-- the tag with which Seek and Get look for a target: the greatest of the sequence number
-- RocksDB: db/dbformat.h, kValueTypeForSeek, kValueTypeForSeekForPrev; RocksDB takes the greatest kind that it
-- knows, and that it is 255 is own
-- Pinned by: the_way_is_the_lists
abbrev pub seek_tag : ℕ → ℕ
seek_tag seq = seq * 256 + 255

-- the tag with which SeekForPrev looks for it: the least
-- RocksDB: db/dbformat.h, kValueTypeForSeek, kValueTypeForSeekForPrev; RocksDB takes the greatest kind that it
-- knows, and that it is 255 is own
-- Pinned by: the_way_is_the_lists
abbrev pub seek_for_prev_tag : ℕ → ℕ
seek_for_prev_tag seq = seq * 256

-- the separator is before the stored key of this user key and this tag
-- RocksDB: InternalKeyComparator
abbrev pub is_separator_before : List ℕ → ℕ → List ℕ → Bool
is_separator_before user t separator = is_lt (ordering_then (slice_cmp nat_cmp (user_of separator) user) (nat_cmp t (tag_of separator)))

-- How many entries are passed on the way: all of each block whose separator is before, and then, of the first block
-- whose separator isn't, those that pass the test. None where every separator is before.
abbrev pub passed : (List ℕ → Bool) → (Entry → Bool) → List IndexedBlock → Option ℕ
passed is_before test [] = None
passed is_before test (block ∷ rest) =
    if is_before block.separator
    then option_map (λ n. length block.entries + n) (passed is_before test rest)
    else Some (count_by test block.entries)

-- the entries that are before the target on the way of Seek and Get
abbrev pub seek_passed : List IndexedBlock → List ℕ → ℕ → Option ℕ
seek_passed blocks user seq = passed (is_separator_before user (seek_tag seq)) (is_before_target user seq) blocks

-- the entries that are before the target or at it on the way of SeekForPrev
abbrev pub seek_for_prev_passed : List IndexedBlock → List ℕ → ℕ → Option ℕ
seek_for_prev_passed blocks user seq = passed (is_separator_before user (seek_for_prev_tag seq)) (is_up_to_target user seq) blocks

-- where Seek lands: after the entries that it passed, be it in the next block; nowhere where every separator is before
-- RocksDB: SeekImpl, FindBlockForward
abbrev pub way_seek : List IndexedBlock → List ℕ → ℕ → Option ℕ
way_seek blocks user seq = option_and_then (λ n. place_in (joined blocks) n) (seek_passed blocks user seq)

-- what Get shows: where Seek lands, if the entry there has the target's user key
abbrev pub way_get : List IndexedBlock → List ℕ → ℕ → Option ℕ
way_get blocks user seq =
    option_and_then (λ i. where_passes (is_of_user user) i (slice_get (joined blocks) i)) (way_seek blocks user seq)

-- the last of so many entries; where every separator is before, the last of all
-- RocksDB: SeekForPrev, FindKeyBackward; that it is the last of all where every separator is before the target is
-- own: RocksDB looks in the last block, which differs where separators don't separate
-- Pinned by: the_way_is_the_lists, entries_after_separators
abbrev pub last_passed : List Entry → Option ℕ → Option ℕ
last_passed entries None = last_of entries
last_passed entries (Some n) = place_before n

-- where SeekForPrev lands: at the last entry that it passed, be it in the block before
-- RocksDB: SeekForPrev, FindKeyBackward; that it is the last of all where every separator is before the target is
-- own: RocksDB looks in the last block, which differs where separators don't separate
-- Pinned by: the_way_is_the_lists, entries_after_separators
abbrev pub way_seek_for_prev : List IndexedBlock → List ℕ → ℕ → Option ℕ
way_seek_for_prev blocks user seq = last_passed (joined blocks) (seek_for_prev_passed blocks user seq)

-- what a call answers at a position (None is nowhere)
-- Pinned by: the_way_is_the_lists, files_of_one_list
abbrev pub way_answer : List IndexedBlock → Option ℕ → Call → Answer
way_answer blocks position (Get target) = shows position (way_get blocks target.user target.seq)
way_answer blocks position First = lands (first_of (joined blocks))
way_answer blocks position Last = lands (last_of (joined blocks))
way_answer blocks position (Seek target) = lands (way_seek blocks target.user target.seq)
way_answer blocks position (SeekForPrev target) = lands (way_seek_for_prev blocks target.user target.seq)
way_answer blocks position Next = steps_on (joined blocks) position
way_answer blocks position Prev = steps_back position

-- what a sequence of calls answers, from a position on
-- Pinned by: the_way_is_the_lists, files_of_one_list
abbrev pub way_replies_from : List IndexedBlock → Option ℕ → List Call → List Answer
way_replies_from blocks position [] = []
way_replies_from blocks position (call ∷ calls) =
    way_answer blocks position call ∷ way_replies_from blocks (way_answer blocks position call).position calls

-- what a sequence of calls answers, from nowhere on
-- Pinned by: the_way_is_the_lists, files_of_one_list
abbrev pub way_replies : List IndexedBlock → List Call → List Answer
way_replies blocks calls = way_replies_from blocks None calls

-- the entry isn't after the separator
-- RocksDB: InternalKeyComparator
-- Pinned by: the_way_is_the_lists, what_a_file_stands_for_is_ordered, a_key_between_separates
abbrev pub IsUpToSeparator : List ℕ → Entry → Type 0
IsUpToSeparator separator e = internal_cmp (key_of e) separator ≢ Greater

-- the entry is after the separator
-- RocksDB: InternalKeyComparator
-- Pinned by: the_way_is_the_lists, what_a_file_stands_for_is_ordered, a_key_between_separates
abbrev pub IsAfterSeparator : List ℕ → Entry → Type 0
IsAfterSeparator separator e = internal_cmp separator (key_of e) ≡ Less

-- the separators separate: no entry of a block is after its separator, and each entry of the blocks after it is
-- Pinned by: the_way_is_the_lists, what_a_file_stands_for_is_ordered, a_key_between_separates
abbrev pub Separate : List IndexedBlock → Type 0
Separate [] = Unit {0}
Separate (block ∷ rest) =
    All (IsUpToSeparator block.separator) block.entries × All (IsAfterSeparator block.separator) (joined rest) × Separate rest
