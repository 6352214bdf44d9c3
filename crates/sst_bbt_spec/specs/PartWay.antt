-- What the seven calls answer over the parts of an index: Get, Seek and SeekForPrev go by the top block to a part, by
-- the rows of the part to a data block, and there to an entry. Where the separators separate, these are the answers of the
-- list. Places are numbers in the list of all entries.
-- RocksDB: PartitionedIndexIterator (SeekImpl, FindBlockForward) in table/block_based/partitioned_index_iterator.cc, and
-- BlockBasedTableIterator (SeekImpl, SeekForPrev) in table/block_based/block_based_table_iterator.cc.
-- Pinned by: the_way_over_parts_is_the_lists, the_tree_decides
use Rattle.std.specs.Prelude.{ℕ, ◌+◌, Bool, if◌then◌else◌, List, [], ◌∷◌, length, slice_get, Option, None, Some, option_and_then}
use Rattle.std.specs.Option.{option_map}
use Rattle.sst_key.specs.declared.entries.Entry.{Entry}
use Rattle.sst_key.specs.declared.calls.Call.{Call}
use Rattle.sst_key.specs.declared.calls.Call.TheVariants.{Get, First, Last, Seek, SeekForPrev, Next, Prev}
use Rattle.sst_key.specs.declared.calls.Answer.{Answer}
use Rattle.sst_key.specs.ListMachine.{is_before_target, is_up_to_target, is_of_user, where_passes, place_in, first_of, last_of, steps_on, steps_back, shows, lands}
use Rattle.sst_bbt_spec.specs.Way.{joined, passed, last_passed}
use Rattle.sst_bbt_spec.specs.Parts.{Part}
use Rattle.sst_bbt_spec.specs.Mark.{shown, shown_in, is_before_seek, is_before_prev}

-- all entries of a part are passed where each of its separators is before
-- RocksDB: partitioned_index_iterator.cc, FindBlockForward, which goes to the next part; for SeekForPrev it is own
abbrev pub or_all : List Entry → Option ℕ → ℕ
or_all entries None = length entries
or_all entries (Some n) = n

-- How many entries are passed on the way: all of each part whose separator is before, and then, of the first part whose
-- separator isn't, those that are passed on the way through its blocks. None where every separator is before.
abbrev pub passed_in : (List ℕ → Bool) → (Entry → Bool) → List Part → Option ℕ
passed_in is_before test [] = None
passed_in is_before test (part ∷ rest) =
    if is_before part.separator
    then option_map (λ n. length (joined part.blocks) + n) (passed_in is_before test rest)
    else Some (or_all (joined part.blocks) (passed is_before test part.blocks))

-- the entries that are before the target on the way of Seek and Get
abbrev pub seek_passed_in : Option ℕ → List Part → List ℕ → ℕ → Option ℕ
seek_passed_in mark parts user seq = passed_in (is_before_seek mark user seq) (λ e. is_before_target user seq (shown mark e)) parts

-- the entries that are before the target or at it on the way of SeekForPrev
abbrev pub prev_passed_in : Option ℕ → List Part → List ℕ → ℕ → Option ℕ
prev_passed_in mark parts user seq = passed_in (is_before_prev mark user seq) (λ e. is_up_to_target user seq (shown mark e)) parts

-- where Seek lands: after the entries that it passed, be it in the next block or part; nowhere where every separator of
-- the top block is before
-- RocksDB: SeekImpl, FindBlockForward
abbrev pub seek_in_parts : Option ℕ → List Part → List ℕ → ℕ → Option ℕ
seek_in_parts mark parts user seq = option_and_then (λ n. place_in (shown_in mark parts) n) (seek_passed_in mark parts user seq)

-- what Get shows: where Seek lands, if the entry there has the target's user key
-- RocksDB: BlockBasedTable::Get in table/block_based/block_based_table_reader.cc
abbrev pub get_in_parts : Option ℕ → List Part → List ℕ → ℕ → Option ℕ
get_in_parts mark parts user seq =
    option_and_then (λ i. where_passes (is_of_user user) i (slice_get (shown_in mark parts) i)) (seek_in_parts mark parts user seq)

-- where SeekForPrev lands: at the last entry that it passed, be it in the block or part before; at the last of all where
-- every separator of the top block is before
-- RocksDB: SeekForPrev, FindKeyBackward; that it is the last of all where every separator is before the target is own
abbrev pub seek_for_prev_in_parts : Option ℕ → List Part → List ℕ → ℕ → Option ℕ
seek_for_prev_in_parts mark parts user seq = last_passed (shown_in mark parts) (prev_passed_in mark parts user seq)

-- what a call answers at a position (None is nowhere)
-- RocksDB: include/rocksdb/db.h, iterator.h
abbrev pub answer_in_parts : Option ℕ → List Part → Option ℕ → Call → Answer
answer_in_parts mark parts position (Get target) = shows position (get_in_parts mark parts target.user target.seq)
answer_in_parts mark parts position First = lands (first_of (shown_in mark parts))
answer_in_parts mark parts position Last = lands (last_of (shown_in mark parts))
answer_in_parts mark parts position (Seek target) = lands (seek_in_parts mark parts target.user target.seq)
answer_in_parts mark parts position (SeekForPrev target) = lands (seek_for_prev_in_parts mark parts target.user target.seq)
answer_in_parts mark parts position Next = steps_on (shown_in mark parts) position
answer_in_parts mark parts position Prev = steps_back position

-- what a sequence of calls answers, from a position on
abbrev pub replies_in_parts_from : Option ℕ → List Part → Option ℕ → List Call → List Answer
replies_in_parts_from mark parts position [] = []
replies_in_parts_from mark parts position (call ∷ calls) =
    answer_in_parts mark parts position call
    ∷ replies_in_parts_from mark parts (answer_in_parts mark parts position call).position calls

-- what a sequence of calls answers, from nowhere on
abbrev pub replies_in_parts : Option ℕ → List Part → List Call → List Answer
replies_in_parts mark parts calls = replies_in_parts_from mark parts None calls
