-- The way of each call through the tree of an index, as it is found in a file: step by step, with the first fault
-- that it meets. Each rule says in its last argument what lies beyond, or before, what it goes through.
-- RocksDB: PartitionedIndexIterator (SeekImpl, FindBlockForward, FindKeyBackward) in
-- table/block_based/partitioned_index_iterator.cc, and BlockBasedTableIterator (SeekImpl, SeekForPrev, FindKeyForward,
-- FindKeyBackward) in table/block_based/block_based_table_iterator.cc.
-- Pinned by: a_way_without_a_fault_is_counted, a_fault_ends_the_way
use Rattle.std.specs.Prelude.{ℕ, zero, suc, Bool, if◌then◌else◌, nat_lt, List, [], ◌∷◌, length, count_by, Option, None, Some, option_and_then, Ok}
use Rattle.sst_key.specs.declared.entries.Entry.{Entry}
use Rattle.sst_key.specs.declared.calls.Call.{Call}
use Rattle.sst_key.specs.declared.calls.Call.TheVariants.{Get, First, Last, Seek, SeekForPrev, Next, Prev}
use Rattle.sst_key.specs.ListMachine.{is_before_target, is_up_to_target, is_of_user}
use Rattle.sst_bbt_spec.specs.Mark.{shown, is_before_seek, is_before_prev}
use Rattle.sst_bbt_spec.specs.FoundParts.{FoundBlock, FoundPart, Place, Landing, then_open, entry_in}

-- the row of a data block, if it has so many; else what lies beyond the block
abbrev pub row_or_beyond : {F : Type 0} → ℕ → ℕ → ℕ → List Entry → Landing F → Landing F
row_or_beyond part block row entries beyond =
    if nat_lt row (length entries) then Ok (Some (record { part = part; block = block; row = row })) else beyond

-- the last of so many rows of a data block; where they are none, what lies before the block
abbrev pub row_or_before : {F : Type 0} → ℕ → ℕ → ℕ → Landing F → Landing F
row_or_before part block zero before = before
row_or_before part block (suc row) before = Ok (Some (record { part = part; block = block; row = row }))

-- ---- the first row and the last

-- the first row at the first of these index rows of a part
abbrev pub first_in_blocks : {F : Type 0} → ℕ → ℕ → List (FoundBlock F) → Landing F → Landing F
first_in_blocks part block [] beyond = beyond
first_in_blocks part block (found ∷ rest) beyond =
    then_open found.entries (λ entries. row_or_beyond part block 0 entries (first_in_blocks part (suc block) rest beyond))

-- the first row at the first index row of the first of these parts
abbrev pub first_from : {F : Type 0} → ℕ → List (FoundPart F) → Landing F
first_from part [] = Ok None
first_from part (found ∷ rest) =
    then_open found.blocks (λ blocks. first_in_blocks part 0 blocks (first_from (suc part) rest))

-- the last row at the last of these index rows of a part
abbrev pub last_in_blocks : {F : Type 0} → ℕ → ℕ → List (FoundBlock F) → Landing F → Landing F
last_in_blocks part block [] before = before
last_in_blocks part block (found ∷ rest) before =
    last_in_blocks part (suc block) rest (then_open found.entries (λ entries. row_or_before part block (length entries) before))

-- the last row at the last index row of the last of these parts
abbrev pub last_from : {F : Type 0} → ℕ → List (FoundPart F) → Landing F → Landing F
last_from part [] before = before
last_from part (found ∷ rest) before =
    last_from (suc part) rest (then_open found.blocks (λ blocks. last_in_blocks part 0 blocks before))

-- ---- Seek

-- In a part: the first index row that isn't before the target leads to a data block, and the way ends at the first row
-- there behind those that are before the target, be it in the next block. The rows of a block are in order, so the rows
-- before the target come first.
abbrev pub seek_in_blocks : {F : Type 0} → (List ℕ → Bool) → (Entry → Bool) → ℕ → ℕ → List (FoundBlock F) → Landing F → Landing F
seek_in_blocks is_before test part block [] beyond = beyond
seek_in_blocks is_before test part block (found ∷ rest) beyond =
    if is_before found.separator
    then seek_in_blocks is_before test part (suc block) rest beyond
    else then_open found.entries
    (λ entries. row_or_beyond part block (count_by test entries) entries (first_in_blocks part (suc block) rest beyond))

-- The first top row that isn't before the target leads to a part; where this one has no such index row, the way ends
-- at the first row of the next part. Where no top row is such, it ends nowhere.
abbrev pub seek_from : {F : Type 0} → (List ℕ → Bool) → (Entry → Bool) → ℕ → List (FoundPart F) → Landing F
seek_from is_before test part [] = Ok None
seek_from is_before test part (found ∷ rest) =
    if is_before found.separator
    then seek_from is_before test (suc part) rest
    else then_open found.blocks (λ blocks. seek_in_blocks is_before test part 0 blocks (first_from (suc part) rest))

-- ---- SeekForPrev

-- In a part: the first index row that isn't before the target leads to a data block, and the way ends at the last of
-- the rows there that are before the target or at it, be it in the block before. Where the part has no such index
-- row, it ends at the part's last row.
abbrev pub prev_in_blocks : {F : Type 0} → (List ℕ → Bool) → (Entry → Bool) → ℕ → ℕ → List (FoundBlock F) → Landing F → Landing F
prev_in_blocks is_before test part block [] before = before
prev_in_blocks is_before test part block (found ∷ rest) before =
    if is_before found.separator
    then prev_in_blocks is_before test part (suc block) rest
    (then_open found.entries (λ entries. row_or_before part block (length entries) before))
    else then_open found.entries (λ entries. row_or_before part block (count_by test entries) before)

-- The first top row that isn't before the target leads to a part. Where each is before it, the way ends where Last
-- does.
abbrev pub prev_from : {F : Type 0} → (List ℕ → Bool) → (Entry → Bool) → ℕ → List (FoundPart F) → Landing F → Landing F
prev_from is_before test part [] before = before
prev_from is_before test part (found ∷ rest) before =
    if is_before found.separator
    then prev_from is_before test (suc part) rest (then_open found.blocks (λ blocks. last_in_blocks part 0 blocks before))
    else then_open found.blocks (λ blocks. prev_in_blocks is_before test part 0 blocks before)

-- ---- Next and Prev

-- In a part, from the row at `at` of its index and `row` of the data block there: the next row of the block, else the
-- first row at the next index row. `block` is the number of the first of these index rows.
abbrev pub forward_in_blocks : {F : Type 0} → ℕ → ℕ → List (FoundBlock F) → ℕ → ℕ → Landing F → Landing F
forward_in_blocks part block [] at row beyond = beyond
forward_in_blocks part block (found ∷ rest) zero row beyond =
    then_open found.entries (λ entries. row_or_beyond part block (suc row) entries (first_in_blocks part (suc block) rest beyond))
forward_in_blocks part block (found ∷ rest) (suc at) row beyond = forward_in_blocks part (suc block) rest at row beyond

-- the same over parts, from the part at `at`: else the first row of the next part, else nothing
abbrev pub forward_from : {F : Type 0} → ℕ → List (FoundPart F) → ℕ → ℕ → ℕ → Landing F
forward_from part [] at block row = Ok None
forward_from part (found ∷ rest) zero block row =
    then_open found.blocks (λ blocks. forward_in_blocks part 0 blocks block row (first_from (suc part) rest))
forward_from part (found ∷ rest) (suc at) block row = forward_from (suc part) rest at block row

-- in a part: the row before in the data block, else the last row at the index row before
abbrev pub back_in_blocks : {F : Type 0} → ℕ → ℕ → List (FoundBlock F) → ℕ → ℕ → Landing F → Landing F
back_in_blocks part block [] at row before = before
back_in_blocks part block (found ∷ rest) zero row before = row_or_before part block row before
back_in_blocks part block (found ∷ rest) (suc at) row before =
    back_in_blocks part (suc block) rest at row (then_open found.entries (λ entries. row_or_before part block (length entries) before))

-- the same over parts: else the last row of the part before, else nothing
abbrev pub back_from : {F : Type 0} → ℕ → List (FoundPart F) → ℕ → ℕ → ℕ → Landing F → Landing F
back_from part [] at block row before = before
back_from part (found ∷ rest) zero block row before =
    then_open found.blocks (λ blocks. back_in_blocks part 0 blocks block row before)
back_from part (found ∷ rest) (suc at) block row before =
    back_from (suc part) rest at block row (then_open found.blocks (λ blocks. last_in_blocks part 0 blocks before))

-- ---- the calls

-- where Seek lands, and Get looks
abbrev pub seek_landing : {F : Type 0} → Option ℕ → List (FoundPart F) → List ℕ → ℕ → Landing F
seek_landing mark parts user seq = seek_from (is_before_seek mark user seq) (λ e. is_before_target user seq (shown mark e)) 0 parts

-- where SeekForPrev lands
abbrev pub seek_for_prev_landing : {F : Type 0} → Option ℕ → List (FoundPart F) → List ℕ → ℕ → Landing F
seek_for_prev_landing mark parts user seq = prev_from (is_before_prev mark user seq) (λ e. is_up_to_target user seq (shown mark e)) 0 parts (Ok None)

-- the place, if the entry there passes the test
abbrev pub place_if : (Entry → Bool) → Place → Option Entry → Option Place
place_if test place None = None
place_if test place (Some e) = if test e then Some place else None

-- of a landing the place, if the entry there has the user key
abbrev pub of_user : {F : Type 0} → List (FoundPart F) → List ℕ → Option Place → Option Place
of_user parts user at = option_and_then (λ place. place_if (is_of_user user) place (entry_in parts place)) at

-- Next goes forward from a place, and has no way from nowhere
abbrev pub next_landing : {F : Type 0} → List (FoundPart F) → Option Place → Landing F
next_landing parts None = Ok None
next_landing parts (Some place) = forward_from 0 parts place.part place.block place.row

-- Prev goes back from a place, and has no way from nowhere
abbrev pub prev_landing : {F : Type 0} → List (FoundPart F) → Option Place → Landing F
prev_landing parts None = Ok None
prev_landing parts (Some place) = back_from 0 parts place.part place.block place.row (Ok None)

-- where the way of a call ends from a position (None is nowhere); of Get, the place of the entry that it finds
abbrev pub landing_of : {F : Type 0} → Option ℕ → List (FoundPart F) → Option Place → Call → Landing F
landing_of mark parts position (Get target) = then_open (seek_landing mark parts target.user target.seq) (λ at. Ok (of_user parts target.user at))
landing_of mark parts position First = first_from 0 parts
landing_of mark parts position Last = last_from 0 parts (Ok None)
landing_of mark parts position (Seek target) = seek_landing mark parts target.user target.seq
landing_of mark parts position (SeekForPrev target) = seek_for_prev_landing mark parts target.user target.seq
landing_of mark parts position Next = next_landing parts position
landing_of mark parts position Prev = prev_landing parts position
