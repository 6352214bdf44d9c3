-- What a builder of a block holds between its calls: the rows that were added, spelled, and what the next row
-- needs of them. RocksDB: BlockBuilder in table/block_based/block_builder.h.
-- Pinned by: finish.exact
use Rattle.std.specs.Prelude.{◌≡◌, ◌⊎◌, ℕ, ◌+◌, ◌*◌, ◌%◌, ◌^◌, ◌==◌, ◌<◌, ◌≤◌, nat_lt, ◌&&◌, if◌then◌else◌, Bool, true, false, List, [], ◌∷◌, ◌++◌, length, All}
use Rattle.std.specs.List.{flat_map}
use Rattle.sst_num.specs.Spelling.{fixed, handle_spelling}
use Rattle.sst_num.specs.declared.block_handle.Handle.{Handle}
use Rattle.sst_key.specs.Limits.{block_limit}
use Rattle.sst_block.specs.declared.row_form.RowForm.{RowForm}
use Rattle.sst_block.specs.declared.builder.BlockBuilder.{BlockBuilder}
use Rattle.sst_block.specs.declared.row_form.RowForm.TheVariants.{Entries, Names, Index}
use Rattle.sst_block.specs.Block.{Row, Spelled, common, has_differences, row_spelling, IsRow, AreOrdered, no_handle, IsDifference, SayHandles, LeadTo}
use Rattle.sst_block.specs.IndexRows.{IndexPair, SayPairs}
use Rattle.sst_block.specs.Chosen.{chosen, restarts_of, block_of}

-- the key of the last row; `before` is the key before the rows
-- Own.
-- Pinned by: first_fault_is_first, what_a_file_stands_for_is_ordered
abbrev pub last_key : List ℕ → List Row → List ℕ
last_key before [] = before
last_key before (row ∷ rows) = last_key row.key rows

-- the most that a row takes of a block: its key and value, three lengths and a restart
-- For proofs alone.
-- Pinned by: finish.written
abbrev pub row_room : Row → ℕ
row_room row = length row.key + length row.value + 34

-- the rows as a builder spells them
-- For proofs alone.
abbrev pub spelled_of : ℕ → List Row → List Spelled
spelled_of interval rows = chosen interval 0 [] rows

-- how many bytes the next row shares, whose key this is
-- RocksDB: block_builder.cc, AddWithLastKeyImpl
-- Pinned by: each_group_begins_whole
abbrev pub shared_by : ℕ → List Row → List ℕ → ℕ
shared_by interval rows key = if length rows % interval == 0 then 0 else common (last_key [] rows) key

-- what stands in the block for a value: in its place the difference, where handles are differences and the row shares bytes
-- RocksDB: block_builder.cc, AddWithLastKeyImpl
-- Pinned by: index_blocks
abbrev pub value_put : RowForm → ℕ → List ℕ → List ℕ → List ℕ
value_put form shared value delta = if has_differences form && nat_lt 0 shared then delta else value

-- the next row as it stands in the block, of the key and the value that are given, and the difference
-- RocksDB: block_builder.cc, AddWithLastKeyImpl
-- Pinned by: index_blocks
abbrev pub row_put : RowForm → ℕ → List Row → Row → List ℕ → Row
row_put form interval rows row delta =
    record { key = row.key; value = value_put form (shared_by interval rows row.key) row.value delta }

-- of n rows `since` are in the group that the last restart began; a full group ends only at the next row
-- For proofs alone.
pub record Counts (interval n since : ℕ) : Type 0 where
  pub groups : ℕ
  pub whole : n ≡ groups * interval + since
  pub within : since ≤ interval

-- the most rows that a restart begins
-- Own.
-- Pinned by: chosen_block_stands_for_its_rows
abbrev pub interval_limit : ℕ
interval_limit = 65536

-- the rows may stand in a block of the form, which is shorter than a block may be
-- Pinned by: finish.block
pub record MayStand (form : RowForm) (interval : ℕ) (rows : List Row) : Type 0 where
  pub least : 1 ≤ interval
  pub most : interval ≤ interval_limit
  pub forms : All (IsRow form) rows
  pub ordered : AreOrdered form rows
  pub handles : SayHandles form no_handle (spelled_of interval rows)
  pub short : length (block_of form interval rows) < block_limit

-- what a builder keeps of the rows: their bytes, the restarts in four bytes each, how many those are, the key
-- of the last row, and how many rows are in its group
-- For proofs alone.
pub record Keeps (form : RowForm) (interval : ℕ) (rows : List Row) (bytes restarts last : List ℕ) (count since : ℕ) : Type 0 where
  pub bytes_are : bytes ≡ flat_map (row_spelling form) (spelled_of interval rows)
  pub restarts_are : restarts ≡ flat_map (fixed 4) (restarts_of form interval (spelled_of interval rows))
  pub last_is : last ≡ last_key [] rows
  pub count_is : count ≡ length (restarts_of form interval (spelled_of interval rows))
  pub counts : Counts interval (length rows) since
  pub begun : 0 < length rows → 0 < since

-- the same when the next row may be put, whichever it is: where a group was full, its restart is there and no
-- key is shared
-- For proofs alone.
pub record IsReady (form : RowForm) (interval : ℕ) (rows : List Row) (bytes restarts last : List ℕ) (count since : ℕ) : Type 0 where
  pub bytes_are : bytes ≡ flat_map (row_spelling form) (spelled_of interval rows)
  pub shares : (key : List ℕ) → shared_by interval rows key ≡ common last key
  pub spelled_are : (row : Row) → spelled_of interval (rows ++ row ∷ [])
      ≡ spelled_of interval rows ++ record { shared = common last row.key; row = row } ∷ []
  pub restarts_are : (row : Row) → restarts ≡ flat_map (fixed 4) (restarts_of form interval (spelled_of interval (rows ++ row ∷ [])))
  pub count_is : (row : Row) → count ≡ length (restarts_of form interval (spelled_of interval (rows ++ row ∷ [])))
  pub counts : Counts interval (length rows) since
  pub room : since < interval

-- memory ran out in an earlier call
-- Own.
-- Pinned by: add.err, add.later
abbrev pub HasFailed : BlockBuilder → Type 0
HasFailed b = b.failed ≡ true

-- the builder holds the rows, which were added in this order
-- Own.
-- Pinned by: finish.exact, finish.block
pub record Holds (b : BlockBuilder) (form : RowForm) (interval : ℕ) (rows : List Row) : Type 0 where
  pub sound : b.failed ≡ false
  pub form_is : b.form ≡ form
  pub interval_is : b.interval ≡ interval
  pub keeps : Keeps form interval rows b.bytes.items b.restarts.items b.last.items b.count b.since
  pub fits : MayStand form interval rows

-- the builder holds the rows and has made room for the next
-- For proofs alone.
pub record AwaitsRow (b : BlockBuilder) (form : RowForm) (interval : ℕ) (rows : List Row) : Type 0 where
  pub sound : b.failed ≡ false
  pub form_is : b.form ≡ form
  pub interval_is : b.interval ≡ interval
  pub ready : IsReady form interval rows b.bytes.items b.restarts.items b.last.items b.count b.since

-- the builder of an index holds the rows of these pairs
-- Own.
-- Pinned by: add.pairs, finish.index
pub record HoldsPairs (b : BlockBuilder) (user_key delta : Bool) (interval : ℕ) (pairs : List IndexPair) : Type 0 where
  pub rows : List Row
  pub holds : Holds b (Index user_key delta) interval rows
  pub says : SayPairs delta no_handle (spelled_of interval rows) pairs

-- where handles are differences, the value is a handle; behind a row, it begins 5 bytes after the end of the handle before, and
-- `delta` is its size less the size before
-- RocksDB: table/format.cc, IndexValue::EncodeTo
-- Pinned by: add.ok, add.pairs
abbrev pub GivesHandle : RowForm → List Spelled → List ℕ → List ℕ → Type 0
GivesHandle Entries spelled value delta = Unit {0}
GivesHandle Names spelled value delta = Unit {0}
GivesHandle (Index user_key false) spelled value delta = Unit {0}
GivesHandle (Index user_key true) spelled value delta =
    (before : Handle) × (h : Handle) × LeadTo (Index user_key true) no_handle spelled before × (h.offset < 2 ^ 64) × (h.size < 2 ^ 64)
    × (value ≡ handle_spelling h) × (0 < length spelled → IsDifference before delta h)

-- the row may come after those that the builder holds: it has the form, its key is after the last, and the
-- block stays short; where handles are differences, `delta` is that of its handle
-- Own.
-- Pinned by: add.ok
pub record Takes (b : BlockBuilder) (row : Row) (delta : List ℕ) : Type 0 where
  pub form : RowForm
  pub interval : ℕ
  pub rows : List Row
  pub holds : Holds b form interval rows
  pub has_form : IsRow form (row_put form interval rows row delta)
  pub given : GivesHandle form (spelled_of interval rows) row.value delta
  pub ordered : AreOrdered form (rows ++ row_put form interval rows row delta ∷ [])
  pub short : length (block_of form interval (rows ++ row_put form interval rows row delta ∷ [])) < block_limit

-- a builder that has failed refuses each row, and any other takes those that may come next
-- Own.
-- Pinned by: add.ok
abbrev pub CanAdd : BlockBuilder → Row → List ℕ → Type 0
CanAdd b row delta = HasFailed b ⊎ Takes b row delta
