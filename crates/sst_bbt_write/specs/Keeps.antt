-- What a block-based writer keeps of a list, however it is cut into blocks: so it stands between the steps of one call too.
-- RocksDB: BlockBasedTableBuilder::Rep in table/block_based/block_based_table_builder.cc.
-- Pinned by: add.ok, finish.written
use Rattle.std.specs.Prelude.{◌≡◌, ℕ, ◌<◌, if◌then◌else◌, false, List, [], ◌∷◌, ◌++◌, length, All, Option, None}
use Rattle.sst_key.specs.declared.entries.Entry.{Entry}
use Rattle.sst_key.specs.Entry.{key_of, weight}
use Rattle.sst_block.specs.declared.row_form.RowForm.TheVariants.{Entries}
use Rattle.sst_block.specs.Builder as builder
use Rattle.sst_index.specs.Index as index
use Rattle.sst_bbt_spec.specs.Rows.{rows_of}
use Rattle.sst_bbt_write.specs.Cut.{Blocks, ended_all, entries_in, is_full}
use Rattle.sst_bbt_write.specs.declared.bbt_options.BbtOptions.{BbtOptions}
use Rattle.sst_bbt_write.specs.Written.{Fits, MayBeChosen, data_part, ends_from, index_options, key_bytes, next_key, value_bytes}
use Rattle.sst_bbt_write.specs.declared.bbt_writer.BbtWriter.{BbtWriter}

-- the block has an entry
-- Own.
-- Pinned by: finish.written
abbrev pub HasEntry : List Entry → Type 0
HasEntry block = 0 < length block

-- all that the writer keeps is what the list gives, cut into these blocks, and these bytes were appended; `next` is the key
-- that the index was told of the entry behind the list, if it was told one
-- For proofs alone.
pub record Keeps (w : BbtWriter) (next : Option (List ℕ)) (cut : Blocks) (entries : List Entry) (bytes : List ℕ) : Type 0 where
  pub sound : w.failed ≡ false
  pub chosen : MayBeChosen w.options
  -- the blocks are the list, and each that is ended has an entry
  pub joined : entries ≡ entries_in cut.ended ++ cut.current
  pub filled : All HasEntry cut.ended
  -- the block that isn't ended
  pub block : builder.Holds w.block Entries w.options.restart (rows_of cut.current)
  pub rows : w.rows ≡ length cut.current
  -- the index and the number of those that are, which were appended
  pub index : index.Holds w.index (index_options w.options) (ends_from w.options 0 cut.ended (next_key (cut.current ∷ []) next))
  pub blocks : w.blocks ≡ length cut.ended
  pub data_size : w.data_size ≡ length bytes
  pub appended : bytes ≡ data_part w.options cut.ended
  -- the entries
  pub last : w.last.items ≡ builder.last_key [] (rows_of entries)
  pub count : w.count ≡ length entries
  pub keys : w.keys ≡ key_bytes entries
  pub values : w.values ≡ value_bytes entries
  pub weighs : w.weight ≡ weight entries
  pub fits : Fits entries

-- the writer keeps some list, and was told of no entry behind it
-- For proofs alone.
abbrev pub KeepsSome : BbtWriter → Type 0
KeepsSome w = (cut : Blocks) × (entries : List Entry) × (bytes : List ℕ) × Keeps w None cut entries bytes

-- no block is ended where none is begun
-- For proofs alone.
abbrev pub IsBegun : Blocks → Type 0
IsBegun cut = cut.current ≡ [] → cut.ended ≡ []

-- the entry may be added to the list that the writer keeps, and its internal key is made
-- For proofs alone.
pub record Awaits (w : BbtWriter) (e : Entry) (cut : Blocks) (entries : List Entry) (bytes : List ℕ) : Type 0 where
  pub keeps : Keeps w None cut entries bytes
  pub begun : IsBegun cut
  pub key : w.key.items ≡ key_of e
  pub fits : Fits (entries ++ e ∷ [])

-- the data block may be ended: it has an entry, and the list goes on with these entries, the first of which has that key
-- For proofs alone.
pub record MayEnd (w : BbtWriter) (next : Option (List ℕ)) (coming : List Entry) (cut : Blocks) (entries : List Entry) (bytes : List ℕ) : Type 0 where
  pub keeps : Keeps w None cut entries bytes
  pub some : 0 < w.rows
  pub key : next ≡ next_key (coming ∷ []) None
  pub fits : Fits (entries ++ coming)

-- blocks, all of which are ended
-- For proofs alone.
abbrev pub all_ended : List (List Entry) → Blocks
all_ended blocks = record { ended = blocks; current = [] }

-- the block is ended, and none is begun
-- RocksDB: Flush, Finish
abbrev pub ended_now : Blocks → Blocks
ended_now cut = all_ended (cut.ended ++ cut.current ∷ [])

-- the block is ended, if it has an entry
-- RocksDB: Flush, Finish
abbrev pub ended_last : Blocks → Blocks
ended_last cut = all_ended (ended_all cut)

-- the block is ended, if it is full
-- RocksDB: Flush, Finish
abbrev pub with_room : BbtOptions → Blocks → Blocks
with_room options cut = if is_full options cut.current then ended_now cut else cut

-- the block has an entry more
-- RocksDB: Flush, Finish
abbrev pub with_entry : Blocks → Entry → Blocks
with_entry cut e = record { ended = cut.ended; current = cut.current ++ e ∷ [] }
