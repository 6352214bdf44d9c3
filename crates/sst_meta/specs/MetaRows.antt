-- The rows of a meta block as a writer gives them: names, and values that are numbers, handles or bytes.
-- RocksDB: PropertyBlockBuilder::Add and AddTableProperty, and MetaIndexBuilder::Add, in table/meta_blocks.cc.
-- Pinned by: put_ending.ok, what_was_put
use Rattle.std.specs.Prelude.{ℕ, ◌+◌, ◌<◌, List, map, sum_by, All}
use Rattle.sst_num.specs.Spelling.{varint, fixed, handle_spelling}
use Rattle.sst_key.specs.Limits.{block_limit}
use Rattle.sst_block.specs.declared.row_form.RowForm.TheVariants.{Names}
use Rattle.sst_block.specs.Block.{Row, IsRow, AreOrdered}
use Rattle.sst_block.specs.Builder.{row_room}
use Rattle.sst_meta.specs.declared.meta_row.MetaRow.{MetaRow}
use Rattle.sst_meta.specs.declared.meta_row.MetaValue.{MetaValue}
use Rattle.sst_meta.specs.declared.meta_row.MetaValue.TheVariants.{Varint, Fixed32, BlockHandle, Bytes}

-- the bytes of a value
abbrev pub value_spelling : MetaValue → List ℕ
value_spelling (Varint number) = varint number
value_spelling (Fixed32 number) = fixed 4 number
value_spelling (BlockHandle handle) = handle_spelling handle
value_spelling (Bytes bytes) = bytes.now

-- a name and the bytes of its value, as the block has them
abbrev pub row_given : MetaRow → Row
row_given row = record { key = row.name.now; value = value_spelling row.value }

abbrev pub rows_given : List MetaRow → List Row
rows_given rows = map row_given rows

-- the rows may stand in one block of names: none is too long, they are in bytewise order of the names, and they have
-- room
-- Own.
-- Pinned by: put_ending.ok, what_was_put
pub record AreMetaRows (rows : List Row) : Type 0 where
  pub forms : All (IsRow Names) rows
  pub ordered : AreOrdered Names rows
  pub room : sum_by row_room rows + 8 < block_limit
