-- The one index block that is made of some pairs of a separator and a handle.
-- RocksDB: ShortenedIndexBuilder::AddIndexEntry and Finish in table/block_based/index_builder.h, and IndexValue::EncodeTo in
-- table/format.cc.
use Rattle.std.specs.Prelude.{ℕ, zero, suc, ◌+◌, ◌%◌, ◌==◌, pos, ◌-ℤ◌, Bool, true, false, if◌then◌else◌, List, [], ◌∷◌}
use Rattle.sst_num.specs.Spelling.{signed_varint, handle_spelling}
use Rattle.sst_num.specs.declared.block_handle.Handle.{Handle}
use Rattle.sst_block.specs.declared.row_form.RowForm.{RowForm}
use Rattle.sst_block.specs.declared.row_form.RowForm.TheVariants.{Index}
use Rattle.sst_block.specs.Block.{Row, common, no_handle}
use Rattle.sst_block.specs.Chosen.{block_of}
use Rattle.sst_block.specs.IndexRows.{IndexPair}
use Rattle.sst_index.specs.declared.flags.IndexFlags.{IndexFlags}

-- the form of the rows
-- Pinned by: finish.says
abbrev pub form_of : IndexFlags → RowForm
form_of flags = Index flags.user_key flags.delta

-- the value of a row that shares so many bytes: the handle, or the difference of its size from that of the handle before,
-- where handles are differences and the row shares bytes
-- RocksDB: table/format.cc, IndexValue::EncodeTo
-- Pinned by: an_index_block_says_its_pairs, index_of_differences
abbrev pub handle_value : Bool → ℕ → Handle → Handle → List ℕ
handle_value false shared before h = handle_spelling h
handle_value true zero before h = handle_spelling h
handle_value true (suc shared) before h = signed_varint (pos h.size -ℤ pos before.size)

-- the rows of the pairs, with a restart at each `interval`-th row; `i` is the number of the first, `key` the separator before
-- it, and `before` the handle before it
-- RocksDB: table/block_based/index_builder.h, AddIndexEntry
-- Pinned by: an_index_block_says_its_pairs
abbrev pub index_rows : Bool → ℕ → ℕ → List ℕ → Handle → List IndexPair → List Row
index_rows delta interval i key before [] = []
index_rows delta interval i key before (pair ∷ pairs) =
    record {
      key = pair.separator;
      value = handle_value delta (if i % interval == 0 then 0 else common key pair.separator) before pair.handle;
    } ∷ index_rows delta interval (i + 1) pair.separator pair.handle pairs

-- all rows of the pairs
-- RocksDB: table/block_based/index_builder.h, AddIndexEntry
-- Pinned by: an_index_block_says_its_pairs
abbrev pub rows_of_pairs : IndexFlags → ℕ → List IndexPair → List Row
rows_of_pairs flags interval pairs = index_rows flags.delta interval 0 [] no_handle pairs

-- the index block of the pairs
-- Pinned by: an_index_block_says_its_pairs, finish.exact
abbrev pub index_block : IndexFlags → ℕ → List IndexPair → List ℕ
index_block flags interval pairs = block_of (form_of flags) interval (rows_of_pairs flags interval pairs)
