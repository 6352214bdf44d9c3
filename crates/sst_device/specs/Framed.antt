-- How a block is stored in a file: the block, and its trailer of five bytes.
-- RocksDB: BlockBasedTable::kBlockTrailerSize in table/block_based/block_based_table_reader.h,
-- ComputeBuiltinChecksumWithLastByte in table/format.cc, and
-- BlockBasedTableBuilder::WriteMaybeCompressedBlock in table/block_based/block_based_table_builder.cc.
-- Pinned by: stored_blocks
use Rattle.std.specs.Prelude.{◌≡◌, ℕ, ◌+◌, ◌≤◌, List, [], ◌∷◌, ◌++◌, take, drop}
use Rattle.sst_num.specs.Spelling.{fixed}
use Rattle.sst_num.specs.declared.block_handle.Handle.{Handle}
use Rattle.sst_key.specs.Limits.{block_limit}
use Rattle.sst_sums.specs.Sums.{mask, crc32c}

-- the stored checksum of a block that isn't compressed: over the block and its type byte, which is 0
abbrev pub stored_checksum : List ℕ → List ℕ
stored_checksum block = fixed 4 (mask (crc32c (block ++ 0 ∷ [])))

-- what follows a block that isn't compressed: the type byte, and the checksum
unfoldable pub trailer_of : List ℕ → List ℕ
trailer_of block = 0 ∷ stored_checksum block

-- a stored block
-- Pinned by: frame_is_framed, stored_blocks
abbrev pub frame_of : List ℕ → List ℕ
frame_of block = block ++ trailer_of block

-- `n` bytes of the file from `at` on
-- Own.
-- Pinned by: a_range
abbrev pub bytes_at : List ℕ → ℕ → ℕ → List ℕ
bytes_at file at n = take n (drop at file)

-- The block that a handle stands for in a file. `end` is the file's length without its footer.
-- RocksDB: table/block_based/block_based_table_reader.h, kBlockTrailerSize; the limit is own
-- Pinned by: a_stored_block_is_read, blocks_that_are_read
pub record Framed (file : List ℕ) (end : ℕ) (handle : Handle) (block : List ℕ) : Type 0 where
  -- the block and its trailer end before the footer
  pub within : handle.offset + handle.size + 5 ≤ end
  -- a reader takes no larger block
  pub limited : handle.size ≤ block_limit
  -- the block stands there
  pub stands : bytes_at file handle.offset handle.size ≡ block
  -- the next byte says that it isn't compressed
  pub uncompressed : bytes_at file (handle.offset + handle.size) 1 ≡ 0 ∷ []
  -- and then comes its checksum
  pub checksum : bytes_at file (handle.offset + handle.size + 1) 4 ≡ stored_checksum block

-- The block without a trailer that a handle stands for in a file, as plain and cuckoo tables keep their meta blocks.
-- `end` is the file's length without its footer.
-- RocksDB: BlockTrailerSizeForMagicNumber in table/format.cc, and WriteBlock in table/plain/plain_table_builder.cc; the
-- limit is own.
-- Pinned by: a_block_without_a_trailer_is_bare
pub record Bare (file : List ℕ) (end : ℕ) (handle : Handle) (block : List ℕ) : Type 0 where
  -- the block ends before the footer
  pub within : handle.offset + handle.size ≤ end
  -- a reader takes no larger block
  pub limited : handle.size ≤ block_limit
  -- the block stands there
  pub stands : bytes_at file handle.offset handle.size ≡ block
