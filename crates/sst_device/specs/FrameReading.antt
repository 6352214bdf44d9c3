-- What a block handle leads to in a file: the block that is stored there, or the first thing that is wrong.
-- RocksDB: table/block_fetcher.cc (BlockFetcher::ReadBlockContents, ProcessTrailerIfPresent) and VerifyBlockChecksum
-- in table/block_based/reader_common.cc.
-- Pinned by: a_stored_block_is_read, blocks_that_are_read
use Rattle.std.specs.Prelude.{ℕ, ◌+◌, ◌==◌, nat_lt, if◌then◌else◌, List, take, drop, slice_index, Option, None, Some, Result, Ok, Err, Bool, false}
use Rattle.sst_num.specs.NumberReading.{fixed_at}
use Rattle.sst_num.specs.declared.block_handle.Handle.{Handle}
use Rattle.sst_key.specs.Limits.{block_limit}
use Rattle.sst_sums.specs.Sums.{mask, crc32c}
use Rattle.sst_device.specs.Framed.{bytes_at}
use Rattle.sst_device.specs.declared.frame.FrameFault.{FrameFault}
use Rattle.sst_device.specs.declared.frame.FrameFault.TheVariants.{OutOfFile, TooLarge, Checksum, Compressed}

-- what is wrong before anything is read: the block or its trailer passes the end, or the block is too large. `end` is
-- the file's length without its footer.
-- Pinned by: a_frame_fault_is_the_first, blocks_that_are_read
abbrev pub early_fault : ℕ → Handle → Option FrameFault
early_fault end h =
    if nat_lt end (h.offset + h.size + 5) then Some (OutOfFile h)
    else if nat_lt block_limit h.size then Some (TooLarge h)
    else None

-- a stored checksum is that of the bytes
abbrev pub is_checksum_of : List ℕ → Option ℕ → Bool
is_checksum_of bytes None = false
is_checksum_of bytes (Some stored) = stored == mask (crc32c bytes)

-- the checksum behind a block of n bytes and its type byte is theirs
abbrev pub has_checksum : ℕ → List ℕ → Bool
has_checksum n stored = is_checksum_of (take (n + 1) stored) (fixed_at 4 (drop (n + 1) stored))

-- the type byte behind a block of n bytes
-- Pinned by: a_frame_fault_is_the_first, blocks_that_are_read
abbrev pub type_byte : ℕ → List ℕ → ℕ
type_byte n stored = slice_index stored n

-- the block of a handle in its stored bytes, which are the block and its trailer: first the checksum, then the type
-- Pinned by: a_frame_fault_is_the_first, blocks_that_are_read
unfoldable pub opened : Handle → List ℕ → Result (List ℕ) FrameFault
opened h stored =
    if has_checksum h.size stored
    then (if type_byte h.size stored == 0 then Ok (take h.size stored) else Err (Compressed h (type_byte h.size stored)))
    else Err (Checksum h)

-- an early fault, or else what follows
-- Own.
-- Pinned by: a_frame_fault_is_the_first
abbrev pub unless_early : Option FrameFault → Result (List ℕ) FrameFault → Result (List ℕ) FrameFault
unless_early None read = read
unless_early (Some fault) read = Err fault

-- the block of a handle in a file
-- Pinned by: a_stored_block_is_read, a_frame_fault_is_the_first
abbrev pub frame_read : List ℕ → ℕ → Handle → Result (List ℕ) FrameFault
frame_read file end h = unless_early (early_fault end h) (opened h (bytes_at file h.offset (h.size + 5)))
