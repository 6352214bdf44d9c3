-- What can be wrong with the block that a handle leads to, said of the bytes that stand there.
-- RocksDB: table/block_fetcher.cc (BlockFetcher::ReadBlockContents, ProcessTrailerIfPresent) and VerifyBlockChecksum
-- in table/block_based/reader_common.cc.
use Rattle.std.specs.Prelude.{◌≡◌, ◌≢◌, ℕ, ◌+◌, ◌<◌, ◌≤◌, List, [], ◌∷◌}
use Rattle.sst_num.specs.Spelling.{fixed}
use Rattle.sst_num.specs.declared.block_handle.Handle.{Handle}
use Rattle.sst_key.specs.Limits.{block_limit}
use Rattle.sst_sums.specs.Sums.{mask, crc32c}
use Rattle.sst_device.specs.Framed.{bytes_at}
use Rattle.sst_device.specs.declared.frame.FrameFault.{FrameFault}
use Rattle.sst_device.specs.declared.frame.FrameFault.TheVariants.{OutOfFile, TooLarge, Checksum, Compressed}

-- the block and its trailer end before the footer
-- Pinned by: a_frame_fault_is_the_first, blocks_that_are_read
abbrev pub IsInFile : ℕ → Handle → Type 0
IsInFile end h = h.offset + h.size + 5 ≤ end

-- behind the block and its type byte stands their checksum
-- RocksDB: table/format.cc, ComputeBuiltinChecksumWithLastByte
-- Pinned by: a_frame_fault_is_the_first, blocks_that_are_read
abbrev pub HasChecksum : List ℕ → Handle → Type 0
HasChecksum file h = bytes_at file (h.offset + h.size + 1) 4 ≡ fixed 4 (mask (crc32c (bytes_at file h.offset (h.size + 1))))

-- this is the first thing that is wrong: the block passes the end, is too large, has another checksum, is compressed
-- Pinned by: a_frame_fault_is_the_first
abbrev pub IsFrameFault : List ℕ → ℕ → Handle → FrameFault → Type 0
IsFrameFault file end h (OutOfFile at) = (at ≡ h) × (end < h.offset + h.size + 5)
IsFrameFault file end h (TooLarge at) = (at ≡ h) × IsInFile end h × (block_limit < h.size)
IsFrameFault file end h (Checksum at) = (at ≡ h) × IsInFile end h × (h.size ≤ block_limit) × (HasChecksum file h → ⊥)
IsFrameFault file end h (Compressed at kind) =
    (at ≡ h) × IsInFile end h × (h.size ≤ block_limit) × HasChecksum file h × (bytes_at file (h.offset + h.size) 1 ≡ kind ∷ []) × (kind ≢ 0)
