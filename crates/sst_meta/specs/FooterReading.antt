-- What the end of a file says: its footer, or what is wrong with it.
-- RocksDB: table/format.cc (Footer::DecodeFrom).
use Rattle.std.specs.Prelude.{ℕ, ◌-◌, ◌==◌, ◌&&◌, nat_lt, nat_le, Bool, true, false, if◌then◌else◌, List, [], ◌∷◌, length, take, drop, Option, None, Some, Result, Ok, Err}
use Rattle.std.specs.Option.{option_map}
use Rattle.sst_num.specs.NumberReading.{fixed_at, handle_at}
use Rattle.sst_num.specs.declared.block_handle.Handle.{Handle}
use Rattle.sst_key.specs.declared.calls.Format.{Format}
use Rattle.sst_key.specs.declared.calls.Format.TheVariants.{Block, Plain, Cuckoo}
use Rattle.sst_meta.specs.Footer.{block_based_magic, legacy_block_based_magic, plain_magic, legacy_plain_magic, cuckoo_magic, legacy_length, later_length}
use Rattle.sst_meta.specs.declared.footer.Footer.{Footer}
use Rattle.sst_meta.specs.declared.meta_fault.MetaFault.{MetaFault}
use Rattle.sst_meta.specs.declared.meta_fault.MetaFault.TheVariants.{NotTable, Version, ChecksumType, BadFooter}

-- the last n bytes, or all where there are fewer
-- Own.
-- Pinned by: a_footer_is_read, footers_that_are_read
abbrev pub last_bytes : ℕ → List ℕ → List ℕ
last_bytes n bytes = drop (length bytes - n) bytes

-- the number in the last eight bytes
-- Own.
-- Pinned by: a_footer_is_read, footers_that_are_read
unfoldable pub number_at_end : List ℕ → Option ℕ
number_at_end tail = if nat_lt (length tail) 8 then None else fixed_at 8 (last_bytes 8 tail)

-- The format of a file with this magic number and so many bytes at least, and whether its footer is legacy. Legacy
-- footers have 48 bytes, the others 53. First of tables that aren't block-based, then of all.
-- Pinned by: footers_that_are_read
abbrev pub other_kind_of : ℕ → ℕ → Option (Format × Bool)
other_kind_of magic size =
    if magic == plain_magic && nat_le later_length size then Some (Plain, false)
    else if magic == legacy_plain_magic && nat_le legacy_length size then Some (Plain, true)
    else if magic == cuckoo_magic && nat_le later_length size then Some (Cuckoo, false)
    else None

abbrev pub kind_of : ℕ → ℕ → Option (Format × Bool)
kind_of magic size =
    if magic == block_based_magic && nat_le later_length size then Some (Block, false)
    else if magic == legacy_block_based_magic && nat_le legacy_length size then Some (Block, true)
    else other_kind_of magic size

-- the same where there is a number
-- Pinned by: footers_that_are_read
abbrev pub kind_by : ℕ → Option ℕ → Option (Format × Bool)
kind_by size None = None
kind_by size (Some magic) = kind_of magic size

-- the kind of file that ends in these bytes
-- Pinned by: footers_that_are_read
unfoldable pub kind_at : List ℕ → Option (Format × Bool)
kind_at tail = kind_by (length tail) (number_at_end tail)

-- its format
-- Pinned by: footers_that_are_read
abbrev pub format_at : List ℕ → Option Format
format_at tail = option_map (λ (kind : Format × Bool). kind.0) (kind_at tail)

-- the two handles at the front of 40 bytes, whatever follows them there
-- RocksDB: BlockHandle::DecodeFrom
-- Pinned by: a_footer_is_read, footers_that_are_read
abbrev pub second_handle : Handle → Option (Handle × ℕ) → Option (Handle × Handle)
second_handle metaindex None = None
second_handle metaindex (Some index) = Some (metaindex, index.0)

-- the same before the first is looked at
-- RocksDB: BlockHandle::DecodeFrom
-- Pinned by: a_footer_is_read, footers_that_are_read
abbrev pub handles_after : List ℕ → Option (Handle × ℕ) → Option (Handle × Handle)
handles_after bytes None = None
handles_after bytes (Some metaindex) = second_handle metaindex.0 (handle_at (drop metaindex.1 bytes))

unfoldable pub handles_read : List ℕ → Option (Handle × Handle)
handles_read bytes = handles_after bytes (handle_at bytes)

-- the footer with the two handles
-- Own.
-- Pinned by: footers_that_are_read
abbrev pub as_footer : Format → Bool → ℕ → ℕ → Option (Handle × Handle) → Result Footer MetaFault
as_footer format legacy version checksum None = Err BadFooter
as_footer format legacy version checksum (Some handles) =
    Ok (record { format = format; legacy = legacy; version = version; checksum = checksum; meta = handles.0; index = handles.1 })

-- of block-based files the versions 2 to 4 are taken, of the others any
-- Own.
-- Pinned by: footers_that_are_read
abbrev pub takes_version : Format → ℕ → Bool
takes_version Block version = nat_le 2 version && nat_le version 4
takes_version Plain version = true
takes_version Cuckoo version = true

-- of block-based files the checksum type 1 is taken, which is masked CRC32C, of the others any
-- Own.
-- Pinned by: footers_that_are_read
abbrev pub takes_checksum : Format → ℕ → Bool
takes_checksum Block checksum = checksum == 1
takes_checksum Plain checksum = true
takes_checksum Cuckoo checksum = true

-- the version, the checksum type and the handles, in this order
-- Pinned by: footers_that_are_read, what_files_say_of_themselves
abbrev pub fields_read : Format → Bool → ℕ → ℕ → List ℕ → Result Footer MetaFault
fields_read format legacy version checksum between =
    if takes_version format version
    then (if takes_checksum format checksum then as_footer format legacy version checksum (handles_read between) else Err (ChecksumType checksum))
    else Err (Version version)

-- a footer of 53 bytes: the checksum type, 40 bytes with the handles, the version, the magic number. One whose version
-- isn't a number of bytes is none.
-- Pinned by: a_footer_is_read, footers_that_are_read
abbrev pub by_version : Format → ℕ → List ℕ → Option ℕ → Result Footer MetaFault
by_version format checksum between None = Err NotTable
by_version format checksum between (Some version) = fields_read format false version checksum between

-- the same by all 53 bytes
-- Pinned by: a_footer_is_read, footers_that_are_read
abbrev pub later_read : Format → List ℕ → Result Footer MetaFault
later_read format [] = Err NotTable
later_read format (checksum ∷ rest) = by_version format checksum (take 40 rest) (fixed_at 4 (drop 40 rest))

-- the checksum type of a file with a legacy footer, which doesn't say it
-- Pinned by: footers_that_are_read
abbrev pub legacy_checksum : Format → ℕ
legacy_checksum Block = 1
legacy_checksum Plain = 0
legacy_checksum Cuckoo = 0

-- a legacy footer of 48 bytes: 40 bytes with the handles, the magic number; its version is 0
-- Pinned by: footers_that_are_read
abbrev pub legacy_read : Format → List ℕ → Result Footer MetaFault
legacy_read format bytes = fields_read format true 0 (legacy_checksum format) (take 40 bytes)

-- what follows from the kind of file that the bytes end
-- Pinned by: a_footer_is_read, a_footer_reads_back
abbrev pub by_kind : List ℕ → Option (Format × Bool) → Result Footer MetaFault
by_kind tail None = Err NotTable
by_kind tail (Some kind) = if kind.1 then legacy_read kind.0 (last_bytes legacy_length tail) else later_read kind.0 (last_bytes later_length tail)

-- what the last 53 bytes of a file say, or the whole of a shorter file
-- Pinned by: a_footer_is_read, a_footer_reads_back
unfoldable pub footer_read : List ℕ → Result Footer MetaFault
footer_read tail = by_kind tail (kind_at tail)
