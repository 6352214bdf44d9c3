-- The footer of a table file: the format, the version, the checksum type, and where the metaindex and the index stand.
-- RocksDB: table/format.h (Footer), table/format.cc (FooterBuilder::Build), and the magic numbers in
-- table/block_based/block_based_table_builder.cc, table/plain/plain_table_builder.cc and
-- table/cuckoo/cuckoo_table_builder.cc.
-- Pinned by: a_footer_reads_back, footers_that_are_put
use Rattle.std.specs.Prelude.{◌≡◌, ℕ, ◌-◌, ◌^◌, ◌<◌, ◌≤◌, Bool, true, false, if◌then◌else◌, List, ◌∷◌, ◌++◌, length, replicate}
use Rattle.sst_num.specs.Spelling.{fixed, handle_spelling}
use Rattle.sst_num.specs.declared.block_handle.Handle.{Handle}
use Rattle.sst_key.specs.declared.calls.Format.{Format}
use Rattle.sst_key.specs.declared.calls.Format.TheVariants.{Block, Plain, Cuckoo}
use Rattle.sst_meta.specs.declared.footer.Footer.{Footer}

-- the number that ends each block-based file, and the one of version 0
-- Pinned by: footers_that_are_put, footers_that_are_read
abbrev pub block_based_magic : ℕ
block_based_magic = 0x88e241b785f4cff7

abbrev pub legacy_block_based_magic : ℕ
legacy_block_based_magic = 0xdb4775248b80fb57

-- the number that ends each plain table, and the one of version 0
-- Pinned by: footers_that_are_put, footers_that_are_read
abbrev pub plain_magic : ℕ
plain_magic = 0x8242229663bf9564

abbrev pub legacy_plain_magic : ℕ
legacy_plain_magic = 0x4f3418eb7a8f13b8

-- the number that ends each cuckoo table
-- Pinned by: footers_that_are_put, footers_that_are_read
abbrev pub cuckoo_magic : ℕ
cuckoo_magic = 0x926789d0c5f17873

-- the number that ends a file of a format; a legacy footer is the one of version 0, which a cuckoo table never has
-- Pinned by: a_footer_reads_back, a_footer_is_read
abbrev pub magic_of : Format → Bool → ℕ
magic_of Block true = legacy_block_based_magic
magic_of Block false = block_based_magic
magic_of Plain true = legacy_plain_magic
magic_of Plain false = plain_magic
magic_of Cuckoo legacy = cuckoo_magic

-- how many bytes a legacy footer takes
-- Pinned by: a_footer_reads_back, a_footer_is_read
abbrev pub legacy_length : ℕ
legacy_length = 48

-- how many bytes any other footer takes
-- Pinned by: a_footer_reads_back, a_footer_is_read
abbrev pub later_length : ℕ
later_length = 53

-- how many bytes a footer takes, by whether it is legacy
-- Pinned by: a_footer_reads_back, a_footer_is_read
abbrev pub footer_length : Bool → ℕ
footer_length true = legacy_length
footer_length false = later_length

-- the metaindex handle and the index handle
-- Pinned by: footers_that_are_put
abbrev pub two_handles : Handle → Handle → List ℕ
two_handles metaindex index = handle_spelling metaindex ++ handle_spelling index

-- the zeros that fill 40 bytes up behind them
-- Pinned by: footers_that_are_put
abbrev pub handle_zeros : Handle → Handle → List ℕ
handle_zeros metaindex index = replicate (40 - length (two_handles metaindex index)) 0

-- a footer of 48 bytes: the two handles, zeros up to byte 40, the magic number
abbrev pub legacy_spelling : Footer → List ℕ
legacy_spelling f = two_handles f.meta f.index ++ (handle_zeros f.meta f.index ++ fixed 8 (magic_of f.format true))

-- a footer of 53 bytes: the checksum type, the two handles, zeros up to byte 41, the version, the magic number
abbrev pub later_spelling : Footer → List ℕ
later_spelling f =
    f.checksum ∷ (two_handles f.meta f.index
    ++ (handle_zeros f.meta f.index ++ (fixed 4 f.version ++ fixed 8 (magic_of f.format false))))

-- the bytes of a footer
unfoldable pub footer_spelling : Footer → List ℕ
footer_spelling f = if f.legacy then legacy_spelling f else later_spelling f

-- what a footer that is written says, by format, whether it is legacy, version and checksum type. A legacy footer has
-- version 0, and the checksum type that stands for none is 0; a block-based file has masked CRC32C, which is 1.
-- Own.
abbrev pub IsWritable : Format → Bool → ℕ → ℕ → Type 0
IsWritable Block true version checksum = (version ≡ 0) × (checksum ≡ 1)
IsWritable Block false version checksum = (2 ≤ version) × (version ≤ 4) × (checksum ≡ 1)
IsWritable Plain true version checksum = (version ≡ 0) × (checksum ≡ 0)
IsWritable Plain false version checksum = checksum ≡ 0
IsWritable Cuckoo true version checksum = ⊥
IsWritable Cuckoo false version checksum = checksum ≡ 0

-- the numbers of a footer are those of its fields' types
-- Pinned by: a_footer_reads_back
abbrev pub IsInRange : Footer → Type 0
IsInRange f =
    (f.version < 2 ^ 32) × (f.meta.offset < 2 ^ 64) × (f.meta.size < 2 ^ 64) × (f.index.offset < 2 ^ 64) × (f.index.size < 2 ^ 64)

-- some bytes begin with the spellings of two handles
-- RocksDB: table/format.cc, BlockHandle::EncodeTo
-- Pinned by: a_footer_is_read
abbrev pub AreHandles : Handle → Handle → List ℕ → Type 0
AreHandles metaindex index between =
    (metaindex.offset < 2 ^ 64) × (metaindex.size < 2 ^ 64) × (index.offset < 2 ^ 64) × (index.size < 2 ^ 64)
    × ((padding : List ℕ) × (between ≡ handle_spelling metaindex ++ (handle_spelling index ++ padding)))
