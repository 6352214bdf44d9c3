-- The footer of a block-based file that is read: 53 bytes, masked CRC32C, version 2, 3 or 4.
-- RocksDB: table/format.h (Footer), table/format.cc (Footer::DecodeFrom).
-- Pinned by: a_footer_is_read
use Rattle.std.specs.Prelude.{◌≡◌, ◌⊎◌, ℕ, ◌-◌, ◌^◌, ◌<◌, ◌≤◌, false, List, ◌∷◌, ◌++◌, length}
use Rattle.sst_num.specs.Spelling.{fixed}
use Rattle.sst_num.specs.declared.block_handle.Handle.{Handle}
use Rattle.sst_key.specs.declared.calls.Format.TheVariants as Format
use Rattle.sst_meta.specs.Footer.{block_based_magic, legacy_block_based_magic, plain_magic, legacy_plain_magic, cuckoo_magic, legacy_length, later_length, AreHandles}
use Rattle.sst_meta.specs.declared.footer.Footer.{Footer}

-- the footer of a block-based file with masked CRC32C, which has 53 bytes
-- Pinned by: a_footer_is_read, no_names
abbrev pub block_footer : ℕ → Handle → Handle → Footer
block_footer version metaindex index =
    record { format = Format.Block; legacy = false; version = version; checksum = 1; meta = metaindex; index = index }

-- where the footer of a block-based file begins
-- Pinned by: a_footer_is_read, stored_blocks
abbrev pub footer_start : List ℕ → ℕ
footer_start file = length file - later_length

-- the last twelve bytes of its footer: the version and the magic number
-- RocksDB: table/format.cc, FooterBuilder::Build
abbrev pub footer_back : ℕ → List ℕ
footer_back version = fixed 4 version ++ fixed 8 block_based_magic

-- the file ends with the magic number, and is no shorter than the footer of that kind
abbrev pub EndsWith : ℕ → ℕ → List ℕ → Type 0
EndsWith magic footer_length file = (footer_length ≤ length file) × ((front : List ℕ) × (file ≡ front ++ fixed 8 magic))

-- the file ends with one of the magic numbers
-- Pinned by: a_footer_is_read, a_meta_fault_is_shown
abbrev pub IsTable : List ℕ → Type 0
IsTable file =
    EndsWith block_based_magic later_length file ⊎ EndsWith legacy_block_based_magic legacy_length file ⊎ EndsWith plain_magic later_length file
    ⊎ EndsWith legacy_plain_magic legacy_length file ⊎ EndsWith cuckoo_magic later_length file

-- the file is a plain or a cuckoo table
-- Pinned by: a_footer_is_read, a_meta_fault_is_shown
abbrev pub IsOtherTable : List ℕ → Type 0
IsOtherTable file = EndsWith plain_magic later_length file ⊎ EndsWith legacy_plain_magic legacy_length file ⊎ EndsWith cuckoo_magic later_length file

-- the footer of a block-based file says this: the checksum type, 40 bytes with the handles, the version. `end` is the
-- file's length without its footer.
pub record EndsIn (file : List ℕ) (end kind version : ℕ) (between : List ℕ) : Type 0 where
  pub front : List ℕ
  pub ends : file ≡ front ++ (kind ∷ (between ++ footer_back version))
  pub long : length between ≡ 40
  pub end_is : end ≡ length front
  pub small : version < 2 ^ 32

-- the version is one that is read
-- Own, for now.
-- Pinned by: a_footer_is_read, footers_that_are_read
abbrev pub IsBuilt : ℕ → Type 0
IsBuilt version = (2 ≤ version) × (version ≤ 4)

-- the footer leads to the metaindex and the index at these handles, whatever its padding
pub record FooterLeads (file : List ℕ) (end : ℕ) (metaindex index : Handle) : Type 0 where
  pub version : ℕ
  pub between : List ℕ
  pub ends : EndsIn file end 1 version between
  pub built : IsBuilt version
  pub handles : AreHandles metaindex index between
