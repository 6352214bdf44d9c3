-- What the front of a list of bytes reads as: a number, or a block handle, and how many bytes it takes.
-- RocksDB: util/coding.h (GetVarint32Ptr, GetVarint64, GetVarsignedint64, DecodeFixed64, and their kin), table/format.h
-- (BlockHandle::DecodeFrom). RocksDB also takes a varint that is longer than it need be, and one of ten bytes (five
-- where 32 bits are read) whose number is too large: it drops the high bits. Here both are refused.
use Rattle.std.specs.Prelude.{◌≡◌, ℕ, zero, suc, ◌+◌, ◌-◌, ◌*◌, ◌/◌, ◌%◌, ◌^◌, ℤ, pos, negsuc, List, [], ◌∷◌, ◌++◌, length, drop, Bool, ◌&&◌, nat_lt, ◌==◌, if◌then◌else◌, Option, Some, None, option_and_then, option_map}
use Rattle.sst_num.specs.declared.block_handle.Handle.{Handle}
use Rattle.sst_num.specs.Spelling.{varint, signed_varint, handle_spelling}

-- a byte from 128 on may stand before the groups of a number: the number isn't 0, which would be a needless
-- group, and both together are below 2 ^ 64
-- Own: RocksDB also takes a varint that is longer than it need be, and of a greater number the lowest 64 bits.
-- Pinned by: what_is_read_stands_there, varints
abbrev pub goes_before : ℕ → ℕ → Bool
goes_before b high = nat_lt b 256 && (nat_lt 0 high && nat_lt (b - 128 + 128 * high) (2 ^ 64))

-- the number of a group and of those after it, and how many bytes they take
-- Pinned by: varints, take_varint64.found
abbrev pub with_group : ℕ → ℕ × ℕ → Option (ℕ × ℕ)
with_group b rest = if goes_before b rest.0 then Some (b - 128 + 128 * rest.0, rest.1 + 1) else None

-- the number that at most n groups at the front spell, and how many bytes they take
-- Pinned by: varint_is_taken_again, varints
abbrev pub groups_at : ℕ → List ℕ → Option (ℕ × ℕ)
groups_at zero bytes = None
groups_at (suc n) [] = None
groups_at (suc n) (b ∷ bytes) =
    if nat_lt b 128 then Some (b, 1) else option_and_then (with_group b) (groups_at n bytes)

-- the number below 2 ^ 64 whose varint is at the front, and how many bytes it takes
-- Pinned by: varint_is_taken_again, take_varint64.found, take_varint64.none
unfoldable pub varint_at : List ℕ → Option (ℕ × ℕ)
varint_at bytes = groups_at 10 bytes

-- what was read, if its number is below 2 ^ 32
-- Own: GetVarint32Ptr takes of a greater number the lowest 32 bits.
-- Pinned by: varints
abbrev pub in_32_bits : ℕ × ℕ → Option (ℕ × ℕ)
in_32_bits read = if nat_lt read.0 (2 ^ 32) then Some read else None

-- the number below 2 ^ 32 whose varint is at the front, and how many bytes it takes
-- Pinned by: varint32_is_taken_again, varints
unfoldable pub varint32_at : List ℕ → Option (ℕ × ℕ)
varint32_at bytes = option_and_then in_32_bits (varint_at bytes)

-- the number whose zigzag number is n
-- RocksDB: util/coding.h, zigzagToI64
-- Pinned by: signed_is_taken_again, signed_varints
abbrev pub from_zigzag : ℕ → ℤ
from_zigzag n = if n % 2 == 0 then pos (n / 2) else negsuc (n / 2)

-- what was read, as the zigzag number of one that has a sign
-- Pinned by: signed_varints
abbrev pub with_sign : ℕ × ℕ → ℤ × ℕ
with_sign read = (from_zigzag read.0, read.1)

-- the number with a sign whose varint is at the front, and how many bytes it takes
-- RocksDB: util/coding.h, GetVarsignedint64
-- Pinned by: signed_is_taken_again, what_is_read_stands_there, signed_varints
unfoldable pub signed_at : List ℕ → Option (ℤ × ℕ)
signed_at bytes = option_map with_sign (varint_at bytes)

-- the handle of an offset and a size that were read, and how many bytes both take
-- RocksDB: table/format.cc, BlockHandle::DecodeFrom
-- Pinned by: handles
abbrev pub joined_handle : ℕ × ℕ → ℕ × ℕ → Handle × ℕ
joined_handle offset size = (record { offset = offset.0; size = size.0 }, offset.1 + size.1)

-- the block handle at the front, and how many bytes it takes
-- RocksDB: table/format.cc, BlockHandle::DecodeFrom
-- Pinned by: handle_is_taken_again, handles
unfoldable pub handle_at : List ℕ → Option (Handle × ℕ)
handle_at bytes =
    option_and_then
    (λ offset. option_and_then (λ size. Some (joined_handle offset size)) (varint_at (drop offset.1 bytes)))
    (varint_at bytes)

-- the number that the first n bytes spell, the lowest first; nothing where there are too few or one isn't below 256
-- RocksDB: util/coding_lean.h, DecodeFixed32 and its kin
-- Pinned by: what_is_read_stands_there, fixed_is_taken_again
abbrev pub fixed_at : ℕ → List ℕ → Option ℕ
fixed_at zero bytes = Some 0
fixed_at (suc n) [] = None
fixed_at (suc n) (b ∷ bytes) = if nat_lt b 256 then option_map (λ high. b + 256 * high) (fixed_at n bytes) else None

-- the bytes begin with the spelling of a number, which takes so many bytes
-- Pinned by: what_is_read_stands_there
abbrev pub StartsWithVarint : List ℕ → ℕ → ℕ → Type 0
StartsWithVarint bytes v used = (rest : List ℕ) × (bytes ≡ varint v ++ rest) × (used ≡ length (varint v))

-- the bytes begin with the spelling of a number that has a sign, which takes so many bytes
-- Pinned by: what_is_read_stands_there
abbrev pub StartsWithSigned : List ℕ → ℤ → ℕ → Type 0
StartsWithSigned bytes v used = (rest : List ℕ) × (bytes ≡ signed_varint v ++ rest) × (used ≡ length (signed_varint v))

-- the bytes begin with the spelling of a block handle, which takes so many bytes
-- RocksDB: table/format.cc, BlockHandle::DecodeFrom
-- Pinned by: what_is_read_stands_there
abbrev pub StartsWithHandle : List ℕ → Handle → ℕ → Type 0
StartsWithHandle bytes h used =
    (rest : List ℕ) × (bytes ≡ handle_spelling h ++ rest) × (used ≡ length (handle_spelling h))
