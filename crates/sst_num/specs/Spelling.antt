-- The one spelling of each number and of each block handle in a file.
-- RocksDB: util/coding.h (PutVarint64, PutVarsignedint64, PutFixed64, and their kin), table/format.h
-- (BlockHandle::EncodeTo).
use Rattle.std.specs.Prelude.{◌≡◌, ℕ, zero, suc, ◌+◌, ◌*◌, ◌/◌, ◌%◌, ◌^◌, ◌<◌, ◌≤◌, ℤ, pos, negsuc, neg_ℤ, ◌≤ℤ◌, ◌<ℤ◌, List, [], ◌∷◌, ◌++◌, nat_lt, if◌then◌else◌}
use Rattle.sst_num.specs.declared.block_handle.Handle.{Handle}

-- a number in at most n + 1 groups of seven bits, the lowest group first; a byte of 128 and more says that
-- another follows
-- RocksDB: util/coding.h, EncodeVarint64
-- Pinned by: varint_is_the_spelling, varints
abbrev pub groups : ℕ → ℕ → List ℕ
groups zero v = v ∷ []
groups (suc n) v = if nat_lt v 128 then v ∷ [] else (v % 128 + 128) ∷ groups n (v / 128)

-- the shortest spelling of a number below 2 ^ 64 as a varint, of at most ten bytes
-- Pinned by: varint_is_the_only_spelling, varints
unfoldable pub varint : ℕ → List ℕ
varint v = groups 9 v

-- some bytes spell a number in groups of seven bits: a byte below 128 is the last and stands for itself; one
-- from 128 on has the low seven bits, and the bytes after it stand for the rest, which isn't 0. So there is no
-- shorter spelling.
-- RocksDB: util/coding.h, GetVarint64Ptr; that none is longer than it need be is own
-- Pinned by: varint_is_the_spelling, varint_is_the_only_spelling
abbrev pub IsVarint : List ℕ → ℕ → Type 0
IsVarint [] v = ⊥
IsVarint (b ∷ []) v = (b < 128) × (v ≡ b)
IsVarint (b ∷ c ∷ bytes) v =
    (128 ≤ b) × (b < 256) × ((high : ℕ) × (0 < high) × (v + 128 ≡ b + 128 * high) × IsVarint (c ∷ bytes) high)

-- the numbers of 64 bits that have a sign: from -2 ^ 63 up to 2 ^ 63 - 1
-- RocksDB: util/coding.h, PutVarsignedint64, which takes an int64_t
-- Pinned by: signed_has_one_spelling, take_signed64.none
abbrev pub IsSigned64 : ℤ → Type 0
IsSigned64 v = (neg_ℤ (pos (2 ^ 63)) ≤ℤ v) × (v <ℤ pos (2 ^ 63))

-- the number that stands for one with a sign: 0, 2, 4 and so on for 0, 1, 2; and 1, 3, 5 for -1, -2, -3. So it is small
-- where the number is near to 0. `negsuc n` is -1 - n.
-- RocksDB: util/coding.h, i64ToZigzag
-- Pinned by: signed_has_one_spelling, signed_varints
abbrev pub zigzag : ℤ → ℕ
zigzag (pos n) = 2 * n
zigzag (negsuc n) = 2 * n + 1

-- the shortest spelling of a number that has a sign: the varint of its zigzag number
-- RocksDB: util/coding.h, PutVarsignedint64
-- Pinned by: signed_has_one_spelling, signed_varints
abbrev pub signed_varint : ℤ → List ℕ
signed_varint v = varint (zigzag v)

-- a number in n bytes, the lowest byte first
-- Pinned by: fixed_reads_back, fixed_numbers
abbrev pub fixed : ℕ → ℕ → List ℕ
fixed zero v = []
fixed (suc n) v = (v % 256) ∷ fixed n (v / 256)

-- a block handle: where the block begins, and how long it is without its trailer
-- RocksDB: table/format.cc, BlockHandle::EncodeTo
-- Pinned by: handles
abbrev pub handle_spelling : Handle → List ℕ
handle_spelling h = varint h.offset ++ varint h.size

-- the number that some bytes spell, the lowest byte first
-- RocksDB: util/coding_lean.h, DecodeFixed64
-- Pinned by: fixed_reads_back, fixed_numbers_read
abbrev pub fixed_value : List ℕ → ℕ
fixed_value [] = 0
fixed_value (b ∷ bytes) = b + 256 * fixed_value bytes
