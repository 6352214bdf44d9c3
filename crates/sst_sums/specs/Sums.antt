-- The checksum of a stored block, bit by bit, and the masked form in which a file keeps it.
-- RocksDB: util/crc32c.h (Value, Mask, Unmask), util/crc32c.cc.
-- Pinned by: known_sums
use Rattle.std.specs.Prelude.{ℕ, zero, suc, ◌+◌, ◌-◌, ◌*◌, ◌/◌, ◌%◌, ◌^◌, ◌==◌, if◌then◌else◌, List, fold, bit_xor}

-- the remainder after one more bit: the polynomial of Castagnoli, its lowest power at the highest bit
abbrev pub crc_bit : ℕ → ℕ
crc_bit r = if r % 2 == 1 then bit_xor (r / 2) 0x82F63B78 else r / 2

-- the remainder after n more bits
abbrev pub crc_bits : ℕ → ℕ → ℕ
crc_bits zero r = r
crc_bits (suc n) r = crc_bits n (crc_bit r)

-- the remainder after one more byte
unfoldable pub crc_byte : ℕ → ℕ → ℕ
crc_byte r byte = crc_bits 8 (bit_xor r byte)

-- the CRC32C of some bytes: the remainder starts as all ones and is inverted at the end
unfoldable pub crc32c : List ℕ → ℕ
crc32c bytes = bit_xor (fold crc_byte 0xFFFFFFFF bytes) 0xFFFFFFFF

-- a checksum as it is stored: turned right by 15 bits, and a constant added, in 32 bits
-- Pinned by: known_stored_forms
abbrev pub mask : ℕ → ℕ
mask c = (c / 2 ^ 15 + c % 2 ^ 15 * 2 ^ 17 + 0xa282ead8) % 2 ^ 32

-- the checksum that was stored as m
-- Pinned by: unmask.undoes, known_stored_forms
abbrev pub unmask : ℕ → ℕ
unmask m = let turned = (m + (2 ^ 32 - 0xa282ead8)) % 2 ^ 32 in turned / 2 ^ 17 + turned % 2 ^ 17 * 2 ^ 15
