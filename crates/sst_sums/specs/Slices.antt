-- The checksum's step over whole bytes, as its tables have it.
-- For proofs alone.
-- Pinned by: crc32c
use Rattle.std.specs.Prelude.{ℕ, zero, suc, ◌+◌, ◌*◌, List, [], ◌∷◌}
use Rattle.sst_sums.specs.Sums.{crc_bits}

-- the remainder r after eight more bits of zero
unfoldable pub octet : ℕ → ℕ
octet r = crc_bits 8 r

-- the remainder r after n more bytes of zero
unfoldable pub octets : ℕ → ℕ → ℕ
octets zero r = r
octets (suc n) r = octets n (octet r)

-- the number that bytes spell, the lowest first
abbrev pub low_first : List ℕ → ℕ
low_first [] = 0
low_first (byte ∷ bytes) = byte + 256 * low_first bytes
