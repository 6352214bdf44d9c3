-- The hash of a key by which legacy Bloom filters are made, in 32 bits: every number in it is taken modulo 2 ^ 32.
-- RocksDB: util/hash.cc, Hash.
-- Pinned by: known_hashes
use Rattle.std.specs.Prelude.{ℕ, ◌+◌, ◌-◌, ◌*◌, ◌/◌, ◌%◌, ◌^◌, List, [], ◌∷◌, length, bit_xor, nat_lt, if◌then◌else◌}

-- h after one more number of 32 bits
abbrev pub after_word : ℕ → ℕ → ℕ
after_word h w = let product = (h + w) * 0xc6a4a793 % 2 ^ 32 in bit_xor product (product / 2 ^ 16)

-- a byte as a number that has a sign, in 32 bits: a byte of 128 and more stands for itself less 256
-- Pinned by: last_bytes_unsigned, known_hashes
abbrev pub as_signed : ℕ → ℕ
as_signed byte = if nat_lt byte 128 then byte else byte + (2 ^ 32 - 256)

-- h after the sum of the last bytes, each in its place
abbrev pub after_sum : ℕ → ℕ → ℕ
after_sum h sum = let product = (h + sum) * 0xc6a4a793 % 2 ^ 32 in bit_xor product (product / 2 ^ 24)

-- h after bytes: four at a time are a number whose lowest byte is first; those at the end, one to three, have signs
abbrev pub after_bytes : ℕ → List ℕ → ℕ
after_bytes h [] = h
after_bytes h (a ∷ []) = after_sum h (as_signed a)
after_bytes h (a ∷ b ∷ []) = after_sum h (as_signed a + 2 ^ 8 * as_signed b)
after_bytes h (a ∷ b ∷ c ∷ []) = after_sum h (as_signed a + 2 ^ 8 * as_signed b + 2 ^ 16 * as_signed c)
after_bytes h (a ∷ b ∷ c ∷ d ∷ bytes) = after_bytes (after_word h (a + 2 ^ 8 * b + 2 ^ 16 * c + 2 ^ 24 * d)) bytes

-- the hash of some bytes, begun with a seed and how many they are
unfoldable pub hash32 : List ℕ → ℕ → ℕ
hash32 bytes seed = after_bytes (bit_xor seed (length bytes * 0xc6a4a793 % 2 ^ 32)) bytes
