-- The definitions at values that others publish: the check of the ASCII digits, its stored form, and the examples of RFC 3720, B.4.
use Rattle.std.proofs.Common.{◌≡◌, [], codes, replicate, refl}
use Rattle.std.specs.List.{range_with_len}
use Rattle.sst_sums.specs.Sums.{crc_byte, crc32c, mask, unmask}

no_byte : crc32c [] ≡ 0
unfolding crc32c
no_byte = refl

digits : crc32c (codes "123456789") ≡ 0xE3069283
unfolding crc32c crc_byte
digits = refl

digits_stored : mask 0xE3069283 ≡ 0xC78AB0E5
digits_stored = refl

digits_back : unmask 0xC78AB0E5 ≡ 0xE3069283
digits_back = refl

zeros : crc32c (replicate 32 0) ≡ 0x8A9136AA
unfolding crc32c crc_byte
zeros = refl

ones : crc32c (replicate 32 255) ≡ 0x62A8AB43
unfolding crc32c crc_byte
ones = refl

rising : crc32c (range_with_len 0 32) ≡ 0x46DD794E
unfolding crc32c crc_byte
rising = refl
