-- The filter of a list of user keys, as it is written.
-- RocksDB: LegacyBloomBitsBuilder in table/block_based/filter_policy.cc, LegacyNoLocalityBloomImpl::ChooseNumProbes and
-- LegacyLocalityBloomImpl in util/bloom_impl.h.
-- Pinned by: finish.exact, filter_of_one_key
use Rattle.std.specs.Prelude.{◌≡◌, ℕ, zero, suc, ◌+◌, ◌*◌, ◌/◌, ◌%◌, ◌<◌, ◌==◌, min, max, Bool, if◌then◌else◌, List, ◌∷◌, ◌++◌, length, map, drop}
use Rattle.std.specs.List.{range_with_len}
use Rattle.sst_num.specs.Spelling.{fixed}
use Rattle.sst_bloom.specs.Lines.{AreBytes, is_set, key_hash, some_takes}

-- how many lines of 64 bytes so many keys take at so many bits each: an odd number
-- RocksDB: LegacyBloomBitsBuilder::CalculateSpace and GetTotalBitsForLocality
-- Pinned by: line_count_even, sizes
abbrev pub lines_of : ℕ → ℕ → ℕ
lines_of keys bits = let lines = (keys * bits + 511) / 512 in if lines % 2 == 0 then lines + 1 else lines

-- how many probes a key has at so many bits: 69 of 100, at least one and at most 30
-- RocksDB: LegacyNoLocalityBloomImpl::ChooseNumProbes
-- Pinned by: filter_of_one_key, sizes
abbrev pub probes_of : ℕ → ℕ
probes_of bits = max 1 (min 30 (bits * 69 / 100))

-- the number whose n lowest bits are set as the positions from p on say
-- Pinned by: a_filter_is_the_only_one
abbrev pub number_of : (ℕ → Bool) → ℕ → ℕ → ℕ
number_of says p zero = 0
number_of says p (suc n) = (if says p then 1 else 0) + 2 * number_of says (p + 1) n

-- the byte at k whose bits are set as their positions say
-- Pinned by: a_filter_is_the_only_one
unfoldable pub byte_of : (ℕ → Bool) → ℕ → ℕ
byte_of says k = number_of says (8 * k) 8

-- the filter of the keys that have these hashes: a bit of its lines is set exactly where a key takes it; then come the number of
-- probes, and that of the lines
-- Pinned by: finish.exact, filter_of_one_key
unfoldable pub filter_of_hashes : ℕ → List ℕ → List ℕ
filter_of_hashes bits hashes =
    let lines = lines_of (length hashes) bits in
    let probes = probes_of bits in
    map (byte_of (some_takes lines 64 hashes probes)) (range_with_len 0 (64 * lines)) ++ probes ∷ fixed 4 lines

-- the filter of the user keys at so many bits each
-- Pinned by: finish.exact, a_filter_is_the_only_one, an_added_key_is_not_denied
unfoldable pub bloom_filter : ℕ → List (List ℕ) → List ℕ
bloom_filter bits users = filter_of_hashes bits (map key_hash users)

-- the same in four facts: how long the filter is, that it is of bytes, which bits of its lines are set, and what stands after them
-- Pinned by: a_filter_is_the_only_one
pub record IsFilter (bits : ℕ) (users : List (List ℕ)) (filter : List ℕ) : Type 0 where
  pub long : length filter ≡ 64 * lines_of (length users) bits + 5
  pub bytes : AreBytes filter
  pub set_where_taken : (p : ℕ) → p < 512 * lines_of (length users) bits
      → is_set filter p ≡ some_takes (lines_of (length users) bits) 64 (map key_hash users) (probes_of bits) p
  pub end : drop (64 * lines_of (length users) bits) filter ≡ probes_of bits ∷ fixed 4 (lines_of (length users) bits)
