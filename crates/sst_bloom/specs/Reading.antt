-- What a filter denies, whoever wrote it.
-- RocksDB: BuiltinFilterPolicy::GetBuiltinFilterBitsReader and LegacyBloomBitsReader in table/block_based/filter_policy.cc.
-- Pinned by: denies, filters_read
use Rattle.std.specs.Prelude.{ℕ, zero, suc, ◌-◌, ◌/◌, ◌%◌, ◌==◌, nat_le, Bool, true, false, not, ◌||◌, if◌then◌else◌, List, length, take, drop, slice_index, Option, Some, None}
use Rattle.std.specs.Int.{is_power_of_two}
use Rattle.sst_num.specs.Spelling.{fixed_value}
use Rattle.sst_bloom.specs.Lines.{is_set, key_hash, position_of}

-- how many bytes each line has, where so many bytes are so many lines of a power of two bytes each
-- Pinned by: foreign_lines, filters_read
abbrev pub line_size : ℕ → ℕ → Option ℕ
line_size lines bytes =
    if lines == 0 then None
    else if bytes % lines == 0 then (if is_power_of_two (bytes / lines) then Some (bytes / lines) else None)
    else None

-- one of the first n probes of a hash takes a bit that isn't set
-- Pinned by: filters_read, an_added_key_is_not_denied
abbrev pub misses : List ℕ → ℕ → ℕ → ℕ → ℕ → Bool
misses body lines size h zero = false
misses body lines size h (suc n) = misses body lines size h n || not (is_set body (position_of lines size h n))

-- where the lines can be told apart, a hash is denied by a bit; else none is denied
-- Pinned by: filters_read
abbrev pub denied_in : List ℕ → ℕ → ℕ → ℕ → Option ℕ → Bool
denied_in body lines h probes None = false
denied_in body lines h probes (Some size) = misses body lines size h probes

-- a hash is denied by lines and the five bytes after them: the number of probes, and how many lines there are. No probe, or 128
-- and more, denies none.
-- Pinned by: filters_read
abbrev pub denied_by : List ℕ → List ℕ → ℕ → Bool
denied_by body end h =
    let probes = slice_index end 0 in
    let lines = fixed_value (drop 1 end) in
    if probes == 0 then false
    else if nat_le 128 probes then false
    else denied_in body lines h probes (line_size lines (length body))

-- the filter denies a hash: where it has at most five bytes it denies each
-- Pinned by: five_bytes_are_read, filters_read
unfoldable pub denied : List ℕ → ℕ → Bool
denied filter h =
    let at = length filter - 5 in
    if nat_le (length filter) 5 then true else denied_by (take at filter) (drop at filter) h

-- the filter denies the user key
-- Pinned by: filters_read, an_added_key_is_not_denied
abbrev pub denies : List ℕ → List ℕ → Bool
denies filter user = denied filter (key_hash user)
