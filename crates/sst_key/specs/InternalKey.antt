-- The parts of a stored key, and the order of stored keys.
-- RocksDB: db/dbformat.h (ExtractUserKey, ExtractInternalKeyFooter, ParseInternalKey, InternalKeyComparator::Compare).
use Rattle.std.specs.Prelude.{◌≡◌, ◌⊎◌, ◌==◌, ℕ, ◌-◌, ◌/◌, ◌%◌, Option, None, Some, option_map, List, length, take, drop, nat_lt, if◌then◌else◌}
use Rattle.std.specs.Ordering.{nat_cmp, ordering_then}
use Rattle.std.specs.Cmp.Lexicographic.{slice_cmp}
use Rattle.std.specs.declared.cmp.Ordering.{Ordering}
use Rattle.sst_num.specs.Spelling.{fixed_value}
use Rattle.sst_key.specs.declared.entries.Kind.{Kind}
use Rattle.sst_key.specs.declared.entries.Kind.TheVariants.{Deletion, Value, Merge, SingleDeletion}

-- the user key: all but the last eight bytes
-- Pinned by: internal_order_is_entry_order, compared_keys
abbrev pub user_of : List ℕ → List ℕ
user_of key = take (length key - 8) key

-- the tag: the last eight bytes as a number
-- Pinned by: internal_order_is_entry_order, packed_keys
abbrev pub tag_of : List ℕ → ℕ
tag_of key = fixed_value (drop (length key - 8) key)

-- user keys bytewise, and among equal ones the greater tag first
-- Pinned by: internal_order_is_entry_order, compared_keys, lists_that_fit, refused_lines
abbrev pub internal_cmp : List ℕ → List ℕ → Ordering
internal_cmp a b = ordering_then (slice_cmp nat_cmp (user_of a) (user_of b)) (nat_cmp (tag_of b) (tag_of a))

-- the kind that a number stands for, if it stands for one
-- RocksDB: db/dbformat.h, ValueType
-- Pinned by: packed_is_unpacked, packed_keys, unpack.causes
abbrev pub kind_numbered : ℕ → Option Kind
kind_numbered n =
    if n == 0 then Some Deletion
    else if n == 1 then Some Value
    else if n == 2 then Some Merge
    else if n == 7 then Some SingleDeletion
    else None

-- the number of one of the four kinds
-- RocksDB: db/dbformat.h, ValueType
-- Pinned by: unpack.causes
abbrev pub IsKindNumber : ℕ → Type 0
IsKindNumber n = (n ≡ 0) ⊎ (n ≡ 1) ⊎ (n ≡ 2) ⊎ (n ≡ 7)

-- the kind byte: the lowest of the tag
-- Pinned by: packed_keys
abbrev pub kind_byte : List ℕ → ℕ
kind_byte key = tag_of key % 256

-- what a stored key says: how long its user key is, the sequence number and the kind
-- Pinned by: packed_is_unpacked, packed_keys
abbrev pub parts_of : List ℕ → Option (ℕ × ℕ × Kind)
parts_of key =
    if nat_lt (length key) 8 then None
    else option_map (λ kind. (length key - 8, tag_of key / 256, kind)) (kind_numbered (kind_byte key))
