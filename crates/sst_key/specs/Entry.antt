-- An entry, its tag and its internal key, the order of entries, and the weight of a list.
-- RocksDB: db/dbformat.h (ValueType, PackSequenceAndType, AppendInternalKey, InternalKeyComparator).
-- Pinned by: packed_keys
use Rattle.std.specs.Prelude.{◌≡◌, ◌⊎◌, ℕ, ◌+◌, ◌*◌, ◌<◌, List, [], ◌∷◌, ◌++◌, length, sum_by}
use Rattle.std.specs.Ordering.{nat_cmp}
use Rattle.std.specs.Cmp.Lexicographic.{slice_cmp}
use Rattle.std.specs.declared.cmp.Ordering.TheVariants.{Less}
use Rattle.sst_num.specs.Spelling.{fixed}
use Rattle.sst_key.specs.declared.entries.Kind.{Kind}
use Rattle.sst_key.specs.declared.entries.Kind.TheVariants.{Deletion, Value, Merge, SingleDeletion}
use Rattle.sst_key.specs.declared.entries.Entry.{Entry}
use Rattle.sst_key.specs.declared.entries.EntryView.{EntryView}

-- the number that stands for a kind
abbrev pub kind_number : Kind → ℕ
kind_number Deletion = 0
kind_number Value = 1
kind_number Merge = 2
kind_number SingleDeletion = 7

-- a sequence number and a kind in one number
abbrev pub tag : ℕ → Kind → ℕ
tag seq kind = seq * 256 + kind_number kind

-- the key that a block stores: the user key, and the tag in eight bytes, the lowest first
-- RocksDB: db/dbformat.cc, AppendInternalKey
abbrev pub internal_key : List ℕ → ℕ → Kind → List ℕ
internal_key user seq kind = user ++ fixed 8 (tag seq kind)

-- the internal key of an entry
-- RocksDB: db/dbformat.cc, AppendInternalKey
-- Pinned by: packed_is_unpacked
abbrev pub key_of : Entry → List ℕ
key_of e = internal_key e.user e.seq e.kind

-- the entry that a view lends
-- Own.
-- Pinned by: put_entry_line.ok, lists
abbrev pub entry_of : EntryView → Entry
entry_of v = record { user = v.user.now; seq = v.seq; kind = v.kind; value = v.value.now }

-- entry a is before entry b: its user key is bytewise less, or the user keys are equal and its tag is greater
-- Pinned by: internal_order_is_entry_order, compared_keys
abbrev pub IsBefore : Entry → Entry → Type 0
IsBefore a b = (slice_cmp nat_cmp a.user b.user ≡ Less) ⊎ ((a.user ≡ b.user) × (tag b.seq b.kind < tag a.seq a.kind))

-- each entry of the list is before the next
-- Pinned by: what_a_file_stands_for_is_ordered (too strict), written_file_stands_for_its_list (too loose)
abbrev pub IsOrdered : List Entry → Type 0
IsOrdered [] = Unit {0}
IsOrdered (a ∷ []) = Unit {0}
IsOrdered (a ∷ b ∷ rest) = IsBefore a b × IsOrdered (b ∷ rest)

-- what an entry counts towards the limit of a list
-- Own.
-- Pinned by: a_list_as_heavy_as_it_may_be, a_list_too_heavy
abbrev pub entry_weight : Entry → ℕ
entry_weight e = length e.user + length e.value + 64

-- what a list counts towards its limit
-- Own.
-- Pinned by: a_list_as_heavy_as_it_may_be
abbrev pub weight : List Entry → ℕ
weight entries = sum_by entry_weight entries
