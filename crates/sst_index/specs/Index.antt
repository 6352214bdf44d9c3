-- What a builder of an index holds between its calls: where the data blocks end that were added.
-- RocksDB: IndexBuilder in table/block_based/index_builder.h.
-- Pinned by: finish.bytes
use Rattle.std.specs.Prelude.{◌≡◌, ◌⊎◌, ℕ, ◌+◌, ◌-◌, ◌<◌, ◌≤◌, Bool, true, false, List, [], ◌∷◌, ◌++◌, length, take, drop, map, sum_by, All}
use Rattle.std.specs.List.{flat_map, list_any}
use Rattle.std.specs.declared.cmp.Ordering.TheVariants.{Less}
use Rattle.sst_key.specs.Limits.{block_limit}
use Rattle.sst_block.specs.declared.row_form.RowForm.TheVariants.{Index}
use Rattle.sst_block.specs.Block.{key_cmp}
use Rattle.sst_block.specs.IndexRows.{IndexPair}
use Rattle.sst_index.specs.declared.flags.IndexFlags.{IndexFlags}
use Rattle.sst_index.specs.declared.builder.IndexBuilder.{IndexBuilder}
use Rattle.sst_index.specs.declared.builder.IndexRow.{IndexRow}
use Rattle.sst_index.specs.Ends.{BlockEnd, AreEnds, shares_user, stored_separator, separator_in}
use Rattle.sst_index.specs.IndexBytes.{IndexOptions}
use Rattle.sst_index.specs.Behind.{AreBehind}
use Rattle.sst_index.specs.Top.{IsPair}

-- memory ran out in an earlier call
-- Own.
-- Pinned by: add.err, add.later
abbrev pub HasFailed : IndexBuilder → Type 0
HasFailed b = b.failed ≡ true

-- the rows that a builder keeps: where each separator begins among all, how long it is, and the handle
-- For proofs alone.
abbrev pub rows_from : ℕ → List BlockEnd → List IndexRow
rows_from at [] = []
rows_from at (e ∷ ends) =
    record { start = at; length = length (stored_separator e); handle = e.handle } ∷ rows_from (at + length (stored_separator e)) ends

-- an index can be written so
-- Own.
-- Pinned by: new.holds
pub record AreOptions (o : IndexOptions) : Type 0 where
  pub version_least : 2 ≤ o.version
  pub version_most : o.version ≤ 4
  pub least : 1 ≤ o.interval
  pub most : o.interval ≤ 65536

-- the builder holds the ends, which were added in this order
-- Own.
-- Pinned by: finish.bytes
pub record Holds (b : IndexBuilder) (o : IndexOptions) (ends : List BlockEnd) : Type 0 where
  pub sound : b.failed ≡ false
  pub version_is : b.version ≡ o.version
  pub interval_is : b.interval ≡ o.interval
  pub parts_is : b.parts ≡ o.parts
  pub options : AreOptions o
  pub keys_are : b.keys.items ≡ flat_map stored_separator ends
  pub rows_are : b.rows.items ≡ rows_from 0 ends
  pub shares_is : b.shares ≡ list_any shares_user ends
  pub stand : AreEnds ends

-- the end may come after those that the builder holds
-- Own.
-- Pinned by: add.ok
pub record Takes (b : IndexBuilder) (e : BlockEnd) : Type 0 where
  pub options : IndexOptions
  pub ends : List BlockEnd
  pub holds : Holds b options ends
  pub stand : AreEnds (ends ++ e ∷ [])

-- a builder that has failed refuses each end, and any other takes those that may come next
-- Own.
-- Pinned by: add.ok
abbrev pub CanAdd : IndexBuilder → BlockEnd → Type 0
CanAdd b e = HasFailed b ⊎ Takes b e

-- the pair that a row stands for
-- For proofs alone.
abbrev pub kept_pair : Bool → List ℕ → IndexRow → IndexPair
kept_pair user_key keys r = record { separator = separator_in user_key (take r.length (drop r.start keys)); handle = r.handle }

-- the pairs that a builder keeps
-- For proofs alone.
abbrev pub kept_pairs : Bool → IndexBuilder → List IndexPair
kept_pairs user_key b = map (kept_pair user_key b.keys.items) b.rows.items

-- those of the rows from one to before another
-- For proofs alone.
abbrev pub rows_between : IndexFlags → IndexBuilder → ℕ → ℕ → List IndexPair
rows_between flags b from to = take (to - from) (drop from (kept_pairs flags.user_key b))

-- the separator of a row is there, and has room for a tag
-- For proofs alone.
abbrev pub IsKept : List ℕ → IndexRow → Type 0
IsKept keys r = (r.start + r.length ≤ length keys) × (8 ≤ r.length)

-- the separator of a pair is before those of all others
-- For proofs alone.
abbrev pub IsBeforeAll : Bool → IndexPair → List IndexPair → Type 0
IsBeforeAll user_key p pairs = All (λ (q : IndexPair). key_cmp (Index user_key false) p.separator q.separator ≡ Less) pairs

-- each separator is before all that follow
-- For proofs alone.
abbrev pub Rise : Bool → List IndexPair → Type 0
Rise user_key [] = Unit {0}
Rise user_key (p ∷ pairs) = IsBeforeAll user_key p pairs × Rise user_key pairs

-- the most that the row of a pair takes of a block
-- For proofs alone.
abbrev pub pair_room : IndexPair → ℕ
pair_room p = length p.separator + 54

-- the pairs of a builder may stand in blocks, of these flags
-- For proofs alone.
pub record IsReady (b : IndexBuilder) (flags : IndexFlags) : Type 0 where
  pub least : 1 ≤ b.interval
  pub most : b.interval ≤ 65536
  pub kept : All (IsKept b.keys.items) b.rows.items
  pub each : All (IsPair flags.user_key) (kept_pairs flags.user_key b)
  pub rise : Rise flags.user_key (kept_pairs flags.user_key b)
  pub behind : AreBehind (kept_pairs flags.user_key b)
  pub room : sum_by pair_room (kept_pairs flags.user_key b) + 8 < block_limit
