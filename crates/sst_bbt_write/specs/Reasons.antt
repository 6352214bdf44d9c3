-- Why a block-based writer refuses an entry after those that it has. The limits are this project's own.
use Rattle.std.specs.Prelude.{◌+◌, nat_lt, if◌then◌else◌, Bool, true, not, List, [], ◌∷◌, length, Option, Some, None}
use Rattle.std.specs.Ordering.{is_lt}
use Rattle.sst_key.specs.declared.entries.Entry.{Entry}
use Rattle.sst_key.specs.declared.faults.WriteFault.{WriteFault}
use Rattle.sst_key.specs.declared.faults.WriteFault.TheVariants.{NotIncreasing, KeyLong, ValueLong, Heavy}
use Rattle.sst_key.specs.Entry.{key_of, weight, entry_weight}
use Rattle.sst_key.specs.InternalKey.{internal_cmp}
use Rattle.sst_block.specs.Builder as builder
use Rattle.sst_bbt_spec.specs.Rows.{rows_of}
use Rattle.sst_key.specs.Limits.{key_limit, value_limit, weight_limit}

-- the entry is after those of the list
-- Pinned by: refused_lines, lists_that_fit
abbrev pub is_after : List Entry → Entry → Bool
is_after [] e = true
is_after (first ∷ rest) e = is_lt (internal_cmp (builder.last_key [] (rows_of (first ∷ rest))) (key_of e))

-- the first reason to refuse the entry after the list: order, key, value, weight; none where it may stand there
-- Pinned by: a_list_reads_back, refused_lines, keys_and_values_past_their_limits, a_list_as_heavy_as_it_may_be,
-- what_a_text_says_fits
abbrev pub reason : List Entry → Entry → Option WriteFault
reason entries e =
    if not (is_after entries e) then Some NotIncreasing
    else if nat_lt key_limit (length e.user) then Some KeyLong
    else if nat_lt value_limit (length e.value) then Some ValueLong
    else if nat_lt weight_limit (weight entries + entry_weight e) then Some Heavy
    else None
