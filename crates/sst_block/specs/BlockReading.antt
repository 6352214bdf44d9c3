-- What the bytes of a block read as: its rows, or its first damage. The damages come in this order: the footer, which
-- says how many restarts there are; the rows, one by one; the restarts, one by one.
-- RocksDB: DecodeEntry and CheckAndDecodeEntry in table/block_based/block.cc, Block::NumRestarts in
-- table/block_based/block.cc. RocksDB checks less: what more is refused here is this project's own.
-- Pinned by: reading_finds_exactly_the_rows, first_fault_is_first
use Rattle.std.specs.Prelude.{◌≡◌, ℕ, zero, suc, ◌+◌, ◌-◌, ◌*◌, ◌^◌, ◌==◌, ℤ, pos, negsuc, ◌+ℤ◌, Bool, true, false, not, ◌&&◌, nat_lt, nat_le, nat_eq, if◌then◌else◌, List, [], ◌∷◌, ◌++◌, length, take, drop, map, Option, None, Some, option_and_then, option_map, Result, Ok, Err}
use Rattle.std.specs.List.{list_any}
use Rattle.std.specs.Option.{is_some}
use Rattle.std.specs.Ordering.{is_lt}
use Rattle.sst_num.specs.NumberReading.{varint32_at, signed_at, handle_at, fixed_at}
use Rattle.sst_num.specs.declared.block_handle.Handle.{Handle}
use Rattle.sst_num.specs.declared.stops.Refused.{Refused}
use Rattle.sst_num.specs.declared.stops.Refused.TheVariants.{Cause, Memory}
use Rattle.sst_key.specs.InternalKey.{parts_of}
use Rattle.sst_key.specs.Limits.{stored_key_limit}
use Rattle.sst_block.specs.declared.row_form.RowForm.{RowForm}
use Rattle.sst_block.specs.declared.row_form.RowForm.TheVariants.{Entries, Names, Index}
use Rattle.sst_block.specs.declared.fault.BlockFault.{BlockFault}
use Rattle.sst_block.specs.declared.fault.BlockFault.TheVariants.{BadRow, BadRestart, BadFooter, Disorder, BadKind, BadHandle}
use Rattle.sst_block.specs.Block.{Row, Spelled, has_differences, no_handle, key_cmp, fresh_starts}

-- the number, where it isn't below 0
-- For proofs alone.
abbrev pub natural : ℤ → Option ℕ
natural (pos n) = Some n
natural (negsuc n) = None

-- the handle of this size that begins behind the block and trailer of the one before, if its numbers are within 64 bits
-- RocksDB: table/format.cc, IndexValue::DecodeFrom; that numbers don't wrap is own
-- Pinned by: reading_finds_exactly_the_rows, faulty_blocks
abbrev pub handle_behind : Handle → ℕ → Option Handle
handle_behind before size =
    if nat_lt (before.offset + before.size + 5) (2 ^ 64) && nat_lt size (2 ^ 64)
    then Some (record { offset = before.offset + before.size + 5; size = size })
    else None

-- the handle whose size differs so much from that of the one before
-- RocksDB: table/format.cc, IndexValue::DecodeFrom; that no size is below 0 is own
-- Pinned by: reading_finds_exactly_the_rows, faulty_blocks
abbrev pub handle_by : Handle → ℤ → Option Handle
handle_by before difference = option_and_then (handle_behind before) (natural (pos before.size +ℤ difference))

-- the same, with how many bytes the difference takes
-- Own.
abbrev pub handle_read : Handle → ℤ × ℕ → Option (Handle × ℕ)
handle_read before read = option_map (λ h. (h, read.1)) (handle_by before read.0)

-- the handle that is said at the front, behind the one before, in a row that shares so many bytes, and how many bytes it takes
-- RocksDB: block.cc, DecodeCurrentValue
-- Pinned by: reading_finds_exactly_the_rows, faulty_blocks
abbrev pub said_at : Bool → ℕ → Handle → List ℕ → Option (Handle × ℕ)
said_at false shared before bytes = handle_at bytes
said_at true zero before bytes = handle_at bytes
said_at true (suc shared) before bytes = option_and_then (handle_read before) (signed_at bytes)

-- how many bytes were taken, if any
-- Own.
abbrev pub taken : Option (Handle × ℕ) → ℕ
taken None = 0
taken (Some read) = read.1

-- the lengths that a row begins with, and how many bytes they take; that of the value is spelled there or told by it
-- Pinned by: reading_finds_exactly_the_rows, faulty_blocks
pub record Lengths : Type 0 where
  pub shared : ℕ
  pub rest : ℕ
  pub value : ℕ
  pub used : ℕ

-- the length of the value of a row that shares so many bytes, and how many bytes its spelling takes at the front. Where handles
-- are differences it has none: the value stands behind the `rest` bytes of the key, and has no byte where no handle is said.
-- RocksDB: block.cc, DecodeKeyV4
-- Pinned by: reading_finds_exactly_the_rows, faulty_blocks
abbrev pub value_length_at : RowForm → Handle → ℕ → ℕ → List ℕ → Option (ℕ × ℕ)
value_length_at form before shared rest bytes =
    if has_differences form then Some (taken (said_at true shared before (drop rest bytes)), 0) else varint32_at bytes

-- two varints, one after the other, and the length of the value
-- Pinned by: reading_finds_exactly_the_rows, faulty_blocks
unfoldable pub lengths_at : RowForm → Handle → List ℕ → Option Lengths
lengths_at form before bytes =
    option_and_then (λ shared. option_and_then (λ rest. option_and_then (λ value.
    Some (record { shared = shared.0; rest = rest.0; value = value.0; used = shared.1 + rest.1 + value.1 }))
    (value_length_at form before shared.0 rest.0 (drop (shared.1 + rest.1) bytes)))
    (varint32_at (drop shared.1 bytes)))
    (varint32_at bytes)

-- the lengths agree with the `room` that is left for rows: the key before has the shared bytes, the row ends within
-- the room, and its key isn't longer than a stored key may be
-- RocksDB: CheckAndDecodeEntry; the limit is own
-- Pinned by: reading_finds_exactly_the_rows, faulty_blocks, long_keys
abbrev pub are_within : List ℕ → ℕ → Lengths → Bool
are_within before room l =
    nat_le l.shared (length before) && (nat_le (l.used + l.rest + l.value) room && nat_le (l.shared + l.rest) stored_key_limit)

-- the row of these lengths: the shared front of the key before and the bytes that follow, and then the value
-- RocksDB: block.cc, ParseNextKey
-- Pinned by: reading_finds_exactly_the_rows
abbrev pub row_by : List ℕ → List ℕ → Lengths → Spelled
row_by before bytes l =
    record {
      shared = l.shared;
      row = record {
        key = take l.shared before ++ take l.rest (drop l.used bytes);
        value = take l.value (drop (l.used + l.rest) bytes);
      };
    }

-- the row at the front, and how many bytes it takes
-- RocksDB: ParseNextKey
-- Pinned by: reading_finds_exactly_the_rows, faulty_blocks, first_fault_is_first
abbrev pub row_of_lengths : List ℕ → List ℕ → Lengths → Option (Spelled × ℕ)
row_of_lengths before bytes l =
    if are_within before (length bytes) l then Some (row_by before bytes l, l.used + l.rest + l.value) else None

unfoldable pub row_at : RowForm → Handle → List ℕ → List ℕ → Option (Spelled × ℕ)
row_at form handle before bytes = option_and_then (row_of_lengths before bytes) (lengths_at form handle bytes)

-- the keys of the form end with a tag
-- RocksDB: db/dbformat.h
-- Pinned by: reading_finds_exactly_the_rows, faulty_blocks, handles
abbrev pub has_tag : RowForm → Bool
has_tag Entries = true
has_tag Names = false
has_tag (Index user_key delta) = not user_key

-- the key is an internal key: its last eight bytes are a tag with one of the four kinds
-- RocksDB: db/dbformat.h, ParseInternalKey
-- Pinned by: reading_finds_exactly_the_rows, faulty_blocks
abbrev pub is_internal_key : List ℕ → Bool
is_internal_key key = is_some (parts_of key) && is_some (fixed_at 8 (drop (length key - 8) key))

-- the handle that was read, if it takes all of n bytes
-- RocksDB: table/format.cc, BlockHandle::DecodeFrom
-- Pinned by: reading_finds_exactly_the_rows, handles
abbrev pub whole_handle : ℕ → Handle × ℕ → Option Handle
whole_handle n read = if read.1 == n then Some read.0 else None

-- the handle that the value says, and nothing else
-- RocksDB: block.cc, DecodeCurrentValue
-- Pinned by: reading_finds_exactly_the_rows, faulty_blocks
abbrev pub handle_said : Bool → ℕ → Handle → List ℕ → Option Handle
handle_said delta shared before value = option_and_then (whole_handle (length value)) (said_at delta shared before value)

-- the handle, or else the one before
-- Own.
abbrev pub or_handle : Handle → Option Handle → Handle
or_handle before None = before
or_handle before (Some h) = h

-- the handle behind a row that shares so many bytes and has this value: in an index the one that it says
-- Own.
-- Pinned by: reading_finds_exactly_the_rows, faulty_blocks
abbrev pub handle_after : RowForm → Handle → ℕ → List ℕ → Handle
handle_after Entries before shared value = before
handle_after Names before shared value = before
handle_after (Index user_key delta) before shared value = or_handle before (handle_said delta shared before value)

-- what the form says of a row's value and of the kind in its key, in this order; `at` is where the row begins, and `handle`
-- the handle of the row before
-- Own.
-- Pinned by: first_fault_is_first, faulty_blocks, handles
abbrev pub form_fault : RowForm → ℕ → Handle → Spelled → Option BlockFault
form_fault Entries at handle s = if is_internal_key s.row.key then None else Some (BadKind at)
form_fault Names at handle s = None
form_fault (Index user_key delta) at handle s =
    if is_some (handle_said delta s.shared handle s.row.value) then None else Some (BadHandle at)

-- the key is after the one before, if there is one
-- Own.
-- Pinned by: first_fault_is_first, faulty_blocks, sound_blocks
abbrev pub is_after : RowForm → Option (List ℕ) → List ℕ → Bool
is_after form None key = true
is_after form (Some before) key = is_lt (key_cmp form before key)

abbrev pub order_fault : RowForm → ℕ → Option (List ℕ) → Row → Option BlockFault
order_fault form at before row = if is_after form before row.key then None else Some (Disorder at)

-- one damage, or else another
-- Own.
-- Pinned by: first_fault_is_first
abbrev pub or_fault : Option BlockFault → Option BlockFault → Option BlockFault
or_fault None next = next
or_fault (Some fault) next = Some fault

-- what a row needs of those before it: the key of the last, if there is one, and the handle that it says
-- Own.
-- Pinned by: first_fault_is_first
pub record Before : Type 0 where
  pub key : Option (List ℕ)
  pub handle : Handle

-- no row is before the first
-- Own.
abbrev pub nothing_before : Before
nothing_before = record { key = None; handle = no_handle }

-- behind one more row
-- Own.
-- Pinned by: first_fault_is_first
abbrev pub behind : RowForm → Before → Spelled → Before
behind form before s = record { key = Some s.row.key; handle = handle_after form before.handle s.shared s.row.value }

-- the first damage of a row whose lengths are good: its key is too short for a tag, what the form says, the order
-- Own.
-- Pinned by: first_fault_is_first
abbrev pub row_fault : RowForm → ℕ → Before → Spelled → Option BlockFault
row_fault form at before s =
    if has_tag form && nat_lt (length s.row.key) 8 then Some (BadRow at)
    else or_fault (form_fault form at before.handle s) (order_fault form at before.key s.row)

-- the front that a key may share
-- RocksDB: block.cc, ParseNextKey
-- Pinned by: reading_finds_exactly_the_rows
abbrev pub key_before : Option (List ℕ) → List ℕ
key_before None = []
key_before (Some key) = key

-- a value, or the damage
-- Own.
abbrev pub unless : {A : Type 0} → A → Option BlockFault → Result A BlockFault
unless x None = Ok x
unless x (Some fault) = Err fault

-- the next step, if the one before found no damage
-- Own.
abbrev pub then_read : {A B : Type 0} → Result A BlockFault → (A → Result B BlockFault) → Result B BlockFault
then_read (Ok x) next = next x
then_read (Err fault) next = Err fault

-- the row at the front, if it has no damage
-- Own.
-- Pinned by: first_fault_is_first, faulty_blocks
abbrev pub sound_row : RowForm → ℕ → Before → Option (Spelled × ℕ) → Result (Spelled × ℕ) BlockFault
sound_row form at before None = Err (BadRow at)
sound_row form at before (Some read) = unless read (row_fault form at before read.0)

unfoldable pub row_read : RowForm → ℕ → Before → List ℕ → Result (Spelled × ℕ) BlockFault
row_read form at before bytes = sound_row form at before (row_at form before.handle (key_before before.key) bytes)

-- a row before others
-- Own.
abbrev pub onto_rows : Spelled → Result (List Spelled) BlockFault → Result (List Spelled) BlockFault
onto_rows s rest = then_read rest (λ rows. Ok (s ∷ rows))

-- the rows that stand in the bytes, of which there are at most n: `at` is where the first begins, `before` what is
-- before it
-- Own.
abbrev pub rows_from : ℕ → RowForm → ℕ → Before → List ℕ → Result (List Spelled) BlockFault
rows_from zero form at before bytes = Ok []
rows_from (suc n) form at before [] = Ok []
rows_from (suc n) form at before (b ∷ bytes) =
    then_read (row_read form at before (b ∷ bytes))
    (λ read. onto_rows read.0 (rows_from n form (at + read.1) (behind form before read.0) (drop read.1 (b ∷ bytes))))

-- the rows that stand in the bytes; each takes a byte at least
-- Own.
unfoldable pub rows_read : RowForm → List ℕ → Result (List Spelled) BlockFault
rows_read form bytes = rows_from (length bytes) form 0 nothing_before bytes

-- the number of restarts agrees with the block's length: there is one at least, and they stand before the footer
-- Pinned by: first_fault_is_first, faulty_blocks
abbrev pub fits_in : ℕ → ℕ → Bool
fits_in size count = nat_lt 0 count && nat_le (4 * count + 4) size

-- the number of four bytes at the front, if it passes the test
-- Pinned by: first_fault_is_first, faulty_blocks
abbrev pub number_where : (ℕ → Bool) → List ℕ → Option ℕ
number_where test bytes = option_and_then (λ n. if test n then Some n else None) (fixed_at 4 bytes)

-- how many restarts the footer says, which is the last four bytes, if it is good; bit 31 would say that a hash part is
-- there, and for now makes the number too large
-- Pinned by: first_fault_is_first, faulty_blocks
abbrev pub restart_count : List ℕ → Option ℕ
restart_count bytes =
    if nat_lt (length bytes) 8 then None else number_where (fits_in (length bytes)) (drop (length bytes - 4) bytes)

-- where the rows end, before so many restarts and the footer
-- Pinned by: reading_finds_exactly_the_rows
abbrev pub rows_end : List ℕ → ℕ → ℕ
rows_end bytes count = length bytes - 4 - 4 * count

-- a restart other than the first is after the one before, and is one of the `fresh` places
-- Own.
-- Pinned by: first_fault_is_first, faulty_blocks
abbrev pub may_follow : List ℕ → ℕ → ℕ → Bool
may_follow fresh before restart = nat_lt before restart && list_any (nat_eq restart) fresh

-- a damage where there is no number, else what comes of the number
-- Own.
-- Pinned by: first_fault_is_first, faulty_blocks
abbrev pub by_number : BlockFault → Option ℕ → (ℕ → Option BlockFault) → Option BlockFault
by_number fault None next = Some fault
by_number fault (Some n) next = next n

-- of the next n restarts the first that may not follow the one before; `i` is the number of the first of them
-- Own.
-- Pinned by: first_fault_is_first, faulty_blocks
abbrev pub restart_fault : List ℕ → ℕ → ℕ → ℕ → List ℕ → Option BlockFault
restart_fault fresh zero i before bytes = None
restart_fault fresh (suc n) i before bytes =
    by_number (BadRestart i) (number_where (may_follow fresh before) bytes)
    (λ restart. restart_fault fresh n (i + 1) restart (drop 4 bytes))

-- the first restart that breaks a rule: the first of all is 0, and each other one is after the one before and is the
-- start of a row that shares nothing
-- Own.
-- Pinned by: first_fault_is_first, faulty_blocks
abbrev pub restarts_fault : List ℕ → ℕ → List ℕ → Option BlockFault
restarts_fault fresh zero bytes = None
restarts_fault fresh (suc n) bytes =
    by_number (BadRestart 0) (number_where (λ first. first == 0) bytes) (λ first. restart_fault fresh n 1 first (drop 4 bytes))

-- the rows, if the restarts have no damage
-- Own.
abbrev pub with_restarts : RowForm → ℕ → List ℕ → List Spelled → Result (List Spelled) BlockFault
with_restarts form count bytes spelled = unless spelled (restarts_fault (fresh_starts form 0 spelled) count bytes)

-- the rows before so many restarts, or the first damage
-- Own.
abbrev pub parts_read : RowForm → List ℕ → Option ℕ → Result (List Spelled) BlockFault
parts_read form bytes None = Err BadFooter
parts_read form bytes (Some count) =
    then_read (rows_read form (take (rows_end bytes count) bytes)) (with_restarts form count (drop (rows_end bytes count) bytes))

-- the rows of a block, or its first damage: of the footer, the rows, the restarts
-- Own.
unfoldable pub block_read : RowForm → List ℕ → Result (List Spelled) BlockFault
block_read form bytes = parts_read form bytes (restart_count bytes)

-- the bytes read as these rows
-- Own.
-- Pinned by: reading_finds_exactly_the_rows
pub record Reads (form : RowForm) (bytes : List ℕ) (rows : List Row) : Type 0 where
  pub spelled : List Spelled
  pub reads : block_read form bytes ≡ Ok spelled
  pub are_rows : map (λ (s : Spelled). s.row) spelled ≡ rows

-- an answer is what was read: the number of rows, or the first damage; out of memory says nothing
-- Own.
-- Pinned by: open.told
abbrev pub Gives : Result ℕ (Refused BlockFault) → Result (List Spelled) BlockFault → Type 0
Gives (Ok n) read = (spelled : List Spelled) × (read ≡ Ok spelled) × (length spelled ≡ n)
Gives (Err Memory) read = Unit {0}
Gives (Err (Cause fault)) read = read ≡ Err fault
