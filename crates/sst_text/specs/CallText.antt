-- The text of a call: one line of a name and, for three of the names, a target of two fields, each separated from the
-- next by one blank. These texts are this project's own. The calls are those of RocksDB's `DB::Get` in
-- include/rocksdb/db.h and of `Iterator` in include/rocksdb/iterator.h.
-- Pinned by: a_call_line_reads_back, a_call_line_is_that_of_its_call
use Rattle.std.specs.Prelude.{ℕ, ◌<◌, ◌≤◌, ◌^◌, nat_le, if◌then◌else◌, List, [], ◌∷◌, ◌++◌, length, codes, All, Option, Some, None, IfSome}
use Rattle.std.specs.List.{flat_map}
use Rattle.std.specs.Fmt.{decimal}
use Rattle.std.specs.Str.{bytes_eq}
use Rattle.hex.specs.Hex.{IsBytes}
use Rattle.sst_key.specs.declared.calls.Target.{Target}
use Rattle.sst_key.specs.declared.calls.Call.{Call}
use Rattle.sst_key.specs.declared.calls.Call.TheVariants.{Get, First, Last, Seek, SeekForPrev, Next, Prev}
use Rattle.sst_key.specs.Limits.{key_limit}
use Rattle.sst_text.specs.Texts.{◌>>=◌, cut, bytes_field, seq_field}
use Rattle.sst_text.specs.EntryText.{hex_text}

-- ---- a call line, read

-- the target of two fields: a user key of at most 65,536 bytes, and the sequence number of a snapshot
-- Pinned by: long_targets, lists, a_call_line_is_that_of_its_call
abbrev pub target_of_user : ℕ → List ℕ → Option Target
target_of_user seq user = if nat_le (length user) key_limit then Some (record { user = user; seq = seq }) else None

abbrev pub target_of_fields : List ℕ → List ℕ → Option Target
target_of_fields user seq = seq_field seq >>= λ n. bytes_field user >>= target_of_user n

-- the target of a text: its two fields with one blank between them
-- Pinned by: lines_that_are_no_call_lines, a_call_line_is_that_of_its_call
abbrev pub target_of : List ℕ → Option Target
target_of text = cut 32 text >>= λ fields. target_of_fields fields.0 fields.1

-- the call of a name alone: `first`, `last`, `next`, `prev`
-- Pinned by: files_without_properties, a_call_line_is_that_of_its_call
abbrev pub plain_call : List ℕ → Option Call
plain_call name =
    if bytes_eq name (codes "first") then Some First
    else if bytes_eq name (codes "last") then Some Last
    else if bytes_eq name (codes "next") then Some Next
    else if bytes_eq name (codes "prev") then Some Prev
    else None

-- the call of a name and a target: `get`, `seek`, `seek_for_prev`
-- Pinned by: files_without_properties, a_call_line_is_that_of_its_call
abbrev pub call_to : List ℕ → Target → Option Call
call_to name target =
    if bytes_eq name (codes "get") then Some (Get target)
    else if bytes_eq name (codes "seek") then Some (Seek target)
    else if bytes_eq name (codes "seek_for_prev") then Some (SeekForPrev target)
    else None

-- the call of a line that was cut at its first blank, if it has one
-- Pinned by: lines_that_are_no_call_lines, a_call_line_is_that_of_its_call
abbrev pub call_of_parts : List ℕ → Option (List ℕ × List ℕ) → Option Call
call_of_parts line None = plain_call line
call_of_parts line (Some parts) = target_of parts.1 >>= call_to parts.0

-- the call of a line without its line end
abbrev pub call_of_line : List ℕ → Option Call
call_of_line line = call_of_parts line (cut 32 line)

-- ---- a call line, written

-- the name of a call
abbrev pub call_name : Call → List ℕ
call_name (Get target) = codes "get"
call_name First = codes "first"
call_name Last = codes "last"
call_name (Seek target) = codes "seek"
call_name (SeekForPrev target) = codes "seek_for_prev"
call_name Next = codes "next"
call_name Prev = codes "prev"

-- the target of a call that has one
abbrev pub target_in : Call → Option Target
target_in (Get target) = Some target
target_in First = None
target_in Last = None
target_in (Seek target) = Some target
target_in (SeekForPrev target) = Some target
target_in Next = None
target_in Prev = None

-- the two fields of a target, with one blank before each
abbrev pub target_text : Option Target → List ℕ
target_text None = []
target_text (Some target) = 32 ∷ (hex_text target.user ++ (32 ∷ decimal target.seq))

-- the line that is written for a call, and no line end
abbrev pub call_line : Call → List ℕ
call_line call = call_name call ++ target_text (target_in call)

-- the line of a call and its line end
-- Pinned by: a_call_list_reads_back
abbrev pub ended_call : Call → List ℕ
ended_call call = call_line call ++ 10 ∷ []

-- the text of a list of calls: the line of each call and its line end
-- Pinned by: a_call_list_reads_back
abbrev pub calls_text : List Call → List ℕ
calls_text calls = flat_map ended_call calls

-- ---- the limits of a call

-- a user key of at most 65,536 bytes, and a sequence number below 2^56
-- Own: the limits.
-- Pinned by: a_call_line_reads_back, read_calls.limits, what_a_text_says_fits
pub record IsTargetInLimits (target : Target) : Type 0 where
  pub key : length target.user ≤ key_limit
  pub seq : target.seq < 2 ^ 56

-- the target of a call is in its limits, if it has one
-- Pinned by: a_call_list_reads_back, read_calls.limits, what_a_text_says_fits
abbrev pub IsInLimits : Call → Type 0
IsInLimits call = IfSome (target_in call) IsTargetInLimits

-- the target of each call is in its limits
-- Pinned by: a_call_list_reads_back, read_calls.limits, what_a_text_says_fits
abbrev pub AreInLimits : List Call → Type 0
AreInLimits calls = All IsInLimits calls

-- the user key of a call's target is bytes, if it has one
-- Pinned by: a_call_list_reads_back, what_a_text_says_fits
abbrev pub IsOfBytes : Call → Type 0
IsOfBytes call = IfSome (target_in call) (λ target. IsBytes target.user)

-- the user key of each call's target is bytes
-- Pinned by: a_call_list_reads_back, what_a_text_says_fits
abbrev pub AreOfBytes : List Call → Type 0
AreOfBytes calls = All IsOfBytes calls
