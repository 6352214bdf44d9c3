-- What an input says: what stands in each of its lines, or the first line that is refused and why. The input of a
-- `write` has entry lines, that of `calls` has call lines. These texts are this project's own.
use Rattle.std.specs.Prelude.{ℕ, ◌+◌, nat_lt, nat_le, ◌==◌, if◌then◌else◌, List, [], ◌∷◌, ◌++◌, length, Option, Some, None, Result, Ok, Err}
use Rattle.sst_key.specs.declared.calls.Call.{Call}
use Rattle.sst_key.specs.declared.entries.Entry.{Entry}
use Rattle.sst_key.specs.declared.faults.WriteFault.{WriteFault}
use Rattle.sst_cli.specs.declared.input.refusal.Reason.{Reason}
use Rattle.sst_cli.specs.declared.input.refusal.Reason.TheVariants.{LineLong, Line, Refused, Many}
use Rattle.sst_cli.specs.declared.input.refusal.Refusal.{Refusal}
use Rattle.sst_text.specs.Limits.{line_limit}
use Rattle.sst_text.specs.Texts.{entry_of_line}
use Rattle.sst_text.specs.CallText.{call_of_line}
use Rattle.sst_bbt_write.specs.Reasons.{reason}

-- one of two answers, by a result
-- Pinned by: a_list_reads_back, refused_lines
abbrev pub result_match : {A B C : Type 0} → Result A B → (A → C) → (B → C) → C
result_match (Ok x) f g = f x
result_match (Err y) f g = g y

-- a byte before the first piece
-- Pinned by: a_list_reads_back
abbrev pub onto_first : ℕ → List (List ℕ) → List (List ℕ)
onto_first b [] = (b ∷ []) ∷ []
onto_first b (piece ∷ pieces) = (b ∷ piece) ∷ pieces

-- the pieces of a text between its line ends; the last one is what follows the last line end
-- Pinned by: a_list_reads_back
abbrev pub pieces_of : List ℕ → List (List ℕ)
pieces_of [] = [] ∷ []
pieces_of (b ∷ text) = if b == 10 then [] ∷ pieces_of text else onto_first b (pieces_of text)

-- the refusal of a line, whose number counts from 1
-- Pinned by: refused_lines
abbrev pub refused_at : ℕ → Reason → Refusal
refused_at number why = record { line = number; reason = why }

-- what follows the last line end says: nothing, or a line without its end
-- Pinned by: long_lines, refused_lines
abbrev pub read_last : {A : Type 0} → ℕ → List A → List ℕ → Result (List A) Refusal
read_last number items [] = Ok items
read_last number items (b ∷ rest) =
    if nat_lt line_limit (length (b ∷ rest)) then Err (refused_at number LineLong) else Err (refused_at number Line)

-- what the pieces of a text say, where `read` tells what a line says after the items before it: those items and
-- those of the lines, or the first refusal
-- Pinned by: a_list_reads_back, refused_lines
abbrev pub read_pieces : {A : Type 0} → (List A → List ℕ → Result A Reason) → ℕ → List A → List (List ℕ) → Result (List A) Refusal
read_pieces read number items [] = Ok items
read_pieces read number items (last ∷ []) = read_last number items last
read_pieces read number items (line ∷ next ∷ rest) =
    result_match (read items line) (λ x. read_pieces read (number + 1) (items ++ x ∷ []) (next ∷ rest)) (λ why. Err (refused_at number why))

-- what a text says after these items, whose first line has this number
-- Pinned by: a_list_reads_back, refused_lines
unfoldable pub read_from : {A : Type 0} → (List A → List ℕ → Result A Reason) → ℕ → List A → List ℕ → Result (List A) Refusal
read_from read number items text = read_pieces read number items (pieces_of text)

-- the entry of a line, if there is no reason to refuse it after these entries
-- Pinned by: refused_lines
abbrev pub by_reason : Entry → Option WriteFault → Result Entry Reason
by_reason e None = Ok e
by_reason e (Some fault) = Err (Refused fault)

abbrev pub by_entry : List Entry → Option Entry → Result Entry Reason
by_entry entries None = Err Line
by_entry entries (Some e) = by_reason e (reason entries e)

-- what an entry line says after these entries: its entry, or the first reason to refuse it
-- Pinned by: long_lines
unfoldable pub read_line : List Entry → List ℕ → Result Entry Reason
read_line entries line = if nat_lt line_limit (length line) then Err LineLong else by_entry entries (entry_of_line line)

-- what the whole input of a `write` says
-- Pinned by: a_list_reads_back, refused_lines
abbrev pub read_input : List ℕ → Result (List Entry) Refusal
read_input text = read_from read_line 1 [] text

-- the most calls of an input
-- Own.
-- Pinned by: as_many_calls_as_there_may_be
abbrev pub calls_limit : ℕ
calls_limit = 1048576

-- the call of a line, if fewer than 1,048,576 calls came before it
-- Pinned by: as_many_calls_as_there_may_be, what_a_text_says_fits
abbrev pub by_call : List Call → Option Call → Result Call Reason
by_call calls None = Err Line
by_call calls (Some call) = if nat_le calls_limit (length calls) then Err Many else Ok call

-- what a call line says after these calls: its call, or the first reason to refuse it
-- Pinned by: long_lines, lines_that_are_no_call_lines
unfoldable pub read_call : List Call → List ℕ → Result Call Reason
read_call calls line = if nat_lt line_limit (length line) then Err LineLong else by_call calls (call_of_line line)

-- what the whole input of `calls` says
-- Pinned by: a_call_list_reads_back, lines_that_are_no_call_lines
abbrev pub read_calls : List ℕ → Result (List Call) Refusal
read_calls text = read_from read_call 1 [] text
