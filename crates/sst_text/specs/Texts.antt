-- The text of an entry: one line of four fields, each separated from the next by one blank. These texts are this
-- project's own. A user key or a value is in hex digits of either case, `-` where it is empty.
-- Pinned by: an_entry_line_reads_back, an_entry_line_is_that_of_its_entry
use Rattle.std.specs.Prelude.{ℕ, ◌+◌, ◌-◌, ◌*◌, ◌^◌, ◌==◌, nat_lt, if◌then◌else◌, List, [], ◌∷◌, Option, Some, None, option_and_then}
use Rattle.std.specs.Option.{option_map}
use Rattle.std.specs.Result.{result_ok}
use Rattle.std.specs.Char.{is_ascii_digit}
use Rattle.hex.specs.Hex.{decode_of}
use Rattle.sst_key.specs.declared.entries.Kind.{Kind}
use Rattle.sst_key.specs.declared.entries.Kind.TheVariants.{Deletion, Value, Merge, SingleDeletion}
use Rattle.sst_key.specs.declared.entries.Entry.{Entry}

-- the ? of the logic: the second step, if the first gave a value
-- Pinned by: refused_lines
infixl 10 ◌>>=◌
abbrev pub ◌>>=◌ : {A B : Type 0} → Option A → (A → Option B) → Option B
o >>= f = option_and_then f o

-- what stands before the first such byte, and what stands after it; nothing where there is none
abbrev pub cut : ℕ → List ℕ → Option (List ℕ × List ℕ)
cut byte [] = None
cut byte (x ∷ rest) = if x == byte then Some ([], rest) else option_map (λ parts. (x ∷ parts.0, parts.1)) (cut byte rest)

-- a user key or a value: hex digits, or `-`
abbrev pub bytes_field : List ℕ → Option (List ℕ)
bytes_field [] = None
bytes_field (c ∷ []) = if c == 45 then Some [] else None
bytes_field (c ∷ d ∷ rest) = result_ok (decode_of (c ∷ d ∷ rest))

-- the number that `value` and the decimal digits after it spell
abbrev pub digits_from : ℕ → List ℕ → Option ℕ
digits_from value [] = Some value
digits_from value (c ∷ rest) = if is_ascii_digit c then digits_from (value * 10 + (c - 48)) rest else None

-- a number below the end of sequence numbers
-- Pinned by: refused_lines, worked_files
abbrev pub in_range : ℕ → Option ℕ
in_range seq = if nat_lt seq (2 ^ 56) then Some seq else None

-- a sequence number: decimal digits without sign or leading zeros
-- Pinned by: lists_that_fit, an_entry_line_is_that_of_its_entry
abbrev pub seq_field : List ℕ → Option ℕ
seq_field [] = None
seq_field (c ∷ []) = digits_from 0 (c ∷ []) >>= in_range
seq_field (c ∷ d ∷ rest) = if c == 48 then None else digits_from 0 (c ∷ d ∷ rest) >>= in_range

-- the kind that a letter stands for: D, P, M or S
-- Pinned by: the_kinds, an_entry_line_is_that_of_its_entry
abbrev pub kind_of_letter : ℕ → Option Kind
kind_of_letter c =
    if c == 68 then Some Deletion
    else if c == 80 then Some Value
    else if c == 77 then Some Merge
    else if c == 83 then Some SingleDeletion
    else None

-- a kind: one letter
abbrev pub kind_field : List ℕ → Option Kind
kind_field [] = None
kind_field (c ∷ []) = kind_of_letter c
kind_field (c ∷ d ∷ rest) = None

-- the four fields of a line, the sequence number and the kind read
-- Pinned by: worked_files, an_entry_line_is_that_of_its_entry
pub record Fields : Type 0 where
  pub user : List ℕ
  pub seq : ℕ
  pub kind : Kind
  pub value : List ℕ

unfoldable pub fields_of : List ℕ → Option Fields
fields_of line = do
  a ← cut 32 line
  b ← cut 32 a.1
  c ← cut 32 b.1
  seq ← seq_field b.0
  kind ← kind_field c.0
  Some (record { user = a.0; seq = seq; kind = kind; value = c.1 })

-- the entry of four fields
-- Pinned by: worked_files, an_entry_line_is_that_of_its_entry
unfoldable pub entry_of_fields : Fields → Option Entry
entry_of_fields fields = do
  user ← bytes_field fields.user
  value ← bytes_field fields.value
  Some (record { user = user; seq = fields.seq; kind = fields.kind; value = value })

-- the entry of a line without its line end
abbrev pub entry_of_line : List ℕ → Option Entry
entry_of_line line = fields_of line >>= entry_of_fields
