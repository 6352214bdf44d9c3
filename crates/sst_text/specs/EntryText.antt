-- The one line that is written for an entry, and the text of a list. These texts are this project's own.
-- Pinned by: lists, an_entry_line_is_that_of_its_entry
use Rattle.std.specs.Prelude.{ℕ, List, [], ◌∷◌, ◌++◌, All}
use Rattle.std.specs.List.{flat_map}
use Rattle.std.specs.Fmt.{decimal}
use Rattle.hex.specs.Hex.{encode_lower, IsBytes}
use Rattle.sst_key.specs.declared.entries.Kind.{Kind}
use Rattle.sst_key.specs.declared.entries.Kind.TheVariants.{Deletion, Value, Merge, SingleDeletion}
use Rattle.sst_key.specs.declared.entries.Entry.{Entry}

-- a user key or a value: `-` where it is empty, else two lower-case hex digits for each byte
abbrev pub hex_text : List ℕ → List ℕ
hex_text [] = 45 ∷ []
hex_text (b ∷ rest) = encode_lower (b ∷ rest)

-- the letter of a kind: D, P, M or S
abbrev pub kind_letter : Kind → ℕ
kind_letter Deletion = 68
kind_letter Value = 80
kind_letter Merge = 77
kind_letter SingleDeletion = 83

-- the four fields with one blank between each two, and no line end
abbrev pub entry_line : Entry → List ℕ
entry_line e =
    hex_text e.user ++ (32 ∷ (decimal e.seq ++ (32 ∷ kind_letter e.kind ∷ 32 ∷ hex_text e.value)))

-- the line of an entry and its line end
-- Pinned by: a_list_reads_back
abbrev pub ended_line : Entry → List ℕ
ended_line e = entry_line e ++ 10 ∷ []

-- the text of a list: the line of each entry and its line end
-- Pinned by: a_list_reads_back
abbrev pub lines_text : List Entry → List ℕ
lines_text entries = flat_map ended_line entries

-- the user key and the value of each entry are bytes
-- Pinned by: a_list_reads_back, what_a_text_says_fits
abbrev pub AreBytes : List Entry → Type 0
AreBytes entries = All (λ e. IsBytes e.user × IsBytes e.value) entries
