-- The words of a command line. These words are this project's own. For now there are four commands,
-- `write block OUT`, with options (Options), `calls FILE`, `get FILE USER SEQ`, and `scan FILE`, with or without a SEQ.
-- Pinned by: words_that_are_no_command, good_options
use Rattle.std.specs.Prelude.{ℕ, ◌&&◌, if◌then◌else◌, List, [], ◌∷◌, codes, Option, Some, None, option_and_then}
use Rattle.std.specs.Option.{option_map}
use Rattle.std.specs.Str.{bytes_eq}
use Rattle.sst_key.specs.declared.calls.Target.{Target}
use Rattle.sst_text.specs.CallText.{target_of_fields}
use Rattle.sst_text.specs.Texts.{seq_field}
use Rattle.sst_cli.specs.Options.{options_of}
use Rattle.sst_bbt_write.specs.declared.bbt_options.BbtOptions.{BbtOptions}

-- a `write`: the name of the file that it makes, and the options
-- Pinned by: words_that_are_no_command, worked_files, forty_entries
pub record WriteLine : Type 0 where
  pub name : List ℕ
  pub options : BbtOptions

abbrev pub line_with : List ℕ → Option BbtOptions → Option WriteLine
line_with name options = option_map (λ (o : BbtOptions). record { name = name; options = o }) options

-- the `write` that the words are; nothing where they are none
-- Pinned by: words_that_are_no_command, worked_files, forty_entries
abbrev pub write_line : List (List ℕ) → Option WriteLine
write_line [] = None
write_line (command ∷ []) = None
write_line (command ∷ format ∷ []) = None
write_line (command ∷ format ∷ [] ∷ options) = None
write_line (command ∷ format ∷ (b ∷ name) ∷ options) =
    if bytes_eq command (codes "write") && bytes_eq format (codes "block") then line_with (b ∷ name) (options_of options) else None

-- the name of the file that a `write` makes; nothing where the words are no such line
-- Pinned by: a_file_with_the_name_of_an_option
abbrev pub out_name : List (List ℕ) → Option (List ℕ)
out_name words = option_map (λ (line : WriteLine). line.name) (write_line words)

-- the name of the file that a `calls` reads; nothing where the words are no such line
-- Pinned by: words_that_are_no_command, lists
abbrev pub calls_name : List (List ℕ) → Option (List ℕ)
calls_name [] = None
calls_name (command ∷ []) = None
calls_name (command ∷ [] ∷ []) = None
calls_name (command ∷ (b ∷ name) ∷ []) = if bytes_eq command (codes "calls") then Some (b ∷ name) else None
calls_name (command ∷ name ∷ next ∷ rest) = None

-- the name, where the word before it is this one and it isn't empty
-- Pinned by: questions
abbrev pub name_after : List ℕ → List ℕ → List ℕ → Option (List ℕ)
name_after word command [] = None
name_after word command (b ∷ name) = if bytes_eq command word then Some (b ∷ name) else None

-- a `get`: the name of the file that it reads, and the user key and the snapshot that it looks for
-- Pinned by: questions
pub record GetLine : Type 0 where
  pub name : List ℕ
  pub target : Target

abbrev pub get_of_name : List ℕ → Option Target → Option GetLine
get_of_name name target = option_map (λ (t : Target). record { name = name; target = t }) target

-- the `get` that the words are; nothing where they are none. USER and SEQ are as in a call line.
-- Pinned by: questions
abbrev pub get_line : List (List ℕ) → Option GetLine
get_line [] = None
get_line (command ∷ []) = None
get_line (command ∷ name ∷ []) = None
get_line (command ∷ name ∷ user ∷ []) = None
get_line (command ∷ name ∷ user ∷ seq ∷ []) =
    option_and_then (λ named. get_of_name named (target_of_fields user seq)) (name_after (codes "get") command name)
get_line (command ∷ name ∷ user ∷ seq ∷ next ∷ rest) = None

-- a `scan`: the name of the file that it reads, and the snapshot, if it has one
-- Pinned by: questions
pub record ScanLine : Type 0 where
  pub name : List ℕ
  pub snapshot : Option ℕ

abbrev pub scan_of_name : List ℕ → Option ℕ → Option ScanLine
scan_of_name name seq = option_map (λ (n : ℕ). record { name = name; snapshot = Some n }) seq

-- the `scan` that the words are; nothing where they are none. SEQ is as in a call line.
-- Pinned by: questions
abbrev pub scan_line : List (List ℕ) → Option ScanLine
scan_line [] = None
scan_line (command ∷ []) = None
scan_line (command ∷ name ∷ []) =
    option_map (λ (named : List ℕ). record { name = named; snapshot = None }) (name_after (codes "scan") command name)
scan_line (command ∷ name ∷ seq ∷ []) =
    option_and_then (λ named. scan_of_name named (seq_field seq)) (name_after (codes "scan") command name)
scan_line (command ∷ name ∷ seq ∷ next ∷ rest) = None
