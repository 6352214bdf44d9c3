-- The commands: which one the words are, by the first of them, and what it comes to. For now there are four.
use Rattle.std.specs.Prelude.{ℕ, if◌then◌else◌, List, [], ◌∷◌, codes, Option, Some, None}
use Rattle.std.specs.Option.{option_map}
use Rattle.std.specs.Str.{bytes_eq}
use Rattle.sst_cli.specs.Behaviour.{Behaviour}
use Rattle.sst_cli.specs.CallsCommand.{calls_command}
use Rattle.sst_cli.specs.GetCommand.{get_command}
use Rattle.sst_cli.specs.NoCommand.{no_command}
use Rattle.sst_cli.specs.ScanCommand.{scan_command}
use Rattle.sst_cli.specs.Words.{WriteLine, GetLine, ScanLine, write_line, calls_name, get_line, scan_line}
use Rattle.sst_cli.specs.WriteCommand.{write_command}
use Rattle.sst_cli.specs.declared.command.Command as code

-- a command: a `write` with its file and options, a `calls` with its file, a `get` with its file and what it looks for, or a
-- `scan` with its file and perhaps a snapshot
-- Pinned by: a_command_is_by_its_words
pub data Command : Type 0 where
  Write : WriteLine → Command
  Calls : List ℕ → Command
  Get : GetLine → Command
  Scan : ScanLine → Command

-- the command that the code has
-- Pinned by: run.ends
abbrev pub seen : code.Command → Command
seen (code.TheVariants.Write line) = Write (record { name = line.name.now; options = line.options })
seen (code.TheVariants.Calls name) = Calls name.now
seen (code.TheVariants.Get line) = Get (record { name = line.name.now; target = line.target })
seen (code.TheVariants.Scan line) = Scan (record { name = line.name.now; snapshot = line.snapshot })

-- the command that words with this first one are; nothing where they are none
-- Pinned by: a_command_is_by_its_words
abbrev pub command_by : List ℕ → List (List ℕ) → Option Command
command_by first words =
    if bytes_eq first (codes "write") then option_map Write (write_line words)
    else if bytes_eq first (codes "calls") then option_map Calls (calls_name words)
    else if bytes_eq first (codes "get") then option_map Get (get_line words)
    else if bytes_eq first (codes "scan") then option_map Scan (scan_line words)
    else None

-- the command that the words are; nothing where they are none
-- Pinned by: a_command_is_by_its_words, words_that_are_no_command
abbrev pub command_of : List (List ℕ) → Option Command
command_of [] = None
command_of (first ∷ rest) = command_by first (first ∷ rest)

-- what a command comes to, and what words that are none come to
-- Pinned by: run.ends
abbrev pub behaviour : Option Command → Behaviour
behaviour None = no_command
behaviour (Some (Write line)) = write_command line
behaviour (Some (Calls name)) = calls_command name
behaviour (Some (Get line)) = get_command line
behaviour (Some (Scan line)) = scan_command line

-- the file that a command reads, if it reads one
-- Pinned by: what_a_run_comes_to.device, what_a_run_comes_to.file_only
abbrev pub file_read : Command → Option (List ℕ)
file_read (Write line) = None
file_read (Calls name) = Some name
file_read (Get line) = Some line.name
file_read (Scan line) = Some line.name
