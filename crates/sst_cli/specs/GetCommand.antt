-- What a `get` comes to: it opens its file, and shows the newest entry of a user key that a snapshot sees.
use Rattle.std.specs.Prelude.{ℕ, List, codes, Option, Some, None, option_and_then, slice_get}
use Rattle.sst_key.specs.declared.calls.Target.{Target}
use Rattle.sst_key.specs.declared.entries.Entry.{Entry}
use Rattle.sst_key.specs.ListMachine.{get_of}
use Rattle.sst_text.specs.EntryText.{ended_line}
use Rattle.sst_bbt_spec.specs.Parts.{Part, stored_in}
use Rattle.sst_bbt_spec.specs.PartWay.{get_in_parts}
use Rattle.sst_cli.specs.Behaviour.{Behaviour}
use Rattle.sst_cli.specs.OpenFile.{prints_of_file}
use Rattle.sst_cli.specs.Words.{GetLine}

-- what is printed for an entry that is looked for: its line, or `none`
-- Own.
-- Pinned by: questions
abbrev pub found_text : Option Entry → List ℕ
found_text None = codes "none\n"
found_text (Some e) = ended_line e

-- the entry at a place, if it is one
-- Own.
-- Pinned by: questions
abbrev pub entry_at : List Entry → Option ℕ → Option Entry
entry_at entries place = option_and_then (λ i. slice_get entries i) place

-- the text of a Get over a list
-- Pinned by: what_a_get_comes_to.got_as_list
abbrev pub got_text : List Entry → Target → List ℕ
got_text entries target = found_text (entry_at entries (get_of entries target.user target.seq))

-- the text of a Get by the way of the parts
-- Pinned by: what_a_get_comes_to.got, questions
abbrev pub way_got_text : Target → List Part → List ℕ
way_got_text target parts = found_text (entry_at (stored_in parts) (get_in_parts None parts target.user target.seq))

-- what a `get` comes to
-- Pinned by: what_a_get_comes_to.got, questions
abbrev pub get_command : GetLine → Behaviour
get_command line = prints_of_file line.name (way_got_text line.target)
