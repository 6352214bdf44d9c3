-- The text of the answers to a list of calls: one line each. These texts are this project's own.
-- Pinned by: lists
use Rattle.std.specs.Prelude.{◌≡◌, ℕ, List, [], ◌∷◌, ◌++◌, Option, None}
use Rattle.std.specs.Io.KnownBytes.{append_known}
use Rattle.sst_key.specs.declared.entries.Entry.{Entry}
use Rattle.sst_key.specs.declared.calls.Call.{Call}
use Rattle.sst_key.specs.declared.calls.Answer.{Answer}
use Rattle.sst_key.specs.declared.calls.Format.TheVariants.{Block}
use Rattle.sst_key.specs.ListMachine.{replies_from}
use Rattle.sst_text.specs.ReplyText.{reply_line}
use Rattle.sst_bbt_read.specs.Cursors.{entry_shown}
use Rattle.sst_bbt_spec.specs.Parts.{Part, stored_in}
use Rattle.sst_bbt_spec.specs.PartWay.{replies_in_parts_from}

-- the line of what a call answers, and its line end
abbrev pub answer_line : List Entry → Call → Answer → List ℕ
answer_line entries call answer = reply_line answer.reply (entry_shown entries answer) call ++ 10 ∷ []

-- a line for each call and its answer
abbrev pub lines_of : List Entry → List Call → List Answer → List ℕ
lines_of entries [] answers = []
lines_of entries (call ∷ calls) [] = []
lines_of entries (call ∷ calls) (answer ∷ answers) = answer_line entries call answer ++ lines_of entries calls answers

-- the text of the answers from a position on
-- Pinned by: run.headline_calls, lists
unfoldable pub answers_from : List Entry → Option ℕ → List Call → List ℕ
answers_from entries position calls = lines_of entries calls (replies_from Block 0 entries position calls)

-- the text of the answers of a block-based table with these entries
-- Pinned by: run.headline_calls, lists
abbrev pub answers_text : List Entry → List Call → List ℕ
answers_text entries calls = answers_from entries None calls

-- the text of the answers by the way of the parts, from a position on
-- Pinned by: what_calls_come_to.answered, entries_after_separators
unfoldable pub way_from : List Part → Option ℕ → List Call → List ℕ
way_from parts position calls = lines_of (stored_in parts) calls (replies_in_parts_from None parts position calls)

-- the text of the answers of a block-based table with these parts
-- Pinned by: what_calls_come_to.answered, entries_after_separators
abbrev pub way_text : List Part → List Call → List ℕ
way_text parts calls = way_from parts None calls

-- Part of a text was printed: what was put so far, what waits in `text` and the answers to the calls from here on make
-- up the whole.
-- Pinned by: what_calls_come_to.answered
pub record Printing (parts : List Part) (calls : List Call) (before now : Option (List ℕ)) (text : List ℕ) (position : Option ℕ) (rest : List Call) : Type 0 where
  pub put : List ℕ
  pub printed : now ≡ append_known before put
  pub whole : way_text parts calls ≡ put ++ (text ++ way_from parts position rest)
