-- The one line that is printed for what a call answers. These texts are this project's own.
-- Pinned by: lists
use Rattle.std.specs.Prelude.{ℕ, List, [], ◌++◌, codes, Option, Some, None}
use Rattle.sst_key.specs.declared.entries.Entry.{Entry}
use Rattle.sst_key.specs.declared.calls.Call.{Call}
use Rattle.sst_key.specs.declared.calls.Reply.{Reply}
use Rattle.sst_key.specs.declared.calls.Reply.TheVariants as reply
use Rattle.sst_text.specs.EntryText.{entry_line}
use Rattle.sst_text.specs.CallText.{call_name}

-- the line of an entry that is shown; nothing where no entry comes with the reply
abbrev pub shown_line : Option Entry → List ℕ
shown_line None = []
shown_line (Some e) = entry_line e

-- the line that is printed for a reply to a call, and no line end
abbrev pub reply_line : Reply → Option Entry → Call → List ℕ
reply_line reply.Shown shown call = shown_line shown
reply_line reply.None shown call = codes "none"
reply_line reply.Lacks shown call = codes "lacks " ++ call_name call
reply_line reply.NotPositioned shown call = codes "not-positioned"
