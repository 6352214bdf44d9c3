-- The next line of an input, and why there is none that can be read.
-- Pinned by: add_lines.refused, read_calls.refused
use Rattle.std.specs.Prelude.{◌≡◌, ◌⊎◌, ℕ, ◌<◌, ◌≤◌, List, [], length, take, drop, Option, Some, None}
use Rattle.sst_cli.specs.declared.input.refusal.Reason.TheVariants.{LineLong, Line}
use Rattle.sst_cli.specs.declared.input.refusal.Refusal.{Refusal}
use Rattle.sst_text.specs.Limits.{line_limit}
use Rattle.sst_text.specs.Texts.{cut}
use Rattle.sst_text.specs.Lines.{BeginsLong, IsRead}
use Rattle.sst_cli.specs.InputReading.{refused_at}

-- how many bytes the line at the front of the unread bytes has before its line end; none where the input has ended
-- Pinned by: add_lines.ok, read_calls.ok
abbrev pub IsNext : Option ℕ → List ℕ → Option (List ℕ) → Type 0
IsNext None unread left = (unread ≡ []) × IsRead left
IsNext (Some n) unread left = (n ≤ line_limit) × (cut 10 unread ≡ Some (take n unread, drop 1 (drop n unread)))

-- a text that is a line without its end: some bytes, not too many, and no line end among them
pub record IsUnended (text : List ℕ) : Type 0 where
  pub some : 0 < length text
  pub short : length text ≤ line_limit
  pub none : cut 10 text ≡ None

-- no line can be read at the front of a text, and the line of this number is refused for that: it passes its limit, or
-- has no end
abbrev pub HasNoLine : ℕ → List ℕ → Refusal → Type 0
HasNoLine number text refusal =
    (BeginsLong text × (refusal ≡ refused_at number LineLong)) ⊎ (IsUnended text × (refusal ≡ refused_at number Line))
