-- Where a line ends, and what reading on to the end of a line finds.
use Rattle.std.specs.Prelude.{◌≡◌, ℕ, ◌<◌, ◌≤◌, List, [], ◌++◌, length, take, drop, Option, None, Some, IfSome}
use Rattle.sst_text.specs.declared.lines.Found.{Found}
use Rattle.sst_text.specs.declared.lines.Found.TheVariants.{Line, Long, Unended, End}
use Rattle.sst_text.specs.Limits.{line_limit}
use Rattle.sst_text.specs.Texts.{cut}

-- no byte is left, where that is modelled
-- Pinned by: add_lines.ok, read_calls.ok
abbrev pub IsRead : Option (List ℕ) → Type 0
IsRead left = IfSome left (λ rest. rest ≡ [])

-- a line that passes its limit: more bytes than that, and no line end among them
-- Pinned by: add_lines.refused, read_calls.refused
pub record BeginsLong (bytes : List ℕ) : Type 0 where
  pub front : List ℕ
  pub rest : List ℕ
  pub parts : bytes ≡ front ++ rest
  pub long : line_limit < length front
  pub none : cut 10 front ≡ None

-- what was found at the front of the bytes read so far, with `left` still to come
-- Pinned by: add_lines.ok, add_lines.refused
abbrev pub IsFound : Found → List ℕ → Option (List ℕ) → Type 0
IsFound (Line n) bytes left = (n ≤ line_limit) × (cut 10 bytes ≡ Some (take n bytes, drop 1 (drop n bytes)))
IsFound Long bytes left = BeginsLong bytes
IsFound Unended bytes left = (0 < length bytes) × (length bytes ≤ line_limit) × (cut 10 bytes ≡ None) × IsRead left
IsFound End bytes left = (bytes ≡ []) × IsRead left
