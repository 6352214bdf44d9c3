-- How much of a text was taken: up to the end of a line, and at most one piece more.
-- Pinned by: refused_calls_take_a_piece_more
use Rattle.std.specs.Prelude.{◌≡◌, ℕ, zero, suc, ◌+◌, ◌==◌, ◌≤◌, if◌then◌else◌, List, [], ◌∷◌, length, Option, Some}
use Rattle.sst_text.specs.Limits.{piece_limit}

-- what follows the first line of a text and its line end; nothing where no line ends
abbrev pub past_line : List ℕ → List ℕ
past_line [] = []
past_line (b ∷ text) = if b == 10 then text else past_line text

-- what follows the first so many lines of a text
abbrev pub past_lines : ℕ → List ℕ → List ℕ
past_lines zero text = text
past_lines (suc n) text = past_lines n (past_line text)

-- so much of the text is left that at most 65,536 bytes were taken of what follows its first so many lines
pub record IsTakenTo (lines : ℕ) (text : List ℕ) (left : Option (List ℕ)) : Type 0 where
  pub rest : List ℕ
  pub told : left ≡ Some rest
  pub near : length (past_lines lines text) ≤ piece_limit + length rest
