-- The limits of what is read of an input, which are this project's own.
use Rattle.std.specs.Prelude.{ℕ}

-- the most bytes of a line before its line end
-- Own.
-- Pinned by: long_lines
abbrev pub line_limit : ℕ
line_limit = 40000000

-- the most bytes that are taken of an input at a time
-- Own.
-- Pinned by: refused_calls_take_a_piece_more
abbrev pub piece_limit : ℕ
piece_limit = 65536
