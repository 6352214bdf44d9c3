-- A text of which part was printed.
use Rattle.std.specs.Prelude.{◌≡◌, ℕ, List, ◌++◌, Option}
use Rattle.std.specs.Io.KnownBytes.{append_known}

-- what was put so far, what waits to be put, and the rest of the text make up the whole
-- For proofs alone.
-- Pinned by: run.ends
pub record PartPrinted (whole : List ℕ) (before now : Option (List ℕ)) (waiting rest : List ℕ) : Type 0 where
  pub put : List ℕ
  pub printed : now ≡ append_known before put
  pub parts : whole ≡ put ++ (waiting ++ rest)
