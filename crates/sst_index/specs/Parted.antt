-- How far the partitions of an index are written, and how far the parts of a filter are led to.
-- For proofs alone.
use Rattle.std.specs.Prelude.{◌≡◌, ℕ, ◌+◌, ◌≤◌, List, ◌++◌, length, take, drop, sum_by}
use Rattle.sst_block.specs.IndexRows.{IndexPair}
use Rattle.sst_index.specs.declared.flags.IndexFlags.{IndexFlags}
use Rattle.sst_index.specs.declared.top.TopBuilder.{TopBuilder}
use Rattle.sst_index.specs.FilterBytes.{leading_pairs, stored_size}
use Rattle.sst_index.specs.IndexBytes.{parts_of, part_pairs, stored_parts}
use Rattle.sst_index.specs.Top.{HoldsPairs}

-- the partitions of the first `from` pairs stand there, and the top block leads to them
-- For proofs alone.
-- Pinned by: finish.bytes
pub record ArePut (flags : IndexFlags) (interval k base : ℕ) (pairs : List IndexPair) (from : ℕ) (old now : List ℕ) (top : TopBuilder) : Type 0 where
  pub done : List (List IndexPair)
  pub whole : parts_of k pairs ≡ done ++ parts_of k (drop from pairs)
  pub bytes : now ≡ old ++ stored_parts flags interval done
  pub holds : HoldsPairs top flags interval (part_pairs flags interval base done)
  pub within : from ≤ length pairs

-- the top block leads to the first `row` of the blocks of these sizes, and the next begins at `at`
-- For proofs alone.
-- Pinned by: finish.bytes
pub record LeadsSoFar (flags : IndexFlags) (interval base : ℕ) (separators : List (List ℕ)) (sizes : List ℕ) (row at : ℕ) (top : TopBuilder) : Type 0 where
  pub holds : HoldsPairs top flags interval (take row (leading_pairs base separators sizes))
  pub place : at ≡ base + sum_by stored_size (take row sizes)
