-- What a test of a walk over the pairs of an index block knows.
-- Own.
-- Pinned by: walks_of_an_index, seeks_in_an_index
use Rattle.std.specs.Prelude.{◌≡◌, ℕ, Bool, true, List, Some}
use Rattle.sst_block.specs.IndexRows.{IndexPair}
use Rattle.sst_index.specs.declared.flags.IndexFlags.{IndexFlags}
use Rattle.sst_index.specs.declared.walk.IndexIter.{IndexIter}
use Rattle.sst_index.specs.Walk.{WalksPairs, Walking}

-- the walk stands at a pair
-- Own.
-- Pinned by: walks_of_an_index
abbrev pub StandsThere : IndexIter → Type 0
StandsThere it = (flags : IndexFlags) × (bytes : List ℕ) × (pairs : List IndexPair) × (i : ℕ) × WalksPairs it flags bytes pairs (Some i)

-- it goes over some pairs, and stands at one if this is true
-- Own.
-- Pinned by: walks_of_an_index
pub record Goes (it : IndexIter) (stands : Bool) : Type 0 where
  pub walks : Walking it
  pub there : stands ≡ true → StandsThere it
