use Rattle.std.proofs.Common.{◌≡◌, ℕ, List, length}
use Rattle.sst_bloom.specs.Builder.{HoldsKeys}
use Rattle.sst_tests_bytes.proofs.filters.filter_of.Given as goal

-- a key was added in each round
abbrev pub invariant-loop-key : goal.invariant-loop-key
invariant-loop-key l = (users : List (List ℕ)) × HoldsKeys l.builder l.bits users × (length users ≡ l.key)
