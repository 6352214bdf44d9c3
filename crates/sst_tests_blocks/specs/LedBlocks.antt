-- Data blocks as the tests of the index give them.
use Rattle.std.specs.Prelude.{ℕ, Option, List, map}
use Rattle.std.specs.Option.{option_map}
use Rattle.std.specs.Borrow.{Bor}
use Rattle.sst_num.specs.declared.block_handle.Handle.{Handle}
use Rattle.sst_index.specs.Ends.{BlockEnd}

-- where a data block ends and stands
-- Own.
-- Pinned by: index_of_blocks_that_share, index_of_user_keys
abbrev pub end_of : Bor (List ℕ) × Option (Bor (List ℕ)) × Handle → BlockEnd
end_of b = record { last = b.0.now; next_first = option_map (λ k. k.now) b.1; handle = b.2 }

-- those of all
-- Own.
-- Pinned by: index_of_blocks_that_share, index_of_user_keys
abbrev pub ends_of : List (Bor (List ℕ) × Option (Bor (List ℕ)) × Handle) → List BlockEnd
ends_of blocks = map end_of blocks
