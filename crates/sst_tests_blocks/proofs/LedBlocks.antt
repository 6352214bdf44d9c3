-- Data blocks of a table, one after the other.
use Rattle.std.proofs.Common.{◌≡◌, ℕ, ◌<◌, List, Option, Some, length, get_or, slice_get, ap, ◌∙◌}
use Rattle.std.specs.Option.{option_map}
use Rattle.std.specs.Borrow.{Bor}
use Rattle.std.proofs.lemmas.Option.{slice_get-get_or, slice_get-map}
use Rattle.sst_num.specs.declared.block_handle.Handle.{Handle}
use Rattle.sst_tests_blocks.specs.LedBlocks.{end_of, ends_of}

pub led_at : (blocks : List (Bor (List ℕ) × Option (Bor (List ℕ)) × Handle)) (n : ℕ) (d : Bor (List ℕ) × Option (Bor (List ℕ)) × Handle) → n < length blocks
    → slice_get (ends_of blocks) n ≡ Some (end_of (get_or blocks n d))
led_at blocks n d within =
    slice_get-map end_of blocks n ∙ ap (λ (o : Option (Bor (List ℕ) × Option (Bor (List ℕ)) × Handle)). option_map end_of o) (slice_get-get_or blocks n d within)
