-- The pairs of a block of names as a walk over its rows gives them.
use Rattle.std.proofs.Common.{◌≡◌, ℕ, ◌+◌, ◌≤◌, ◌^◌, List, [], ◌∷◌, ◌++◌, length, take, map, Ok, Err, refl, sym, ap, ◌∙◌, subst}
use Rattle.std.proofs.lemmas.List.{take_all, map-append, length-map}
use Rattle.sst_num.specs.declared.stops.Refused.{Refused}
use Rattle.sst_num.specs.declared.stops.Refused.TheVariants.{Cause, Memory}
use Rattle.sst_block.specs.declared.fault.BlockFault.{BlockFault}
use Rattle.sst_block.specs.declared.iter.BlockIter.{BlockIter}
use Rattle.sst_block.specs.declared.row_form.RowForm.TheVariants.{Names}
use Rattle.sst_block.specs.Block.{Row, Spelled, Block, AreOrdered}
use Rattle.sst_block.specs.Iter.{Walks, place_of}
use Rattle.sst_block.specs.BlockReading.{Reads, Gives, block_read}
use Rattle.sst_block.proofs.BlockRead.{read-sound}
use Rattle.sst_block.proofs.OneReading.{one-list, no-rows}
use Rattle.sst_block.proofs.RowsCopied.{KeyAt, ValueAt, same_row, one_more}
use Rattle.sst_meta.specs.declared.pair.Pair.{Pair}
use Rattle.sst_meta.specs.Pairs.{row_of, rows_of_pairs}

-- a walk over a block of so many rows stands at the n-th, and the rows before it were copied
pub record Copied (block : List ℕ) (count : ℕ) (walk : BlockIter) (n : ℕ) (pairs : List Pair) : Type 0 where
  pub walks : (rows : List Row) → Reads Names block rows → length rows ≡ count → Walks walk rows (place_of rows n)
  pub copied : (rows : List Row) → Reads Names block rows → length rows ≡ count → rows_of_pairs pairs ≡ take n rows

-- one pair more
pub copied_more : (rows : List Row) (n : ℕ) (key value : List ℕ) (pairs : List Pair) (p : Pair) → rows_of_pairs pairs ≡ take n rows
    → KeyAt rows n key → ValueAt rows n value → row_of p ≡ record { key = key; value = value }
    → rows_of_pairs (pairs ++ p ∷ []) ≡ take (n + 1) rows
copied_more rows n key value pairs p front k v is =
    map-append row_of pairs (p ∷ []) ∙ ap (λ (l : List Row). l ++ row_of p ∷ []) front
    ∙ one_more rows n (row_of p) (same_row rows n key value (row_of p) k v is)

-- all rows were copied
pub copied_all : (rows : List Row) (n : ℕ) (pairs : List Pair) → rows_of_pairs pairs ≡ take n rows → length rows ≤ n → rows ≡ rows_of_pairs pairs
copied_all rows n pairs front all = sym (front ∙ take_all n rows all)

-- a block that is accepted with so many rows has them
pub counted : (block : List ℕ) (n : ℕ) → Gives (Ok n) (block_read Names block) → (rows : List Row) × Reads Names block rows × (length rows ≡ n)
counted block n given =
    (map (λ (s : Spelled). s.row) given.0, record { spelled = given.0; reads = given.1; are_rows = refl }, length-map given.0 (λ (s : Spelled). s.row) ∙ given.2)

-- all that were copied are its rows
pub all_read : (block : List ℕ) (n : ℕ) (pairs : List Pair) → Gives (Ok n) (block_read Names block)
    → ((rows : List Row) → Reads Names block rows → length rows ≡ n → rows ≡ rows_of_pairs pairs) → Reads Names block (rows_of_pairs pairs)
all_read block n pairs given copied =
    let r = counted block n given in
    subst (λ (rows : List Row). Reads Names block rows) (copied r.0 r.1 r.2) r.1

pub all_stand : (block : List ℕ) (pairs : List Pair) → length block ≤ 2 ^ 29 → Reads Names block (rows_of_pairs pairs) → Block Names block (rows_of_pairs pairs)
all_stand block pairs short reads = read-sound Names block (rows_of_pairs pairs) short reads

pub all_ordered : (block : List ℕ) (pairs : List Pair) → length block ≤ 2 ^ 29 → Reads Names block (rows_of_pairs pairs) → AreOrdered Names (rows_of_pairs pairs)
all_ordered block pairs short reads = (all_stand block pairs short reads).ordered

-- a block that stands for some pairs is read as these
pub same_pairs : (block : List ℕ) (pairs : List Pair) (rows : List Row) → length block ≤ 2 ^ 29 → Reads Names block (rows_of_pairs pairs) → Block Names block rows
    → rows_of_pairs pairs ≡ rows
same_pairs block pairs rows short reads stands = one-list Names block (rows_of_pairs pairs) rows (all_stand block pairs short reads) stands

-- and isn't refused but for want of memory
pub only_memory : (block : List ℕ) (refused : Refused BlockFault) (rows : List Row) → Gives (Err refused) (block_read Names block) → Block Names block rows
    → refused ≡ Memory
only_memory block Memory rows given stands = refl
only_memory block (Cause fault) rows given stands = absurd (no-rows Names block fault rows given stands)
