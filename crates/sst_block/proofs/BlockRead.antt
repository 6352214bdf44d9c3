-- Reading a block finds exactly the rows that it has.
use Rattle.std.proofs.Common.{◌≡◌, ℕ, ◌+◌, ◌-◌, ◌*◌, ◌^◌, ◌<◌, ◌≤◌, List, ◌∷◌, ◌++◌, length, length-append, take, drop, append_assoc, Option, Some, None, Result, Ok, All, refl, sym, subst, ap, ◌∙◌, arith}
use Rattle.std.specs.List.{flat_map}
use Rattle.std.proofs.lemmas.List.{take-append-drop, take_at, drop_at, drop-drop}
use Rattle.sst_num.specs.Spelling.{fixed}
use Rattle.sst_block.specs.declared.row_form.RowForm.{RowForm}
use Rattle.sst_block.specs.declared.fault.BlockFault.{BlockFault}
use Rattle.sst_block.specs.Block.{Row, Spelled, Block, IsRow, AreOrdered, AreRestarts, row_spelling, fresh_starts, restarts_spelling}
use Rattle.sst_block.specs.FirstFault.{rows_spelled, HasFooter}
use Rattle.sst_block.specs.BlockReading.{nothing_before, restart_count, rows_end, rows_read, restarts_fault, unless, then_read, with_restarts, parts_read, block_read, Reads}
use Rattle.sst_block.proofs.Steps.{length-restarts}
use Rattle.sst_block.proofs.Follows.{Follows, all-follow, followers}
use Rattle.sst_block.proofs.Footer.{footer-length, footer-last, footer-read, footer-found}
use Rattle.sst_block.proofs.RowsRead.{then_ok, unless_ok, rows_from-spelled, rows_from-found}
use Rattle.sst_block.proofs.RestartsRead.{Rises, restarts_fault-spelled, restarts_fault-found}
use Rattle.sst_block.proofs.RestartRules.{restarts-parts, restarts-from_parts, restarts-within}

-- a count behind the restarts is a footer
count-footer : (xs ys : List ℕ) (count : ℕ) → length ys ≡ 4 * count → 0 < count → count < 2 ^ 32 → HasFooter (xs ++ (ys ++ fixed 4 count)) count
count-footer xs ys count size some fits = record {
  front = xs ++ ys;
  joined = sym (append_assoc xs ys (fixed 4 count));
  some = some;
  fits = fits;
  room = omega (arith, size, length-append xs ys);
}

-- what is read of rows, of restarts and of their count
read-parts : (form : RowForm) (xs ys : List ℕ) (count : ℕ) (spelled : List Spelled) → length ys ≡ 4 * count → 0 < count → count < 2 ^ 32
    → rows_read form xs ≡ Ok spelled → restarts_fault (fresh_starts form 0 spelled) count (ys ++ fixed 4 count) ≡ None
    → block_read form (xs ++ (ys ++ fixed 4 count)) ≡ Ok spelled
unfolding block_read
read-parts form xs ys count spelled size some fits reads none =
    let tail = ys ++ fixed 4 count in
    let bytes = xs ++ tail in
    let whole : length bytes ≡ length xs + 4 * count + 4 = length-append xs tail ∙ omega (arith, length-append ys (fixed 4 count), size) in
    let end : length xs ≡ rows_end bytes count = omega arith in
    let front : take (rows_end bytes count) bytes ≡ xs = take_at xs tail (rows_end bytes count) end in
    let back : drop (rows_end bytes count) bytes ≡ tail = drop_at xs tail (rows_end bytes count) end in
    ap (parts_read form bytes) (footer-read bytes count (count-footer xs ys count size some fits))
    ∙ ap (λ (t : List ℕ). then_read (rows_read form t) (with_restarts form count (drop (rows_end bytes count) bytes))) front
    ∙ ap (λ (r : Result (List Spelled) BlockFault). then_read r (with_restarts form count (drop (rows_end bytes count) bytes))) reads
    ∙ ap (λ (d : List ℕ). with_restarts form count d spelled) back
    ∙ ap (unless spelled) none

-- rows and restarts that keep the rules are read again
read-again : (form : RowForm) (spelled : List Spelled) (rest : List ℕ) → Follows form nothing_before spelled
    → Rises (fresh_starts form 0 spelled) 0 rest → length (flat_map (row_spelling form) spelled ++ restarts_spelling (0 ∷ rest)) ≤ 2 ^ 29
    → block_read form (flat_map (row_spelling form) spelled ++ restarts_spelling (0 ∷ rest)) ≡ Ok spelled
unfolding rows_read
read-again form spelled rest follows rises short =
    let xs = flat_map (row_spelling form) spelled in
    let restarts = 0 ∷ rest in
    let ys = flat_map (fixed 4) restarts in
    let count = length restarts in
    let size : length ys ≡ 4 * count = length-restarts restarts in
    let whole : length (xs ++ restarts_spelling restarts) ≡ length xs + 4 * count + 4 =
    length-append xs (restarts_spelling restarts) ∙ omega (arith, length-append ys (fixed 4 count), size) in
    let reads = rows_from-spelled form spelled (length xs) 0 nothing_before follows (omega arith) (omega arith) in
    let fit = restarts-within form (2 ^ 32) rest spelled rises (omega arith) in
    read-parts form xs ys count spelled size (omega arith) (omega arith) reads
    (restarts_fault-spelled (fresh_starts form 0 spelled) rest (fixed 4 count) rises fit)

-- the spelled rows of a block follow one another
pub block-follows : (form : RowForm) (bytes : List ℕ) (rows : List Row) (block : Block form bytes rows) → Follows form nothing_before block.spelled
block-follows form bytes rows block =
    let same : rows ≡ rows_spelled block.spelled = sym block.are_rows in
    let forms = subst (λ (all : List Row). All (IsRow form) all) same block.forms in
    let ordered = subst (λ (all : List Row). AreOrdered form all) same block.ordered in
    all-follow form block.spelled block.fronts forms ordered block.handles

-- a block reads as its spelled rows
pub block-reads : (form : RowForm) (bytes : List ℕ) (rows : List Row) (block : Block form bytes rows) → block_read form bytes ≡ Ok block.spelled
block-reads form bytes rows block =
    let follows = block-follows form bytes rows block in
    let parts = restarts-parts form block.restarts block.spelled block.places in
    let spelling : bytes ≡ flat_map (row_spelling form) block.spelled ++ restarts_spelling (0 ∷ parts.0) =
    block.spelling ∙ ap (λ (restarts : List ℕ). flat_map (row_spelling form) block.spelled ++ restarts_spelling restarts) parts.1 in
    let short = subst (λ (all : List ℕ). length all ≤ 2 ^ 29) spelling block.short in
    ap (block_read form) spelling ∙ read-again form block.spelled parts.0 follows parts.2 short

-- what a block has is read
pub read-complete : (form : RowForm) (bytes : List ℕ) (rows : List Row) → Block form bytes rows → Reads form bytes rows
read-complete form bytes rows block =
    record { spelled = block.spelled; reads = block-reads form bytes rows block; are_rows = block.are_rows }

parts-found : (form : RowForm) (bytes : List ℕ) (read : Option ℕ) (spelled : List Spelled) → parts_read form bytes read ≡ Ok spelled
    → (count : ℕ) × (read ≡ Some count)
    × (then_read (rows_read form (take (rows_end bytes count) bytes)) (with_restarts form count (drop (rows_end bytes count) bytes)) ≡ Ok spelled)
parts-found form bytes None spelled is = cc
parts-found form bytes (Some count) spelled is = (count, refl, is)

-- rows and restarts that were read stand in the bytes and keep the rules
pub record BlockFound (form : RowForm) (bytes : List ℕ) (spelled : List Spelled) : Type 0 where
  pub rest : List ℕ
  pub spelling : bytes ≡ flat_map (row_spelling form) spelled ++ restarts_spelling (0 ∷ rest)
  pub follows : Follows form nothing_before spelled
  pub places : AreRestarts form (0 ∷ rest) spelled

pub block-found : (form : RowForm) (bytes : List ℕ) (spelled : List Spelled) → block_read form bytes ≡ Ok spelled
    → BlockFound form bytes spelled
unfolding block_read rows_read
block-found form bytes spelled is =
    let part = parts-found form bytes (restart_count bytes) spelled is in
    let count : ℕ = part.0 in
    let end = rows_end bytes count in
    let tail = drop end bytes in
    let footer = footer-found bytes count part.1 in
    let whole = footer-length bytes count footer in
    then_ok (rows_read form (take end bytes)) (with_restarts form count tail) spelled part.2
    (λ x first last.
    let tests = unless_ok x spelled (restarts_fault (fresh_starts form 0 x) count tail) last in
    let front = rows_from-found (length (take end bytes)) form 0 nothing_before (take end bytes) x (omega arith) first in
    let found = restarts_fault-found count (fresh_starts form 0 x) tail footer.some tests.0 in
    let sum : end + 4 * count ≡ length bytes - 4 = omega (arith, whole, footer.room) in
    let last : drop (4 * count) tail ≡ fixed 4 (length (0 ∷ found.restarts)) =
    drop-drop (4 * count) end bytes ∙ ap (λ (n : ℕ). drop n bytes) sum ∙ footer-last bytes count footer ∙ ap (fixed 4) (sym found.count) in
    let back : tail ≡ restarts_spelling (0 ∷ found.restarts) = found.joined ∙ ap (λ (xs : List ℕ). flat_map (fixed 4) (0 ∷ found.restarts) ++ xs) last in
    let spelling : bytes ≡ flat_map (row_spelling form) x ++ restarts_spelling (0 ∷ found.restarts) =
    sym (take-append-drop end bytes) ∙ ap (λ (xs : List ℕ). xs ++ tail) front.0 ∙ ap (λ (xs : List ℕ). flat_map (row_spelling form) x ++ xs) back in
    let block : BlockFound form bytes x = record {
      rest = found.restarts;
      spelling = spelling;
      follows = front.1;
      places = restarts-from_parts form found.restarts x (followers form x front.1).0 found.rises;
    } in
    subst (λ (all : List Spelled). BlockFound form bytes all) tests.1 block)

-- what is read the block has
pub read-sound : (form : RowForm) (bytes : List ℕ) (rows : List Row) → length bytes ≤ 2 ^ 29 → Reads form bytes rows
    → Block form bytes rows
read-sound form bytes rows short reads =
    let found = block-found form bytes reads.spelled reads.reads in
    let parts = followers form reads.spelled found.follows in
    record {
      spelled = reads.spelled;
      restarts = 0 ∷ found.rest;
      are_rows = reads.are_rows;
      spelling = found.spelling;
      fronts = parts.0;
      places = found.places;
      forms = subst (λ (all : List Row). All (IsRow form) all) reads.are_rows parts.1;
      ordered = subst (λ (all : List Row). AreOrdered form all) reads.are_rows parts.2;
      handles = parts.3;
      short = short;
    }
