-- A block splits before its restarts into the spelling of its rows and that of its restarts.
use Rattle.std.proofs.Common.{◌≡◌, ℕ, ◌+◌, ◌*◌, ◌<◌, List, ◌++◌, ◌∷◌, length, length-append, take, drop, append_assoc, Some, sym, ap, ◌∙◌, arith}
use Rattle.std.specs.List.{flat_map}
use Rattle.std.proofs.lemmas.List.{take_at, drop_at}
use Rattle.sst_num.specs.Spelling.{fixed}
use Rattle.sst_num.proofs.Fixed.{length-fixed}
use Rattle.sst_block.specs.declared.row_form.RowForm.{RowForm}
use Rattle.sst_block.specs.Block.{Row, Block, row_spelling, restarts_spelling}
use Rattle.sst_block.specs.BlockReading.{restart_count, rows_end}
use Rattle.sst_block.specs.FirstFault.{HasFooter}
use Rattle.sst_block.proofs.Steps.{length-restarts}
use Rattle.sst_block.proofs.Footer.{footer-read}
use Rattle.sst_block.proofs.RestartRules.{restarts-parts}

-- the halves of a block, and how many restarts it has
pub record Split (form : RowForm) (bytes : List ℕ) (rows : List Row) (b : Block form bytes rows) : Type 0 where
  pub counted : restart_count bytes ≡ Some (length b.restarts)
  pub front : take (rows_end bytes (length b.restarts)) bytes ≡ flat_map (row_spelling form) b.spelled
  pub back : drop (rows_end bytes (length b.restarts)) bytes ≡ restarts_spelling b.restarts
  pub some : 0 < length b.restarts
  pub size : length bytes ≡ length (flat_map (row_spelling form) b.spelled) + 4 * length b.restarts + 4

-- a block has one restart at least
pub restarts-some : (form : RowForm) (bytes : List ℕ) (rows : List Row) (b : Block form bytes rows) → 0 < length b.restarts
restarts-some form bytes rows b =
    let parts = restarts-parts form b.restarts b.spelled b.places in
    let long : length b.restarts ≡ length (0 ∷ parts.0) = ap length parts.1 in
    omega (arith, long)

pub split-block : (form : RowForm) (bytes : List ℕ) (rows : List Row) (b : Block form bytes rows) → Split form bytes rows b
split-block form bytes rows b =
    let xs = flat_map (row_spelling form) b.spelled in
    let ys = flat_map (fixed 4) b.restarts in
    let count = length b.restarts in
    let tail = restarts_spelling b.restarts in
    let many : length ys ≡ 4 * count = length-restarts b.restarts in
    let end : length tail ≡ 4 * count + 4 = length-append ys (fixed 4 count) ∙ omega (arith, many, length-fixed 4 count) in
    let whole : length bytes ≡ length xs + 4 * count + 4 = ap length b.spelling ∙ length-append xs tail ∙ omega (arith, end) in
    let at : length xs ≡ rows_end bytes count = omega (arith, whole) in
    let footer : HasFooter bytes count = record {
      front = xs ++ ys;
      joined = b.spelling ∙ sym (append_assoc xs ys (fixed 4 count));
      some = restarts-some form bytes rows b;
      fits = let short = b.short in omega (arith, whole, short);
      room = omega (arith, many, length-append xs ys);
    } in
    record {
      counted = footer-read bytes count footer;
      front = ap (take (rows_end bytes count)) b.spelling ∙ take_at xs tail (rows_end bytes count) at;
      back = ap (drop (rows_end bytes count)) b.spelling ∙ drop_at xs tail (rows_end bytes count) at;
      some = restarts-some form bytes rows b;
      size = whole;
    }
