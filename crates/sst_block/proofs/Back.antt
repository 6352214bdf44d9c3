-- A walk goes back to the row before by a restart before the row where it stands.
use Rattle.std.proofs.Common.{◌≡◌, inl, inr, ℕ, zero, suc, ◌+◌, ◌-◌, ◌<◌, ◌≤◌, false, List, [], ◌∷◌, length, length-append, take, drop, Option, Some, None, sym, ap, ◌∙◌, arith}
use Rattle.std.specs.Prelude.{slice_get}
use Rattle.std.specs.List.{flat_map}
use Rattle.std.proofs.lemmas.Bool.{cases_lt, lt-ltb, ne_eqb, eq-eqb}
use Rattle.std.proofs.lemmas.Option.{slice_get_within, same_Some}
use Rattle.sst_block.specs.declared.row_form.RowForm.{RowForm}
use Rattle.sst_block.specs.declared.iter.BlockIter.{BlockIter}
use Rattle.sst_block.specs.Block.{Row, Spelled, Block, row_spelling}
use Rattle.sst_block.specs.Iter.{WalksIn, StaysIn, Reaches, BeginsBefore, start_of, bytes_behind, restart_at, place_of, place_before}
use Rattle.sst_block.proofs.NextRow.{length-rows, drop-at}
use Rattle.sst_block.proofs.RestartRules.{restarts-parts}
use Rattle.sst_block.proofs.Walking.{start-at, stays-in}
use Rattle.sst_block.proofs.RestartPlaces.{restart-found, restart-read}
use Rattle.sst_block.proofs.Forward.{GoesForward, starts-rise}

-- the row where a walk stands is one of the block
pub stands-within : (it : BlockIter) (form : RowForm) (bytes : List ℕ) (rows : List Row) (b : Block form bytes rows) (i : ℕ) → WalksIn it form bytes rows b (Some i)
    → (i < length b.spelled) × (i < length rows)
stands-within it form bytes rows b i w =
    let within = slice_get_within b.spelled i w.is_at.0 w.is_at.1 in
    (within, omega (arith, within, length-rows form bytes rows b))

-- only the first row begins at 0
pub first-start : (it : BlockIter) (form : RowForm) (bytes : List ℕ) (rows : List Row) (b : Block form bytes rows) (i : ℕ) → WalksIn it form bytes rows b (Some i)
    → length it.rows.now - length it.here.now ≡ 0 → i ≡ 0
first-start it form bytes rows b i w none =
    elim (cases_lt 0 i) [
      | inl later ↦
          let at = start-at it form bytes rows b i w in
          let inside = (stands-within it form bytes rows b i w).0 in
          let rise = starts-rise form b.spelled 0 i later (omega (arith, inside)) in
          absurd (omega (arith, none, at, rise))
      | inr first ↦ omega (arith, first)
    ]

pub later-start : (it : BlockIter) (form : RowForm) (bytes : List ℕ) (rows : List Row) (b : Block form bytes rows) (i : ℕ) → WalksIn it form bytes rows b (Some i)
    → 0 < length it.rows.now - length it.here.now → 0 < i
later-start it form bytes rows b i w some =
    elim (cases_lt 0 i) [
      | inl later ↦ later
      | inr first ↦
          let none : i ≡ 0 = omega (arith, first) in
          let at = start-at it form bytes rows b i w in
          let zeroth : start_of form b.spelled i ≡ 0 = ap (start_of form b.spelled) none in
          absurd (omega (arith, some, at, zeroth))
    ]

-- the first restart is 0
pub first-before : (it : BlockIter) (form : RowForm) (bytes : List ℕ) (rows : List Row) (b : Block form bytes rows) (place : Option ℕ) (start : ℕ) → WalksIn it form bytes rows b place
    → 0 < start → BeginsBefore it.places.now 0 start
first-before it form bytes rows b place start w some = λ r read.
    let parts = restarts-parts form b.restarts b.spelled b.places in
    let first : slice_get b.restarts 0 ≡ Some 0 = ap (λ (l : List ℕ). slice_get l 0) parts.1 in
    let zeroth = ap (λ (l : List ℕ). restart_at l 0) w.places_are ∙ restart-read b.restarts _ 0 0 first (omega arith) in
    let same : 0 ≡ r = same_Some 0 r (sym zeroth ∙ read) in
    omega (arith, some, same)

-- past the last row the starts stay the same
pub rise-most : (form : RowForm) (spelled : List Spelled) (i k : ℕ) → i ≤ k → start_of form spelled i ≤ start_of form spelled k
rise-most form spelled zero k order = omega arith
rise-most form spelled (suc i) zero order = absurd (omega (arith, order))
rise-most form [] (suc i) (suc k) order = omega arith
rise-most form (s ∷ rest) (suc i) (suc k) order =
    let more = rise-most form rest i k (omega (arith, order)) in
    let a = length-append (row_spelling form s) (flat_map (row_spelling form) (take i rest)) in
    let b = length-append (row_spelling form s) (flat_map (row_spelling form) (take k rest)) in
    omega (arith, a, b, more)

-- a walk at a restart before the i-th row stands at a row before it
pub before-stands : (old it : BlockIter) (form : RowForm) (bytes : List ℕ) (rows : List Row) (b : Block form bytes rows) (i j k : ℕ) → WalksIn old form bytes rows b (Some i)
    → j < length b.restarts → BeginsBefore old.places.now j (length old.rows.now - length old.here.now)
    → slice_get b.restarts j ≡ Some (start_of form b.spelled k) → WalksIn it form bytes rows b (place_of rows k)
    → (k < i) × WalksIn it form bytes rows b (Some k)
before-stands old it form bytes rows b i j k w within before at there =
    let found = restart-found old form bytes rows b (Some i) j w within in
    let same : start_of form b.spelled found.row.k ≡ start_of form b.spelled k = same_Some _ _ (sym found.row.at ∙ at) in
    let low = before (start_of form b.spelled found.row.k) found.reads in
    let here = start-at old form bytes rows b i w in
    let inside = stands-within old form bytes rows b i w in
    let less : start_of form b.spelled k < start_of form b.spelled i = omega (arith, low, here, same) in
    let first : k < i = elim (cases_lt k i) [
      | inl before ↦ before
      | inr past ↦
          absurd (omega (arith, less, rise-most form b.spelled i k past))
    ] in
    let test = lt-ltb k (length rows) (omega (arith, first, inside.1)) in
    (first, rw test at there)

-- what was left from the i-th row on is left behind the one before
pub left-behind : (it : BlockIter) (form : RowForm) (bytes : List ℕ) (rows : List Row) (b : Block form bytes rows) (i : ℕ) → WalksIn it form bytes rows b (Some i) → 0 < i
    → length it.here.now ≡ bytes_behind form b.spelled (i - 1)
left-behind it form bytes rows b i w some =
    let back : i - 1 + 1 ≡ i = omega (arith, some) in
    let here = w.is_at.2.here ∙ ap (flat_map (row_spelling form)) (sym (drop-at b.spelled i w.is_at.0 w.is_at.1)) in
    ap length here ∙ sym (ap (λ (n : ℕ). length (flat_map (row_spelling form) (drop n b.spelled))) back)

-- the row before can be reached from a restart before it
pub prev-reaches : (old it : BlockIter) (form : RowForm) (bytes : List ℕ) (rows : List Row) (b : Block form bytes rows) (i k : ℕ) → WalksIn old form bytes rows b (Some i)
    → k < i → WalksIn it form bytes rows b (Some k) → Reaches it (length old.here.now)
prev-reaches old it form bytes rows b i k w before there =
    let inside = stands-within old form bytes rows b i w in
    record {
      form = form;
      bytes = bytes;
      rows = rows;
      block = b;
      i = k;
      j = i - 1;
      walks = there;
      order = omega (arith, before);
      within = omega (arith, before, inside.1);
      leaves = left-behind old form bytes rows b i w (omega (arith, before));
    }

pub prev-in : (old it new : BlockIter) (form : RowForm) (bytes : List ℕ) (rows : List Row) (b : Block form bytes rows) (i k : ℕ) → WalksIn old form bytes rows b (Some i)
    → k < i → WalksIn it form bytes rows b (Some k) → GoesForward it new (length old.here.now) → WalksIn new form bytes rows b (place_before i)
prev-in old it new form bytes rows b i k w before there forward =
    let inside = stands-within old form bytes rows b i w in
    let gone = forward form bytes rows b k (i - 1) there (omega (arith, before)) (omega (arith, before, inside.1)) (left-behind old form bytes rows b i w (omega (arith, before))) in
    rw (ne_eqb i 0 (λ none. omega (arith, before, none))) gone

-- the search for the last restart before a place has one, and those from `high` on are open
pub record Searches (places : List ℕ) (count place low high : ℕ) : Type 0 where
  pub order : low < high
  pub within : high ≤ count
  pub before : BeginsBefore places low place

-- a number that was read is before the place
pub reads-before : (places : List ℕ) (i place r : ℕ) → restart_at places i ≡ Some r → r < place → BeginsBefore places i place
reads-before places i place r read less = λ other again. let same : r ≡ other = same_Some r other (sym read ∙ again) in omega (arith, less, same)

-- at the first row it goes nowhere
pub prev-first : (old new : BlockIter) (form : RowForm) (bytes : List ℕ) (rows : List Row) (b : Block form bytes rows) (i : ℕ) → WalksIn old form bytes rows b (Some i)
    → length old.rows.now - length old.here.now ≡ 0 → StaysIn old new → new.stands ≡ false → WalksIn new form bytes rows b (place_before i)
prev-first old new form bytes rows b i w none stays nowhere =
    let first = first-start old form bytes rows b i w none in
    let there : WalksIn new form bytes rows b None = stays-in old new form bytes rows b (Some i) None w stays nowhere in
    rw (eq-eqb i 0 first) there
