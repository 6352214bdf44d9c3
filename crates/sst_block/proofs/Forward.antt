-- A walk that goes forward in a block comes to the row behind which as many bytes are left as it was told.
use Rattle.std.proofs.Common.{◌≡◌, inl, inr, ℕ, zero, suc, ◌+◌, ◌-◌, ◌<◌, ◌≤◌, nat_lt, Bool, true, false, List, [], ◌∷◌, length, length-append, take, Some, None, sym, subst, ap, ◌∙◌, arith}
use Rattle.std.specs.List.{flat_map}
use Rattle.std.proofs.lemmas.Bool.{cases_lt, lt-ltb, le-ltb, ltb-true, ltb-false}
use Rattle.std.proofs.lemmas.List.{drop_all}
use Rattle.sst_block.specs.declared.row_form.RowForm.{RowForm}
use Rattle.sst_block.specs.declared.iter.BlockIter.{BlockIter}
use Rattle.sst_block.specs.Block.{Row, Spelled, Block, row_spelling}
use Rattle.sst_block.specs.Iter.{WalksIn, StaysIn, Reaches, start_of, bytes_behind, place_of}
use Rattle.sst_block.proofs.BlockLaws.{row_spelling-some}
use Rattle.sst_block.proofs.NextRow.{rows-left, length-rows}
use Rattle.sst_block.proofs.Walking.{Moves, next-in}

-- a later row begins later
pub starts-rise : (form : RowForm) (spelled : List Spelled) (i k : ℕ) → i < k → k ≤ length spelled → start_of form spelled i < start_of form spelled k
starts-rise form spelled i zero before within = absurd (omega (arith, before))
starts-rise form [] i (suc k) before within = absurd (omega (arith, within))
starts-rise form (s ∷ rest) zero (suc k) before within =
    let size = length-append (row_spelling form s) (flat_map (row_spelling form) (take k rest)) in
    omega (arith, size, row_spelling-some form s)
starts-rise form (s ∷ rest) (suc i) (suc k) before within =
    let more = starts-rise form rest i k (omega (arith, before)) (omega (arith, within)) in
    let a = length-append (row_spelling form s) (flat_map (row_spelling form) (take i rest)) in
    let b = length-append (row_spelling form s) (flat_map (row_spelling form) (take k rest)) in
    omega (arith, a, b, more)

-- fewer bytes are left behind a later row
pub behind-falls : (form : RowForm) (spelled : List Spelled) (i k : ℕ) → i < k → k < length spelled → bytes_behind form spelled k < bytes_behind form spelled i
behind-falls form spelled i k before within =
    let rise = starts-rise form spelled (i + 1) (k + 1) (omega (arith, before)) (omega (arith, within)) in
    omega (arith, rise, rows-left form spelled (i + 1), rows-left form spelled (k + 1))

-- a row behind which more is left is an earlier one
pub earlier : (form : RowForm) (spelled : List Spelled) (i k : ℕ) → i ≤ k → k < length spelled → bytes_behind form spelled k < bytes_behind form spelled i → i < k
earlier form spelled i k order within more =
    elim (cases_lt i k) [
      | inl before ↦ before
      | inr past ↦
          let same : i ≡ k = omega (arith, order, past) in
          let equal = ap (bytes_behind form spelled) same in
          absurd (omega (arith, more, equal))
    ]

pub same-row : (form : RowForm) (spelled : List Spelled) (i k : ℕ) → i ≤ k → k < length spelled → bytes_behind form spelled i ≤ bytes_behind form spelled k → i ≡ k
same-row form spelled i k order within less =
    elim (cases_lt i k) [
      | inl before ↦ absurd (omega (arith, less, behind-falls form spelled i k before within))
      | inr past ↦ omega (arith, order, past)
    ]

-- the walk has come from the i-th row towards the j-th
abbrev pub ComesTo : BlockIter → BlockIter → ℕ → Type 0
ComesTo began it left =
    (form : RowForm) (bytes : List ℕ) (rows : List Row) (b : Block form bytes rows) (i j : ℕ)
    → WalksIn began form bytes rows b (Some i) → i ≤ j → j < length rows → left ≡ bytes_behind form b.spelled j
    → (m : ℕ) × WalksIn it form bytes rows b (Some m) × (m ≤ j)

-- how many bytes are left behind the row where it stands
pub behind-at : (it : BlockIter) (form : RowForm) (bytes : List ℕ) (rows : List Row) (b : Block form bytes rows) (i : ℕ) → WalksIn it form bytes rows b (Some i)
    → length it.after.now ≡ bytes_behind form b.spelled i
behind-at it form bytes rows b i w = ap length w.is_at.2.after

-- one row more
pub comes-more : (began old new : BlockIter) (told : Bool) (left : ℕ) → ComesTo began old left → left < length old.after.now → StaysIn old new
    → Moves new told old.form old.handle old.key old.after.now → ComesTo began new left
comes-more began old new told left comes more stays moves = λ form bytes rows b i j w order within leaves.
    let here = comes form bytes rows b i j w order within leaves in
    let m : ℕ = here.0 in
    let many = length-rows form bytes rows b in
    let at = behind-at old form bytes rows b m here.1 in
    let before = earlier form b.spelled m j here.2 (omega (arith, within, many)) (omega (arith, more, at, leaves)) in
    let moved = (next-in old new told form bytes rows b m here.1 stays moves).0 in
    let inside = lt-ltb (m + 1) (length rows) (omega (arith, before, within)) in
    (m + 1, (rw inside at moved), omega (arith, before))

-- it is there
pub comes-end : (began it : BlockIter) (left : ℕ) → ComesTo began it left → length it.after.now ≤ left
    → (form : RowForm) (bytes : List ℕ) (rows : List Row) (b : Block form bytes rows) (i j : ℕ)
    → WalksIn began form bytes rows b (Some i) → i ≤ j → j < length rows → left ≡ bytes_behind form b.spelled j → WalksIn it form bytes rows b (Some j)
comes-end began it left comes done form bytes rows b i j w order within leaves =
    let here = comes form bytes rows b i j w order within leaves in
    let many = length-rows form bytes rows b in
    let at = behind-at it form bytes rows b here.0 here.1 in
    let same = same-row form b.spelled here.0 j here.2 (omega (arith, within, many)) (omega (arith, done, at, leaves)) in
    subst (λ (k : ℕ). WalksIn it form bytes rows b (Some k)) same here.1

-- fewer bytes are left after each step
pub comes-shorter : (began old new : BlockIter) (told : Bool) (left : ℕ) → Reaches began left → ComesTo began old left → left < length old.after.now → StaysIn old new
    → Moves new told old.form old.handle old.key old.after.now → length new.after.now < length old.after.now
comes-shorter began old new told left r comes more stays moves =
    let here = comes r.form r.bytes r.rows r.block r.i r.j r.walks r.order r.within r.leaves in
    let m : ℕ = here.0 in
    let many = length-rows r.form r.bytes r.rows r.block in
    let leaves = r.leaves in
    let within = r.within in
    let at = behind-at old r.form r.bytes r.rows r.block m here.1 in
    let before = earlier r.form r.block.spelled m r.j here.2 (omega (arith, within, many)) (omega (arith, more, at, leaves)) in
    let moved = (next-in old new told r.form r.bytes r.rows r.block m here.1 stays moves).0 in
    let inside = lt-ltb (m + 1) (length r.rows) (omega (arith, before, within)) in
    let next : WalksIn new r.form r.bytes r.rows r.block (Some (m + 1)) = rw inside at moved in
    omega (arith, at, behind-at new r.form r.bytes r.rows r.block (m + 1) next, behind-falls r.form r.block.spelled m (m + 1) (omega arith) (omega (arith, before, within, many)))

-- nothing is left behind the last row
none-behind : (form : RowForm) (bytes : List ℕ) (rows : List Row) (b : Block form bytes rows) → 0 ≡ bytes_behind form b.spelled (length rows - 1)
none-behind form bytes rows b =
    let many = length-rows form bytes rows b in
    sym (ap (λ (l : List Spelled). length (flat_map (row_spelling form) l)) (drop_all (length rows - 1 + 1) b.spelled (omega (arith, many))))

-- a walk that was told of a row stands there
pub told-stands : (it : BlockIter) (told : Bool) (form : RowForm) (bytes : List ℕ) (rows : List Row) (b : Block form bytes rows) (k : ℕ) → told ≡ true
    → told ≡ nat_lt k (length rows) → WalksIn it form bytes rows b (place_of rows k) → (k < length rows) × WalksIn it form bytes rows b (Some k)
told-stands it told form bytes rows b k is told_of w =
    let within = ltb-true k (length rows) (sym told_of ∙ is) in
    let test = lt-ltb k (length rows) within in
    (within, rw test at w)

-- from any row the last one can be reached
pub last-reaches : (it : BlockIter) (told : Bool) (form : RowForm) (bytes : List ℕ) (rows : List Row) (b : Block form bytes rows) (k : ℕ) → told ≡ true
    → told ≡ nat_lt k (length rows) → WalksIn it form bytes rows b (place_of rows k) → Reaches it 0
last-reaches it told form bytes rows b k is told_of w =
    let at = told-stands it told form bytes rows b k is told_of w in
    record {
      form = form;
      bytes = bytes;
      rows = rows;
      block = b;
      i = k;
      j = length rows - 1;
      walks = at.1;
      order = omega (arith, at.0);
      within = omega (arith, at.0);
      leaves = none-behind form bytes rows b;
    }

-- what goes forward to any later row
abbrev pub GoesForward : BlockIter → BlockIter → ℕ → Type 0
GoesForward old new left =
    (form : RowForm) (bytes : List ℕ) (rows : List Row) (b : Block form bytes rows) (i j : ℕ)
    → WalksIn old form bytes rows b (Some i) → i ≤ j → j < length rows → left ≡ bytes_behind form b.spelled j → WalksIn new form bytes rows b (Some j)

-- it has come to the last row
pub last-in : (it new : BlockIter) (told : Bool) (form : RowForm) (bytes : List ℕ) (rows : List Row) (b : Block form bytes rows) (k : ℕ) → told ≡ true
    → told ≡ nat_lt k (length rows) → WalksIn it form bytes rows b (place_of rows k) → GoesForward it new 0
    → WalksIn new form bytes rows b (place_of rows (length rows - 1))
last-in it new told form bytes rows b k is told_of w forward =
    let at = told-stands it told form bytes rows b k is told_of w in
    let end : length rows - 1 < length rows = omega (arith, at.0) in
    let there = forward form bytes rows b k (length rows - 1) at.1 (omega (arith, at.0)) end (none-behind form bytes rows b) in
    rw (lt-ltb (length rows - 1) (length rows) end) there

-- there is none
pub last-none : (it : BlockIter) (told : Bool) (form : RowForm) (bytes : List ℕ) (rows : List Row) (b : Block form bytes rows) (k : ℕ) → told ≡ false
    → told ≡ nat_lt 0 (length rows) → WalksIn it form bytes rows b (place_of rows k) → WalksIn it form bytes rows b (place_of rows (length rows - 1))
last-none it told form bytes rows b k is told_of w =
    let none : length rows ≤ 0 = ltb-false 0 (length rows) (sym told_of ∙ is) in
    let here = le-ltb k (length rows) (omega (arith, none)) in
    let end = le-ltb (length rows - 1) (length rows) (omega (arith, none)) in
    let nowhere : WalksIn it form bytes rows b None = rw here at w in
    rw end nowhere
