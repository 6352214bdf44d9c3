-- A walk that was paused goes on where it stood.
use Rattle.std.proofs.Common.{◌≡◌, ℕ, ◌+◌, ◌-◌, ◌≤◌, Bool, true, false, not, List, ◌∷◌, ◌++◌, length, take, drop, Option, None, Some, refl, sym, ap, ◌∙◌, subst, append_assoc, length-append, arith}
use Rattle.std.specs.List.{flat_map}
use Rattle.std.proofs.Math.Seq.{drop-append_seam, take-append_seam}
use Rattle.sst_num.specs.Spelling.{varint}
use Rattle.sst_block.specs.declared.row_form.RowForm.{RowForm}
use Rattle.sst_block.specs.declared.iter.BlockIter.{BlockIter}
use Rattle.sst_block.specs.declared.place.Place.{Place}
use Rattle.sst_block.specs.Block.{Row, Spelled, Block, row_spelling, value_length, no_handle, LeadTo}
use Rattle.sst_block.specs.Iter.{WalksIn, IsAt}
use Rattle.sst_block.specs.BlockReading.{restart_count, rows_end}
use Rattle.sst_block.specs.Places.{IsPausedAt, PausedIn}
use Rattle.sst_block.proofs.Halves.{split-block}
use Rattle.sst_block.proofs.Walking.{IsSplit}
use Rattle.sst_block.proofs.NextRow.{drop-at, rows-joined}

-- what the place has of the walk
pub record Keeps (p : Place) (it : BlockIter) : Type 0 where
  pub key : p.key ≡ it.key
  pub left : p.left ≡ length it.here.now
  pub behind : p.behind ≡ length it.after.now
  pub value : p.value ≡ length it.value.now
  pub handle : p.handle ≡ it.handle
  pub stands : p.stands ≡ it.stands

paused-at : (p : Place) (it : BlockIter) (form : RowForm) (spelled : List Spelled) (place : Option ℕ) → Keeps p it → IsAt it form spelled place
    → IsPausedAt p form spelled place
paused-at p it form spelled None keeps at = keeps.stands ∙ at
paused-at p it form spelled (Some i) keeps at =
    let shows = at.2 in (
      at.0,
      at.1,
      record {
        stands = keeps.stands ∙ shows.stands;
        key = keeps.key ∙ shows.key;
        left = keeps.left ∙ ap length shows.here;
        behind = keeps.behind ∙ ap length shows.after;
        value = keeps.value ∙ ap length shows.value;
      },
      subst (LeadTo form no_handle (take (i + 1) spelled)) (sym keeps.handle) at.3,
    )

pub paused : (p : Place) (it : BlockIter) (form : RowForm) (bytes : List ℕ) (rows : List Row) (b : Block form bytes rows) (place : Option ℕ) → Keeps p it
    → WalksIn it form bytes rows b place → PausedIn p form bytes rows b place
paused p it form bytes rows b place keeps w = record { is_at = paused-at p it form b.spelled place keeps w.is_at }

-- ---- what a place finds in the rows again

-- a row ends with its value
record EndsWithValue (form : RowForm) (s : Spelled) : Type 0 where
  pub front : List ℕ
  pub is : row_spelling form s ≡ front ++ s.row.value

ends-value : (form : RowForm) (s : Spelled) → EndsWithValue form s
ends-value form s =
    let a = varint s.shared in
    let b = varint (length s.row.key - s.shared) in
    let c = value_length form (length s.row.value) in
    let d = drop s.shared s.row.key in
    let v = s.row.value in
    record {
      front = a ++ (b ++ (c ++ d));
      is =
          ap (λ (l : List ℕ). a ++ (b ++ l)) (sym (append_assoc c d v)) ∙ ap (λ (l : List ℕ). a ++ l) (sym (append_assoc b (c ++ d) v))
          ∙ sym (append_assoc a (b ++ (c ++ d)) v);
    }

-- behind so many bytes, or up to them
drop-at_length : (n : ℕ) (xs ys : List ℕ) → n ≡ length xs → drop n (xs ++ ys) ≡ ys
drop-at_length n xs ys same = ap (λ (m : ℕ). drop m (xs ++ ys)) same ∙ drop-append_seam xs ys

take-at_length : (n : ℕ) (xs ys : List ℕ) → n ≡ length xs → take n (xs ++ ys) ≡ xs
take-at_length n xs ys same = ap (λ (m : ℕ). take m (xs ++ ys)) same ∙ take-append_seam xs ys

-- what the numbers of a place cut out of the rows
pub record Found (left behind value : ℕ) (held : List ℕ) (form : RowForm) (s : Spelled) (more : List Spelled) : Type 0 where
  pub within : left ≤ length held
  pub short : behind + value ≤ left
  pub here : drop (length held - left) held ≡ flat_map (row_spelling form) (s ∷ more)
  pub after : drop (left - behind) (drop (length held - left) held) ≡ flat_map (row_spelling form) more
  pub value_is : drop (left - behind - value) (take (left - behind) (drop (length held - left) held)) ≡ s.row.value

found-of : (left behind value : ℕ) (held front : List ℕ) (form : RowForm) (s : Spelled) (more : List Spelled)
    → held ≡ front ++ (row_spelling form s ++ flat_map (row_spelling form) more)
    → left ≡ length (row_spelling form s ++ flat_map (row_spelling form) more) → behind ≡ length (flat_map (row_spelling form) more)
    → value ≡ length s.row.value → Found left behind value held form s more
found-of left behind value held front form s more held_is left_is behind_is value_is =
    let row = row_spelling form s in
    let rest = flat_map (row_spelling form) more in
    let ends = ends-value form s in
    let whole = ap length held_is ∙ length-append front (row ++ rest) in
    let both = length-append row rest in
    let split = ap length ends.is ∙ length-append ends.front s.row.value in
    let from : length held - left ≡ length front = omega (arith, whole, left_is) in
    let size : left - behind ≡ length row = omega (arith, left_is, behind_is, both) in
    let before : left - behind - value ≡ length ends.front = omega (arith, size, split, value_is) in
    let here : drop (length held - left) held ≡ row ++ rest =
    ap (drop (length held - left)) held_is ∙ drop-at_length (length held - left) front (row ++ rest) from in
    let mine : take (left - behind) (drop (length held - left) held) ≡ row =
    ap (take (left - behind)) here ∙ take-at_length (left - behind) row rest size in
    record {
      within = omega (arith, whole, left_is);
      short = omega (arith, left_is, behind_is, both, split, value_is);
      here = here;
      after = ap (drop (left - behind)) here ∙ drop-at_length (left - behind) row rest size;
      value_is =
          ap (drop (left - behind - value)) (mine ∙ ends.is) ∙ drop-at_length (left - behind - value) ends.front s.row.value before;
    }

pub found : (p : Place) (held : List ℕ) (form : RowForm) (bytes : List ℕ) (rows : List Row) (b : Block form bytes rows) (i : ℕ)
    → held ≡ flat_map (row_spelling form) b.spelled → (at : PausedIn p form bytes rows b (Some i))
    → Found p.left p.behind p.value held form at.is_at.0 (drop (i + 1) b.spelled)
found p held form bytes rows b i held_is at =
    let keeps = at.is_at.2 in
    let from = ap (flat_map (row_spelling form)) (drop-at b.spelled i at.is_at.0 at.is_at.1) in
    let all = held_is ∙ rows-joined form b.spelled i ∙ ap (λ (l : List ℕ). flat_map (row_spelling form) (take i b.spelled) ++ l) from in
    found-of p.left p.behind p.value held (flat_map (row_spelling form) (take i b.spelled)) form at.is_at.0 (drop (i + 1) b.spelled) all keeps.left keeps.behind keeps.value

-- whether it does, by its contrary
pub unset : (b : Bool) → not b ≡ true → b ≡ false
unset true is = cc
unset false is = refl

pub set : (b : Bool) → not b ≡ false → b ≡ true
set true is = refl
set false is = cc

-- a place that stands nowhere
pub nowhere : (p : Place) (form : RowForm) (spelled : List Spelled) (place : Option ℕ) → p.stands ≡ false → IsPausedAt p form spelled place → place ≡ None
nowhere p form spelled None is at = refl
nowhere p form spelled (Some i) is at = let stands = at.2.stands in absurd (cc (is, stands))

-- and one that stands somewhere
pub somewhere : (p : Place) (form : RowForm) (spelled : List Spelled) (place : Option ℕ) → p.stands ≡ true → IsPausedAt p form spelled place
    → (i : ℕ) × (place ≡ Some i)
somewhere p form spelled None is at = absurd (cc (is, at))
somewhere p form spelled (Some i) is at = (i, refl)

-- ---- the walk goes on

-- what the walk has of the place, over the halves of the block
pub record Resumes (it : BlockIter) (p : Place) (form : RowForm) : Type 0 where
  pub form_is : it.form ≡ form
  pub here : it.here.now ≡ drop (length it.rows.now - p.left) it.rows.now
  pub after : it.after.now ≡ drop (p.left - p.behind) it.here.now
  pub value : it.value.now ≡ drop (p.left - p.behind - p.value) (take (p.left - p.behind) it.here.now)
  pub key : it.key ≡ p.key
  pub handle : it.handle ≡ p.handle
  pub stands : it.stands ≡ true

resumed-at : (it : BlockIter) (p : Place) (form : RowForm) (bytes : List ℕ) (rows : List Row) (b : Block form bytes rows) (i : ℕ) → Resumes it p form
    → it.rows.now ≡ flat_map (row_spelling form) b.spelled → PausedIn p form bytes rows b (Some i) → IsAt it form b.spelled (Some i)
resumed-at it p form bytes rows b i resumes held at =
    let has = found p it.rows.now form bytes rows b i held at in
    let keeps = at.is_at.2 in
    let here = resumes.here ∙ has.here in (
      at.is_at.0,
      at.is_at.1,
      record {
        stands = resumes.stands;
        key = resumes.key ∙ keeps.key;
        value = resumes.value ∙ ap (λ (l : List ℕ). drop (p.left - p.behind - p.value) (take (p.left - p.behind) l)) resumes.here ∙ has.value_is;
        here = here;
        after = resumes.after ∙ ap (drop (p.left - p.behind)) resumes.here ∙ has.after;
      },
      subst (LeadTo form no_handle (take (i + 1) b.spelled)) (sym resumes.handle) at.is_at.3,
    )

pub resumed : (it : BlockIter) (p : Place) (form : RowForm) (bytes : List ℕ) (rows : List Row) (b : Block form bytes rows) (place : Option ℕ) → Resumes it p form
    → ((count : ℕ) → restart_count bytes ≡ Some count → IsSplit it bytes count) → p.stands ≡ true → PausedIn p form bytes rows b place
    → WalksIn it form bytes rows b place
resumed it p form bytes rows b None resumes halves stands at = absurd (cc (stands, at.is_at))
resumed it p form bytes rows b (Some i) resumes halves stands at =
    let split = split-block form bytes rows b in
    let found = halves (length b.restarts) split.counted in
    record {
      form_is = resumes.form_is;
      rows_are = found.rows ∙ split.front;
      places_are = found.places ∙ split.back;
      count = found.count_is;
      is_at = resumed-at it p form bytes rows b i resumes (found.rows ∙ split.front) at;
    }

-- the rows of a block that was split
pub split-rows : (held : List ℕ) (form : RowForm) (bytes : List ℕ) (rows : List Row) (b : Block form bytes rows)
    → ((count : ℕ) → restart_count bytes ≡ Some count → held ≡ take (rows_end bytes count) bytes) → held ≡ flat_map (row_spelling form) b.spelled
split-rows held form bytes rows b halves =
    let split = split-block form bytes rows b in
    halves (length b.restarts) split.counted ∙ split.front

-- the number of bytes from the row on is within the rows, where the place stands at one
pub within-rows : (p : Place) (held : List ℕ) (form : RowForm) (bytes : List ℕ) (rows : List Row) (b : Block form bytes rows) (place : Option ℕ)
    → p.stands ≡ true → held ≡ flat_map (row_spelling form) b.spelled → PausedIn p form bytes rows b place
    → (p.left ≤ length held) × (p.behind + p.value ≤ p.left)
within-rows p held form bytes rows b None stands held_is at = absurd (cc (stands, at.is_at))
within-rows p held form bytes rows b (Some i) stands held_is at =
    let has = found p held form bytes rows b i held_is at in
    (has.within, has.short)
