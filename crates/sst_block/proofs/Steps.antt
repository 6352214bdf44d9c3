-- What one more row adds to the rows as they are spelled, and to their restarts.
use Rattle.std.proofs.Common.{◌≡◌, ◌≢◌, ℕ, suc, ◌+◌, ◌-◌, ◌*◌, ◌%◌, ◌==◌, ◌<◌, ◌≤◌, if◌then◌else◌, List, [], ◌∷◌, ◌++◌, length, length-append, drop, refl, sym, ap, ◌∙◌, append_assoc, arith}
use Rattle.std.specs.List.{flat_map}
use Rattle.std.proofs.lemmas.Grind.{flat_map-append}
use Rattle.std.proofs.lemmas.List.{append-nil}
use Rattle.std.proofs.lemmas.Bool.{eq-eqb, ne_eqb}
use Rattle.std.proofs.Math.Nat.{zero-mod}
use Rattle.std.specs.declared.cmp.Ordering.TheVariants.{Less}
use Rattle.sst_num.specs.Spelling.{varint, fixed}
use Rattle.sst_num.proofs.Fixed.{length-fixed}
use Rattle.sst_block.specs.declared.row_form.RowForm.{RowForm}
use Rattle.sst_block.specs.Block.{Row, Spelled, common, value_length, row_spelling, key_cmp, AreOrdered}
use Rattle.sst_block.specs.Chosen.{chosen, restarts_from, restarts_of}
use Rattle.sst_block.specs.Builder.{last_key}

pub length-chosen : (interval i : ℕ) (before : List ℕ) (rows : List Row) → length (chosen interval i before rows) ≡ length rows
length-chosen interval i before [] = refl
length-chosen interval i before (row ∷ rows) = ap suc (length-chosen interval (i + 1) row.key rows)

pub length-more : (rows : List Row) (row : Row) → length (rows ++ row ∷ []) ≡ length rows + 1
length-more rows row = omega (arith, length-append rows (row ∷ []))

pub last_key-more : (before : List ℕ) (rows : List Row) (row : Row) → last_key before (rows ++ row ∷ []) ≡ row.key
last_key-more before [] row = refl
last_key-more before (r ∷ rows) row = last_key-more r.key rows row

-- the row with the number n is spelled after the others
pub chosen-more : (interval i : ℕ) (before : List ℕ) (rows : List Row) (row : Row) (n : ℕ) → n ≡ i + length rows
    → chosen interval i before (rows ++ row ∷ [])
    ≡ chosen interval i before rows ++ record { shared = if n % interval == 0 then 0 else common (last_key before rows) row.key; row = row } ∷ []
chosen-more interval i before [] row n e =
    let here : n ≡ i = omega arith in rw here refl
chosen-more interval i before (r ∷ rows) row n e =
    ap (λ (rest : List Spelled). record { shared = if i % interval == 0 then 0 else common before r.key; row = r } ∷ rest) (chosen-more interval (i + 1) r.key rows row n (omega arith))

-- a row with the number n, which begins at m, is a restart or isn't
restarts_from-more : (form : RowForm) (interval i at : ℕ) (rows : List Spelled) (s : Spelled) (n m : ℕ)
    → n ≡ i + length rows → m ≡ at + length (flat_map (row_spelling form) rows)
    → restarts_from form interval i at (rows ++ s ∷ []) ≡ restarts_from form interval i at rows ++ (if n % interval == 0 then m ∷ [] else [])
restarts_from-more form interval i at [] s n m e place =
    let here : n ≡ i = omega arith in
    let there : m ≡ at = omega arith in
    rw (here, there) (append-nil (if i % interval == 0 then at ∷ [] else []))
restarts_from-more form interval i at (r ∷ rows) s n m e place =
    let size = length-append (row_spelling form r) (flat_map (row_spelling form) rows) in
    let rest = restarts_from-more form interval (i + 1) (at + length (row_spelling form r)) rows s n m (omega arith) (omega (arith, place, size)) in
    ap (λ (more : List ℕ). (if i % interval == 0 then at ∷ [] else []) ++ more) rest ∙ sym (append_assoc (if i % interval == 0 then at ∷ [] else []) (restarts_from form interval (i + 1) (at + length (row_spelling form r)) rows) (if n % interval == 0 then m ∷ [] else []))

restart : (n interval m : ℕ) → n % interval ≡ 0 → (if n % interval == 0 then m ∷ [] else []) ≡ m ∷ []
restart n interval m e = rw (eq-eqb (n % interval) 0 e) refl

no_restart : (n interval m : ℕ) → n % interval ≢ 0 → (if n % interval == 0 then m ∷ [] else []) ≡ []
no_restart n interval m e = rw (ne_eqb (n % interval) 0 e) refl

-- the first row begins at the one restart that is there without it
pub restarts_of-first : (form : RowForm) (interval : ℕ) (s : Spelled) → restarts_of form interval (s ∷ []) ≡ 0 ∷ []
restarts_of-first form interval s = ap (λ (more : List ℕ). more ++ []) (restart 0 interval 0 (zero-mod interval))

-- a row that comes where a group is full is a restart
pub restarts_of-full : (form : RowForm) (interval : ℕ) (rows : List Spelled) (s : Spelled) → 0 < length rows → length rows % interval ≡ 0
    → restarts_of form interval (rows ++ s ∷ []) ≡ restarts_of form interval rows ++ length (flat_map (row_spelling form) rows) ∷ []
restarts_of-full form interval [] s some e = absurd (omega arith)
restarts_of-full form interval (r ∷ rows) s some e =
    restarts_from-more form interval 0 0 (r ∷ rows) s (length (r ∷ rows)) (length (flat_map (row_spelling form) (r ∷ rows))) (omega arith) (omega arith)
    ∙ ap (λ (more : List ℕ). restarts_from form interval 0 0 (r ∷ rows) ++ more) (restart (length (r ∷ rows)) interval (length (flat_map (row_spelling form) (r ∷ rows))) e)

-- any other row leaves the restarts as they are
pub restarts_of-within : (form : RowForm) (interval : ℕ) (rows : List Spelled) (s : Spelled) → 0 < length rows → length rows % interval ≢ 0
    → restarts_of form interval (rows ++ s ∷ []) ≡ restarts_of form interval rows
restarts_of-within form interval [] s some e = absurd (omega arith)
restarts_of-within form interval (r ∷ rows) s some e =
    restarts_from-more form interval 0 0 (r ∷ rows) s (length (r ∷ rows)) (length (flat_map (row_spelling form) (r ∷ rows))) (omega arith) (omega arith)
    ∙ ap (λ (more : List ℕ). restarts_from form interval 0 0 (r ∷ rows) ++ more) (no_restart (length (r ∷ rows)) interval (length (flat_map (row_spelling form) (r ∷ rows))) e)
    ∙ append-nil (restarts_from form interval 0 0 (r ∷ rows))

-- rows one after another, and one more
pub rows_spelling-more : (form : RowForm) (rows : List Spelled) (s : Spelled) → flat_map (row_spelling form) (rows ++ s ∷ []) ≡ flat_map (row_spelling form) rows ++ row_spelling form s
rows_spelling-more form rows s =
    flat_map-append (row_spelling form) rows (s ∷ []) ∙ ap (λ (more : List ℕ). flat_map (row_spelling form) rows ++ more) (append-nil (row_spelling form s))

pub restarts_spelling-more : (restarts : List ℕ) (at : ℕ) → flat_map (fixed 4) (restarts ++ at ∷ []) ≡ flat_map (fixed 4) restarts ++ fixed 4 at
restarts_spelling-more restarts at =
    flat_map-append (fixed 4) restarts (at ∷ []) ∙ ap (λ (more : List ℕ). flat_map (fixed 4) restarts ++ more) (append-nil (fixed 4 at))

pub length-restarts : (restarts : List ℕ) → length (flat_map (fixed 4) restarts) ≡ 4 * length restarts
length-restarts [] = refl
length-restarts (at ∷ restarts) =
    let rest = length-restarts restarts in
    let here = length-fixed 4 at in
    let both = length-append (fixed 4 at) (flat_map (fixed 4) restarts) in
    omega (arith, rest, here, both)

-- a value is no longer than its row
pub value-le : (form : RowForm) (s : Spelled) → length s.row.value ≤ length (row_spelling form s)
value-le form s =
    let rest = drop s.shared s.row.key in
    let a = length-append rest s.row.value in
    let said = value_length form (length s.row.value) in
    let b = length-append said (rest ++ s.row.value) in
    let c = length-append (varint (length s.row.key - s.shared)) (said ++ (rest ++ s.row.value)) in
    let d = length-append (varint s.shared) (varint (length s.row.key - s.shared) ++ (said ++ (rest ++ s.row.value))) in
    omega (arith, a, b, c, d)

-- a row whose key is after the last keeps the order
pub ordered-more : (form : RowForm) (a : Row) (rows : List Row) (row : Row) → AreOrdered form (a ∷ rows)
    → key_cmp form (last_key a.key rows) row.key ≡ Less → AreOrdered form (a ∷ (rows ++ row ∷ []))
ordered-more form a [] row sorted less = (less, tt)
ordered-more form a (b ∷ rows) row sorted less = (sorted.0, ordered-more form b rows row sorted.1 less)

pub ordered-last : (form : RowForm) (a : Row) (rows : List Row) (row : Row) → AreOrdered form (a ∷ (rows ++ row ∷ []))
    → key_cmp form (last_key a.key rows) row.key ≡ Less
ordered-last form a [] row sorted = sorted.0
ordered-last form a (b ∷ rows) row sorted = ordered-last form b rows row sorted.1
