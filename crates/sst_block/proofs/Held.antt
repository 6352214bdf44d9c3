-- What a builder that holds some rows gives its calls.
use Rattle.std.proofs.Common.{◌≡◌, ℕ, ◌+◌, ◌*◌, ◌^◌, ◌<◌, ◌≤◌, Bool, List, [], ◌∷◌, ◌++◌, length, length-append, refl, sym, ap, ◌∙◌, subst, arith}
use Rattle.std.specs.List.{flat_map}
use Rattle.std.proofs.lemmas.List.Elements.{All-nil, All-push}
use Rattle.sst_num.specs.Spelling.{fixed}
use Rattle.sst_block.specs.declared.row_form.RowForm.{RowForm}
use Rattle.sst_block.specs.declared.row_form.RowForm.TheVariants.{Index}
use Rattle.sst_block.specs.Block.{Row, Block, Spelled, row_spelling, restarts_spelling, AreOrdered, IsRow, no_handle, SayHandles}
use Rattle.sst_block.specs.IndexRows.{IndexPair, SayPairs, IndexRows}
use Rattle.sst_block.specs.Chosen.{restarts_of, block_of}
use Rattle.sst_block.specs.Builder.{spelled_of, MayStand, Keeps, Holds}
use Rattle.sst_block.specs.declared.builder.BlockBuilder.{BlockBuilder}
use Rattle.sst_block.proofs.BlockLaws.{block_of_is_block, chosen-block}
use Rattle.sst_block.proofs.Steps.{rows_spelling-more, length-restarts, value-le}
use Rattle.sst_block.proofs.Kept.{Keeps-none, length-block, block_of-kept, spelled-more}
use Rattle.sst_block.proofs.Follows.{say-none}
use Rattle.sst_block.proofs.OneReading.{one-list}

-- what a builder without rows keeps
pub Keeps-new : (form : RowForm) (interval : ℕ) (bytes restarts last : List ℕ) → bytes ≡ [] → restarts ≡ fixed 4 0 → last ≡ []
    → Keeps form interval [] bytes restarts last 1 0
Keeps-new form interval bytes restarts last b r l = rw (b, r, l) (Keeps-none form interval)

-- a block without rows
pub MayStand-none : (form : RowForm) (interval : ℕ) → 1 ≤ interval → interval ≤ 65536 → MayStand form interval []
MayStand-none form interval least most = record {
  least = least;
  most = most;
  forms = All-nil (IsRow form);
  ordered = tt;
  handles = say-none form no_handle;
  short = omega (arith, length-block form interval [] [] (fixed 4 0) [] 1 0 (Keeps-none form interval));
}

-- how much a builder keeps
pub kept_short : (form : RowForm) (interval : ℕ) (rows : List Row) (bytes restarts last : List ℕ) (count since : ℕ)
    → Keeps form interval rows bytes restarts last count since → MayStand form interval rows
    → (length bytes + 4 * count + 4 < 2 ^ 29) × (length restarts ≡ 4 * count)
kept_short form interval rows bytes restarts last count since k may =
    let whole = length-block form interval rows bytes restarts last count since k in
    let places : length restarts ≡ 4 * count =
    ap (λ (l : List ℕ). length l) k.restarts_are ∙ length-restarts (restarts_of form interval (spelled_of interval rows)) ∙ ap (λ n. 4 * n) (sym k.count_is) in
    (omega (arith, whole, places, may.short), places)

-- rows are no longer than their block
rows-le : (form : RowForm) (interval : ℕ) (rows : List Row) → length (flat_map (row_spelling form) (spelled_of interval rows)) ≤ length (block_of form interval rows)
unfolding block_of
rows-le form interval rows =
    omega (arith, length-append (flat_map (row_spelling form) (spelled_of interval rows)) (restarts_spelling (restarts_of form interval (spelled_of interval rows))))

value-le_rows : (form : RowForm) (rows more : List Spelled) (s : Spelled) → more ≡ rows ++ s ∷ [] → length s.row.value ≤ length (flat_map (row_spelling form) more)
value-le_rows form rows more s e =
    let whole = ap (λ (l : List Spelled). length (flat_map (row_spelling form) l)) e in
    let parts = ap (λ (l : List ℕ). length l) (rows_spelling-more form rows s) in
    omega (arith, whole, parts, length-append (flat_map (row_spelling form) rows) (row_spelling form s), value-le form s)

-- a value that may come next is short
pub value_short : (form : RowForm) (interval : ℕ) (rows : List Row) (row : Row) → length (block_of form interval (rows ++ row ∷ [])) < 2 ^ 29 → length row.value < 2 ^ 29
value_short form interval rows row short =
    let value = value-le_rows form (spelled_of interval rows) (spelled_of interval (rows ++ row ∷ [])) _ (spelled-more interval rows row) in
    omega (arith, value, rows-le form interval (rows ++ row ∷ []), short)

-- one more row may stand after some that may
pub fits-more : (form : RowForm) (interval : ℕ) (rows : List Row) (row : Row) → MayStand form interval rows → IsRow form row → AreOrdered form (rows ++ row ∷ [])
    → SayHandles form no_handle (spelled_of interval (rows ++ row ∷ [])) → length (block_of form interval (rows ++ row ∷ [])) < 2 ^ 29
    → MayStand form interval (rows ++ row ∷ [])
fits-more form interval rows row may has ordered handles short = record {
  least = may.least;
  most = may.most;
  forms = All-push (IsRow form) rows row may.forms has;
  ordered = ordered;
  handles = handles;
  short = short;
}

-- the block of rows that may stand in one stands for them
pub is_block : (form : RowForm) (interval : ℕ) (rows : List Row) (block : List ℕ) → MayStand form interval rows → block ≡ block_of form interval rows → Block form block rows
is_block form interval rows block may is =
    rw is (block_of_is_block form interval rows (omega (arith, may.least)) may.forms may.ordered may.handles (omega (arith, may.short)))

-- and that of an index says the pairs that its rows say
pub is_index : (user_key delta : Bool) (interval : ℕ) (rows : List Row) (pairs : List IndexPair) (block : List ℕ) → MayStand (Index user_key delta) interval rows
    → SayPairs delta no_handle (spelled_of interval rows) pairs → block ≡ block_of (Index user_key delta) interval rows → IndexRows user_key delta block pairs
is_index user_key delta interval rows pairs block may says is =
    let c = chosen-block (Index user_key delta) interval rows (omega (arith, may.least)) may.forms may.ordered may.handles (omega (arith, may.short)) in
    let made : IndexRows user_key delta (block_of (Index user_key delta) interval rows) pairs =
    record { rows = rows; block = c.block; says = subst (λ (l : List Spelled). SayPairs delta no_handle l pairs) (sym c.spelled_are) says } in
    subst (λ (bytes : List ℕ). IndexRows user_key delta bytes pairs) (sym is) made

-- rows that leave a builder alike are the same
pub rows-one : (form : RowForm) (interval : ℕ) (rows others : List Row) (bytes restarts last : List ℕ) (count since : ℕ)
    → Keeps form interval rows bytes restarts last count since → Keeps form interval others bytes restarts last count since
    → MayStand form interval rows → MayStand form interval others → others ≡ rows
rows-one form interval rows others bytes restarts last count since k l may too =
    let same : block_of form interval rows ≡ block_of form interval others =
    block_of-kept form interval rows bytes restarts last count since k ∙ sym (block_of-kept form interval others bytes restarts last count since l) in
    one-list form (block_of form interval rows) others rows (is_block form interval others (block_of form interval rows) too same) (is_block form interval rows (block_of form interval rows) may refl)

-- what holds of the rows of a builder holds of all that it can be said to hold
pub of-holder : (b : BlockBuilder) (form f : RowForm) (interval i : ℕ) (rows r : List Row) (P : RowForm → ℕ → List Row → Type 0)
    → Holds b form interval rows → Holds b f i r → P f i r → P form interval rows
of-holder b form f interval i rows r P h g p =
    let form_same : f ≡ form = sym g.form_is ∙ h.form_is in
    let interval_same : i ≡ interval = sym g.interval_is ∙ h.interval_is in
    let g1 = subst (λ (x : RowForm). Holds b x i r) form_same g in
    let g2 = subst (λ (n : ℕ). Holds b form n r) interval_same g1 in
    let rows_same = rows-one form interval rows r b.bytes.items b.restarts.items b.last.items b.count b.since h.keeps g2.keeps h.fits g2.fits in
    let p1 = subst (λ (x : RowForm). P x i r) form_same p in
    let p2 = subst (λ (n : ℕ). P form n r) interval_same p1 in
    subst (λ (l : List Row). P form interval l) rows_same p2
