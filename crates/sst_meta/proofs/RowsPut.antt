-- A builder takes the rows that are given to it one after another.
use Rattle.std.proofs.Common.{refl, ◌≡◌, ℕ, ◌+◌, ◌≤◌, List, [], ◌∷◌, ◌++◌, length, take, drop, Option, Some, slice_get, sym, ap, ◌∙◌, subst, sum_by, arith}
use Rattle.std.specs.Option.{option_map}
use Rattle.std.proofs.lemmas.List.{take-append-drop, take-map}
use Rattle.std.proofs.lemmas.List.Elements.{All-nil, All-cons, All-get_or}
use Rattle.std.proofs.lemmas.List.Sums.{sum_by-cons, sum_by-take-le}
use Rattle.std.proofs.lemmas.Option.{get_or_from_slice_get, slice_get-map, slice_get_within}
use Rattle.sst_block.specs.declared.builder.BlockBuilder.{BlockBuilder}
use Rattle.sst_block.specs.declared.row_form.RowForm.{RowForm}
use Rattle.sst_block.specs.declared.row_form.RowForm.TheVariants.{Names}
use Rattle.sst_block.specs.Block.{Row, IsRow, AreOrdered}
use Rattle.sst_block.specs.Builder.{Holds, CanAdd, row_room}
use Rattle.sst_block.proofs.RowsCopied.{one_more}
use Rattle.sst_block.proofs.Size.{can_add}
use Rattle.sst_meta.specs.declared.meta_row.MetaRow.{MetaRow}
use Rattle.sst_meta.specs.MetaRows.{AreMetaRows, row_given, rows_given}

-- the front of ordered rows is ordered
pub ordered-front : (form : RowForm) (front back : List Row) → AreOrdered form (front ++ back) → AreOrdered form front
ordered-front form [] back ordered = tt
ordered-front form (a ∷ []) back ordered = tt
ordered-front form (a ∷ b ∷ rest) back ordered = (ordered.0, ordered-front form (b ∷ rest) back ordered.1)

-- the front up to a row, and then the others
front-whole : (rows : List Row) (n : ℕ) (row : Row) → slice_get rows n ≡ Some row → (take n rows ++ row ∷ []) ++ drop (n + 1) rows ≡ rows
front-whole rows n row at = ap (λ (l : List Row). l ++ drop (n + 1) rows) (one_more rows n row at) ∙ take-append-drop (n + 1) rows

-- a builder that has the rows before one takes it
pub takes_at : (b : BlockBuilder) (interval : ℕ) (rows : List Row) (n : ℕ) (row : Row) → AreMetaRows rows → slice_get rows n ≡ Some row
    → Holds b Names interval (take n rows) → CanAdd b row []
takes_at b interval rows n row stand at holds =
    let whole = front-whole rows n row at in
    let form : IsRow Names row =
    subst (λ (r : Row). IsRow Names r) (get_or_from_slice_get rows n row row at) (All-get_or (IsRow Names) rows n row (slice_get_within rows n row at) stand.forms) in
    let ordered : AreOrdered Names ((take n rows ++ row ∷ []) ++ drop (n + 1) rows) = subst (λ (l : List Row). AreOrdered Names l) (sym whole) stand.ordered in
    let less : sum_by row_room (take n rows ++ row ∷ []) ≤ sum_by row_room rows =
    subst (λ (l : List Row). sum_by row_room l ≤ sum_by row_room rows) (sym (one_more rows n row at)) (sum_by-take-le row_room rows (n + 1)) in
    can_add b Names interval (take n rows) row [] refl holds form
    (ordered-front Names (take n rows ++ row ∷ []) (drop (n + 1) rows) ordered)
    (omega (arith, less, stand.room))

-- the same of rows as they are given
pub takes_given : (b : BlockBuilder) (interval : ℕ) (rows : List MetaRow) (n : ℕ) (row : MetaRow) → AreMetaRows (rows_given rows) → slice_get rows n ≡ Some row
    → Holds b Names interval (rows_given (take n rows)) → CanAdd b (row_given row) []
takes_given b interval rows n row stand at holds =
    let there : slice_get (rows_given rows) n ≡ Some (row_given row) = slice_get-map row_given rows n ∙ ap (λ (o : Option MetaRow). option_map row_given o) at in
    takes_at b interval (rows_given rows) n (row_given row) stand there (subst (λ (l : List Row). Holds b Names interval l) (sym (take-map row_given n rows)) holds)

-- with one more they are the next front
pub given_more : (rows : List MetaRow) (n : ℕ) (row : MetaRow) → slice_get rows n ≡ Some row
    → rows_given (take n rows) ++ row_given row ∷ [] ≡ rows_given (take (n + 1) rows)
given_more rows n row at =
    let there : slice_get (rows_given rows) n ≡ Some (row_given row) = slice_get-map row_given rows n ∙ ap (λ (o : Option MetaRow). option_map row_given o) at in
    ap (λ (l : List Row). l ++ row_given row ∷ []) (sym (take-map row_given n rows)) ∙ one_more (rows_given rows) n (row_given row) there ∙ take-map row_given (n + 1) rows

-- one short row stands alone
pub one_stands : (row : Row) (n : ℕ) → length row.key ≡ n → n ≤ 100 → length row.value ≤ 100 → AreMetaRows (row ∷ [])
one_stands row n key short value =
    record {
      forms = All-cons (IsRow Names) row [] (omega arith, tt) (All-nil (IsRow Names));
      ordered = tt;
      room = omega (arith, sum_by-cons row_room row [], key, short, value);
    }
