-- What comes next on a walk over the rows of a block is read there.
use Rattle.std.proofs.Common.{◌≡◌, ℕ, zero, suc, ◌+◌, ◌<◌, ◌≤◌, ◌^◌, List, [], ◌∷◌, ◌++◌, length, length-append, take, drop, Some, None, refl, sym, subst, ap, ◌∙◌, arith}
use Rattle.std.specs.Prelude.{slice_get}
use Rattle.std.specs.List.{flat_map}
use Rattle.std.proofs.Math.Seq.{drop-append_seam}
use Rattle.std.proofs.lemmas.List.{drop_all, take-append-drop, length-map}
use Rattle.std.proofs.lemmas.List.Elements.{All-get_or}
use Rattle.std.proofs.lemmas.Grind.{flat_map-append}
use Rattle.std.proofs.lemmas.Option.{slice_get-map, slice_get_within, get_or_from_slice_get}
use Rattle.std.specs.Option.{option_map}
use Rattle.sst_num.specs.declared.block_handle.Handle.{Handle}
use Rattle.sst_block.specs.declared.row_form.RowForm.{RowForm}
use Rattle.sst_block.specs.Block.{Row, Spelled, Block, IsRow, SharesFronts, row_spelling, no_handle, LeadsTo, LeadTo}
use Rattle.sst_block.specs.BlockReading.{row_at, handle_after}
use Rattle.sst_block.proofs.Said.{leads-after}
use Rattle.sst_block.proofs.RowAt.{row_at-spelled, row_at-found, value-within}
use Rattle.sst_block.proofs.Halves.{split-block}

pub nth : {A : Type 0} (xs : List A) (i : ℕ) → i < length xs → (x : A) × (slice_get xs i ≡ Some x) × (drop i xs ≡ x ∷ drop (i + 1) xs)
nth [] i h = absurd (omega arith)
nth (x ∷ xs) zero h = (x, refl, refl)
nth (x ∷ xs) (suc i) h =
    let rest = nth xs i (omega arith) in
    let next : suc i + 1 ≡ suc (i + 1) = omega arith in
    (rest.0, rest.1, rw next rest.2)

-- from the i-th on
pub drop-at : {A : Type 0} (xs : List A) (i : ℕ) (x : A) → slice_get xs i ≡ Some x → drop i xs ≡ x ∷ drop (i + 1) xs
drop-at xs i x at =
    let found = nth xs i (slice_get_within xs i x at) in
    let same : found.0 ≡ x = cc (found.1, at) in
    found.2 ∙ ap (λ y. y ∷ drop (i + 1) xs) same

-- a block has as many rows as are spelled
pub length-rows : (form : RowForm) (bytes : List ℕ) (rows : List Row) (b : Block form bytes rows) → length rows ≡ length b.spelled
length-rows form bytes rows b = ap length (sym b.are_rows) ∙ length-map b.spelled (λ (s : Spelled). s.row)

-- the i-th row of a block is the i-th that is spelled
pub row-spelled : (form : RowForm) (bytes : List ℕ) (rows : List Row) (b : Block form bytes rows) (i : ℕ) (s : Spelled) → slice_get b.spelled i ≡ Some s
    → slice_get rows i ≡ Some s.row
row-spelled form bytes rows b i s at =
    ap (λ (all : List Row). slice_get all i) (sym b.are_rows) ∙ slice_get-map (λ (s : Spelled). s.row) b.spelled i ∙ ap (option_map (λ (s : Spelled). s.row)) at

-- and may stand in a block of the form
pub row-sound : (form : RowForm) (bytes : List ℕ) (rows : List Row) (b : Block form bytes rows) (i : ℕ) (s : Spelled) → slice_get b.spelled i ≡ Some s
    → IsRow form s.row
row-sound form bytes rows b i s at =
    let here = row-spelled form bytes rows b i s at in
    subst (λ (r : Row). IsRow form r) (get_or_from_slice_get rows i s.row s.row here) (All-get_or (IsRow form) rows i s.row (slice_get_within rows i s.row here) b.forms)

-- the rows before the i-th and those from it on
pub rows-joined : (form : RowForm) (spelled : List Spelled) (i : ℕ) → flat_map (row_spelling form) spelled
    ≡ flat_map (row_spelling form) (take i spelled) ++ flat_map (row_spelling form) (drop i spelled)
rows-joined form spelled i =
    ap (flat_map (row_spelling form)) (sym (take-append-drop i spelled)) ∙ flat_map-append (row_spelling form) (take i spelled) (drop i spelled)

pub rows-left : (form : RowForm) (spelled : List Spelled) (i : ℕ) → length (flat_map (row_spelling form) spelled)
    ≡ length (flat_map (row_spelling form) (take i spelled)) + length (flat_map (row_spelling form) (drop i spelled))
rows-left form spelled i =
    ap length (rows-joined form spelled i) ∙ length-append (flat_map (row_spelling form) (take i spelled)) (flat_map (row_spelling form) (drop i spelled))

-- the rows of a block fit it
pub rows-short : (form : RowForm) (bytes : List ℕ) (rows : List Row) (b : Block form bytes rows) → length (flat_map (row_spelling form) b.spelled) < 2 ^ 29
rows-short form bytes rows b =
    let size = (split-block form bytes rows b).size in
    let short = b.short in
    omega (arith, size, short)

-- behind a row its key is the key before
pub fronts-behind : (spelled : List Spelled) (before : List ℕ) (i : ℕ) (s : Spelled) → SharesFronts before spelled → slice_get spelled i ≡ Some s
    → SharesFronts s.row.key (drop (i + 1) spelled)
fronts-behind [] before i s fronts at = cc
fronts-behind (x ∷ spelled) before zero s fronts at =
    let same : x ≡ s = cc in
    subst (λ (y : Spelled). SharesFronts y.row.key spelled) same fronts.1
fronts-behind (x ∷ spelled) before (suc i) s fronts at =
    let next : suc i + 1 ≡ suc (i + 1) = omega arith in
    rw next (fronts-behind spelled x.row.key i s fronts.1 at)

-- the i-th row leads on from the handle that is held
abbrev pub LeadsOn : RowForm → List Spelled → ℕ → Handle → Type 0
LeadsOn form spelled i handle =
    (s : Spelled) → slice_get spelled i ≡ Some s → (h : Handle) × LeadsTo form handle s h × LeadTo form no_handle (take (i + 1) spelled) h

-- the rows from the i-th on come next, and the first of them shares no more than the key before, and leads on
pub record Awaits (form : RowForm) (spelled : List Spelled) (i : ℕ) (handle : Handle) (key left : List ℕ) : Type 0 where
  pub after : left ≡ flat_map (row_spelling form) (drop i spelled)
  pub fronts : SharesFronts key (drop i spelled)
  pub leads : LeadsOn form spelled i handle

-- the i-th row is read
pub record NextRow (form : RowForm) (spelled : List Spelled) (i : ℕ) (handle : Handle) (key after : List ℕ) : Type 0 where
  pub s : Spelled
  pub at : slice_get spelled i ≡ Some s
  pub reads : row_at form handle key after ≡ Some (s, length (row_spelling form s))
  pub holds : LeadTo form no_handle (take (i + 1) spelled) (handle_after form handle s.shared s.row.value)
  pub here : after ≡ flat_map (row_spelling form) (s ∷ drop (i + 1) spelled)
  pub rest : drop (length (row_spelling form s)) after ≡ flat_map (row_spelling form) (drop (i + 1) spelled)

pub next-row : (form : RowForm) (bytes : List ℕ) (rows : List Row) (b : Block form bytes rows) (i : ℕ) (handle : Handle) (key after : List ℕ)
    → i < length b.spelled → Awaits form b.spelled i handle key after → NextRow form b.spelled i handle key after
next-row form bytes rows b i handle key after within a =
    let found = nth b.spelled i within in
    let s = found.0 in
    let more = drop (i + 1) b.spelled in
    let others = flat_map (row_spelling form) more in
    let fronts = subst (λ (l : List Spelled). SharesFronts key l) found.2 a.fronts in
    let here : after ≡ row_spelling form s ++ others = a.after ∙ ap (flat_map (row_spelling form)) found.2 in
    let sound = row-sound form bytes rows b i s found.1 in
    let leads = a.leads s found.1 in
    let left = rows-left form b.spelled i in
    let size : length (flat_map (row_spelling form) (drop i b.spelled)) ≡ length (row_spelling form s) + length others =
    ap length (ap (flat_map (row_spelling form)) found.2) ∙ length-append (row_spelling form s) others in
    let fits : length s.row.value < 2 ^ 32 = omega (arith, left, size, rows-short form bytes rows b, value-within form s) in
    record {
      s = s;
      at = found.1;
      reads = ap (row_at form handle key) here ∙ row_at-spelled form handle leads.0 key others s leads.1 fronts.0 sound.0 fits;
      holds = subst (λ (h : Handle). LeadTo form no_handle (take (i + 1) b.spelled) h) (sym (leads-after form handle s leads.0 leads.1)) leads.2;
      here = here;
      rest = ap (drop (length (row_spelling form s))) here ∙ drop-append_seam (row_spelling form s) others;
    }

-- no bytes are no row
no-row : (form : RowForm) (handle : Handle) (key : List ℕ) → row_at form handle key [] ≡ None
no-row form handle key =
    elim (row_at form handle key []) as (λ r. row_at form handle key [] ≡ r → row_at form handle key [] ≡ None) [
      | None ↦ λ is. is
      | Some read ↦ λ is.
          let stands = row_at-found form handle key [] read.0 read.1 is in
          let size = ap length stands.joined ∙ length-append (row_spelling form read.0) (drop read.1 []) in
          absurd (omega (arith, size, stands.takes, stands.some))
    ] refl

pub none-next : (form : RowForm) (spelled : List Spelled) (i : ℕ) (handle : Handle) (key after : List ℕ) → length spelled ≤ i → Awaits form spelled i handle key after
    → row_at form handle key after ≡ None
none-next form spelled i handle key after past a =
    ap (row_at form handle key) (a.after ∙ ap (flat_map (row_spelling form)) (drop_all i spelled past)) ∙ no-row form handle key
