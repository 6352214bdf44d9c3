-- Rows of which each may follow the one before: row by row, and of all rows at once.
use Rattle.std.proofs.Common.{◌≡◌, ℕ, ◌≤◌, true, false, List, [], ◌∷◌, ◌++◌, Option, Some, None, All, refl, sym, subst, ap, ◌∙◌}
use Rattle.std.specs.Ordering.{is_lt}
use Rattle.std.specs.declared.cmp.Ordering.{Ordering}
use Rattle.std.specs.declared.cmp.Ordering.TheVariants.{Less, Equal, Greater}
use Rattle.std.proofs.lemmas.List.Elements.{All-nil, All-cons, All-head, All-tail}
use Rattle.sst_num.specs.declared.block_handle.Handle.{Handle}
use Rattle.sst_block.specs.declared.row_form.RowForm.{RowForm}
use Rattle.sst_block.specs.declared.row_form.RowForm.TheVariants.{Entries, Names, Index}
use Rattle.sst_block.specs.Block.{Row, Spelled, common, SharesFronts, key_cmp, AreOrdered, HasForm, IsRow, no_handle, SayHandles, LeadsTo, LeadTo}
use Rattle.sst_block.specs.Builder.{last_key}
use Rattle.sst_block.specs.FirstFault.{rows_spelled}
use Rattle.sst_block.specs.BlockReading.{is_after, key_before, Before, nothing_before, behind, handle_after}
use Rattle.sst_block.proofs.Said.{leads-after}

-- each row may follow the one before it: it shares no more than it may, has the form, is after it, and leads to a handle
abbrev pub Follows : RowForm → Before → List Spelled → Type 0
Follows form before [] = Unit {0}
Follows form before (s ∷ rest) =
    (s.shared ≤ common (key_before before.key) s.row.key) × IsRow form s.row × (is_after form before.key s.row.key ≡ true)
    × ((h : Handle) × LeadsTo form before.handle s h) × Follows form (behind form before s) rest

-- the first of some rows that say handles, and those after it
say-first : (form : RowForm) (before : Handle) (s : Spelled) (rest : List Spelled) → HasForm form s.row → SayHandles form before (s ∷ rest)
    → ((h : Handle) × LeadsTo form before s h) × SayHandles form (handle_after form before s.shared s.row.value) rest
say-first Entries before s rest has says = ((before, refl), tt)
say-first Names before s rest has says = ((before, refl), tt)
say-first (Index true false) before s rest has says = ((has.0, (has.1, has.2, has.3)), tt)
say-first (Index false false) before s rest has says = let h = has.1 in ((h.0, (h.1, h.2, h.3)), tt)
say-first (Index user_key true) before s rest has says =
    ((says.0, says.1), subst (λ (k : Handle). SayHandles (Index user_key true) k rest) (sym (leads-after (Index user_key true) before s says.0 says.1)) says.2)

-- and the other way round
say-more : (form : RowForm) (before : Handle) (s : Spelled) (rest : List Spelled) (h : Handle) → LeadsTo form before s h
    → SayHandles form (handle_after form before s.shared s.row.value) rest → SayHandles form before (s ∷ rest)
say-more Entries before s rest h leads more = tt
say-more Names before s rest h leads more = tt
say-more (Index user_key false) before s rest h leads more = tt
say-more (Index user_key true) before s rest h leads more =
    (h, leads, subst (λ (k : Handle). SayHandles (Index user_key true) k rest) (leads-after (Index user_key true) before s h leads) more)

pub say-none : (form : RowForm) (before : Handle) → SayHandles form before []
say-none Entries before = tt
say-none Names before = tt
say-none (Index user_key false) before = tt
say-none (Index user_key true) before = tt

-- each key is after the one before it
abbrev OrderedAfter : RowForm → Option (List ℕ) → List Row → Type 0
OrderedAfter form before [] = Unit {0}
OrderedAfter form before (row ∷ rows) = (is_after form before row.key ≡ true) × OrderedAfter form (Some row.key) rows

less-is : (o : Ordering) → is_lt o ≡ true → o ≡ Less
less-is Less is = refl
less-is Equal is = cc
less-is Greater is = cc

after-ordered : (form : RowForm) (row : Row) (rows : List Row) → AreOrdered form (row ∷ rows) → OrderedAfter form (Some row.key) rows
after-ordered form row [] is = tt
after-ordered form row (next ∷ rows) is = (ap is_lt is.0, after-ordered form next rows is.1)

ordered-after : (form : RowForm) (row : Row) (rows : List Row) → OrderedAfter form (Some row.key) rows → AreOrdered form (row ∷ rows)
ordered-after form row [] is = tt
ordered-after form row (next ∷ rows) is = (less-is (key_cmp form row.key next.key) is.0, ordered-after form next rows is.1)

first-ordered : (form : RowForm) (rows : List Row) → AreOrdered form rows → OrderedAfter form None rows
first-ordered form [] is = tt
first-ordered form (row ∷ rows) is = (refl, after-ordered form row rows is)

ordered-first : (form : RowForm) (rows : List Row) → OrderedAfter form None rows → AreOrdered form rows
ordered-first form [] is = tt
ordered-first form (row ∷ rows) is = ordered-after form row rows is.1

follows-from : (form : RowForm) (before : Before) (spelled : List Spelled) → SharesFronts (key_before before.key) spelled
    → All (IsRow form) (rows_spelled spelled) → OrderedAfter form before.key (rows_spelled spelled) → SayHandles form before.handle spelled
    → Follows form before spelled
follows-from form before [] fronts forms ordered handles = tt
follows-from form before (s ∷ rest) fronts forms ordered handles =
    let has = All-head (IsRow form) s.row (rows_spelled rest) forms in
    let says = say-first form before.handle s rest has.1 handles in (
      fronts.0,
      has,
      ordered.0,
      says.0,
      follows-from form (behind form before s) rest fronts.1 (All-tail (IsRow form) s.row (rows_spelled rest) forms) ordered.1 says.1,
    )

follows-parts : (form : RowForm) (before : Before) (spelled : List Spelled) → Follows form before spelled
    → SharesFronts (key_before before.key) spelled × All (IsRow form) (rows_spelled spelled) × OrderedAfter form before.key (rows_spelled spelled) × SayHandles form before.handle spelled
follows-parts form before [] follows = (tt, All-nil (IsRow form), tt, say-none form before.handle)
follows-parts form before (s ∷ rest) follows =
    let more = follows-parts form (behind form before s) rest follows.4 in (
      (follows.0, more.0),
      All-cons (IsRow form) s.row (rows_spelled rest) follows.1 more.1,
      (follows.2, more.2),
      say-more form before.handle s rest follows.3.0 follows.3.1 more.3,
    )

-- rows that share no more than they may, have the form, are ordered and say handles follow one another
pub all-follow : (form : RowForm) (spelled : List Spelled) → SharesFronts [] spelled → All (IsRow form) (rows_spelled spelled)
    → AreOrdered form (rows_spelled spelled) → SayHandles form no_handle spelled → Follows form nothing_before spelled
all-follow form spelled fronts forms ordered handles = follows-from form nothing_before spelled fronts forms (first-ordered form (rows_spelled spelled) ordered) handles

-- and the other way round
pub followers : (form : RowForm) (spelled : List Spelled) → Follows form nothing_before spelled
    → SharesFronts [] spelled × All (IsRow form) (rows_spelled spelled) × AreOrdered form (rows_spelled spelled) × SayHandles form no_handle spelled
followers form spelled follows =
    let parts = follows-parts form nothing_before spelled follows in
    (parts.0, parts.1, ordered-first form (rows_spelled spelled) parts.2, parts.3)

-- what is behind all rows
abbrev pub behind_all : RowForm → Before → List Spelled → Before
behind_all form before [] = before
behind_all form before (s ∷ rest) = behind_all form (behind form before s) rest

-- the key of the last row, if there is one
abbrev pub last_of : Option (List ℕ) → List Row → Option (List ℕ)
last_of before [] = before
last_of before (row ∷ rows) = last_of (Some row.key) rows

behind_all-key : (form : RowForm) (before : Before) (spelled : List Spelled) → (behind_all form before spelled).key ≡ last_of before.key (rows_spelled spelled)
behind_all-key form before [] = refl
behind_all-key form before (s ∷ rest) = behind_all-key form (behind form before s) rest

pub behind_all-leads : (form : RowForm) (before : Before) (spelled : List Spelled) → Follows form before spelled
    → LeadTo form before.handle spelled (behind_all form before spelled).handle
behind_all-leads form before [] follows = refl
behind_all-leads form before (s ∷ rest) follows =
    let next = sym (leads-after form before.handle s follows.3.0 follows.3.1) in
    (handle_after form before.handle s.shared s.row.value, subst (λ (k : Handle). LeadsTo form before.handle s k) next follows.3.1, behind_all-leads form (behind form before s) rest follows.4)

behind_all-handle : (form : RowForm) (before : Before) (spelled : List Spelled) (h : Handle) → LeadTo form before.handle spelled h
    → (behind_all form before spelled).handle ≡ h
behind_all-handle form before [] h leads = sym leads
behind_all-handle form before (s ∷ rest) h leads =
    let next = leads-after form before.handle s leads.0 leads.1 in
    behind_all-handle form (behind form before s) rest h (subst (λ (k : Handle). LeadTo form k rest h) (sym next) leads.2)

-- behind rows that lead to a handle
pub behind_all-is : (form : RowForm) (spelled : List Spelled) (h : Handle) → LeadTo form no_handle spelled h
    → behind_all form nothing_before spelled ≡ record { key = last_of None (rows_spelled spelled); handle = h }
behind_all-is form spelled h leads =
    let b = behind_all form nothing_before spelled in
    ap (λ (k : Option (List ℕ)). record { key = k; handle = b.handle }) (behind_all-key form nothing_before spelled)
    ∙ ap (λ (k : Handle). record { key = last_of None (rows_spelled spelled); handle = k }) (behind_all-handle form nothing_before spelled h leads)

pub last-key : (before : Option (List ℕ)) (rows : List Row) → key_before (last_of before rows) ≡ last_key (key_before before) rows
last-key before [] = refl
last-key before (row ∷ rows) = last-key (Some row.key) rows

after-push : (form : RowForm) (before : Option (List ℕ)) (rows : List Row) (row : Row) → OrderedAfter form before rows
    → is_after form (last_of before rows) row.key ≡ true → OrderedAfter form before (rows ++ row ∷ [])
after-push form before [] row ordered after = (after, tt)
after-push form before (first ∷ rows) row ordered after = (ordered.0, after-push form (Some first.key) rows row ordered.1 after)

after-last : (form : RowForm) (before : Option (List ℕ)) (rows : List Row) (row : Row) → OrderedAfter form before (rows ++ row ∷ [])
    → is_after form (last_of before rows) row.key ≡ true
after-last form before [] row ordered = ordered.0
after-last form before (first ∷ rows) row ordered = after-last form (Some first.key) rows row ordered.1

-- one row more is in order exactly where it is after the last
pub ordered-push : (form : RowForm) (rows : List Row) (row : Row) → AreOrdered form rows
    → is_after form (last_of None rows) row.key ≡ true → AreOrdered form (rows ++ row ∷ [])
ordered-push form rows row ordered after =
    ordered-first form (rows ++ row ∷ []) (after-push form None rows row (first-ordered form rows ordered) after)

pub ordered-last : (form : RowForm) (rows : List Row) (row : Row) → AreOrdered form (rows ++ row ∷ [])
    → is_after form (last_of None rows) row.key ≡ true
ordered-last form rows row ordered = after-last form None rows row (first-ordered form (rows ++ row ∷ []) ordered)
