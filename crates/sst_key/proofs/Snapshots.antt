-- What a snapshot sees is what the Gets at it show.
use Rattle.std.proofs.Common.{◌≡◌, ℕ, zero, suc, ◌<◌, ◌≤◌, Bool, true, false, not, Some, List, [], ◌∷◌, filter, All, AllPairs, Contains, get_or, slice_get, nat_le, refl, sym, ap, subst, ◌∙◌, arith}
use Rattle.std.proofs.lemmas.Bool.{leb-true, leb-false, false_from_ne_true}
use Rattle.std.proofs.lemmas.Option.{same_Some, slice_get_within, slice_get-get_or, get_or_from_slice_get}
use Rattle.std.proofs.lemmas.List.Kept.{AllPairs-cons, AllPairs-filter}
use Rattle.std.proofs.lemmas.Slice.Eq.{bytes_eq-Decides}
use Rattle.sst_key.specs.declared.entries.Entry.{Entry}
use Rattle.sst_key.specs.Entry.{IsBefore, IsOrdered}
use Rattle.sst_key.specs.ListMachine.{is_of_user, get_of, visible}
use Rattle.sst_key.specs.ListLaws.{IsSeen, StandsAt, IsFirstPlace}
use Rattle.sst_key.proofs.Gets.{get-some, get-at, ordered-tail, head-before}

-- the entry stands in the list
abbrev In : Entry → List Entry → Type 0
In e xs = (k : ℕ) × (slice_get xs k ≡ Some e)

-- the entry is the first of its user key that the snapshot sees
abbrev Fresh : ℕ → Entry → List Entry → Type 0
Fresh snapshot e xs = (i : ℕ) × (slice_get xs i ≡ Some e) × IsFirstPlace (IsSeen e.user snapshot) xs i

In-tail : (e x : Entry) (xs : List Entry) → In e xs → In e (x ∷ xs)
In-tail e x xs here = (suc here.0, here.1)

In-head : (e x : Entry) (xs : List Entry) → x ≡ e → In e (x ∷ xs)
In-head e x xs same = (zero, ap Some same)

-- ---- filters

none-here : (e : Entry) (k : ℕ) → slice_get [] k ≡ Some e → ⊥
none-here e k at = cc

filter-kept : (t : Entry → Bool) (x : Entry) (xs : List Entry) → t x ≡ true → filter t (x ∷ xs) ≡ x ∷ filter t xs
filter-kept t x xs e = rw e refl

filter-dropped : (t : Entry → Bool) (x : Entry) (xs : List Entry) → t x ≡ false → filter t (x ∷ xs) ≡ filter t xs
filter-dropped t x xs e = rw e refl

filter-In-kept : (t : Entry → Bool) (x : Entry) (xs : List Entry) (e : Entry) → t x ≡ true
    → ((m : ℕ) → slice_get (filter t xs) m ≡ Some e → In e xs × (t e ≡ true))
    → (m : ℕ) → slice_get (x ∷ filter t xs) m ≡ Some e → In e (x ∷ xs) × (t e ≡ true)
filter-In-kept t x xs e is later zero here = let same = same_Some x e here in (In-head e x xs same, sym (ap t same) ∙ is)
filter-In-kept t x xs e is later (suc m) here = let found = later m here in (In-tail e x xs found.0, found.1)

filter-In-by : (t : Entry → Bool) (x : Entry) (xs : List Entry) (e : Entry) (v : Bool) → t x ≡ v
    → ((m : ℕ) → slice_get (filter t xs) m ≡ Some e → In e xs × (t e ≡ true))
    → (m : ℕ) → slice_get (filter t (x ∷ xs)) m ≡ Some e → In e (x ∷ xs) × (t e ≡ true)
filter-In-by t x xs e true is later m here = filter-In-kept t x xs e is later m (ap (λ (ys : List Entry). slice_get ys m) (sym (filter-kept t x xs is)) ∙ here)
filter-In-by t x xs e false is later m here =
    let found = later m (ap (λ (ys : List Entry). slice_get ys m) (sym (filter-dropped t x xs is)) ∙ here) in (In-tail e x xs found.0, found.1)

filter-In : (t : Entry → Bool) (xs : List Entry) (e : Entry) (k : ℕ) → slice_get (filter t xs) k ≡ Some e → In e xs × (t e ≡ true)
filter-In t [] e k at = absurd (none-here e k at)
filter-In t (x ∷ xs) e k at = filter-In-by t x xs e (t x) refl (filter-In t xs e) k at

In-filter-by : (t : Entry → Bool) (x : Entry) (xs : List Entry) (e : Entry) (v : Bool) → t x ≡ v → In e (filter t xs) → In e (filter t (x ∷ xs))
In-filter-by t x xs e true is later = subst (In e) (sym (filter-kept t x xs is)) (In-tail e x (filter t xs) later)
In-filter-by t x xs e false is later = subst (In e) (sym (filter-dropped t x xs is)) later

In-filter : (t : Entry → Bool) (xs : List Entry) (k : ℕ) (e : Entry) → slice_get xs k ≡ Some e → t e ≡ true → In e (filter t xs)
In-filter t [] k e at passes = absurd (none-here e k at)
In-filter t (x ∷ xs) zero e at passes =
    let same = same_Some x e at in
    subst (In e) (sym (filter-kept t x xs (ap t same ∙ passes))) (In-head e x (filter t xs) same)
In-filter t (x ∷ xs) (suc k) e at passes = In-filter-by t x xs e (t x) refl (In-filter t xs k e at passes)

-- ---- what is visible

-- what an entry leaves visible behind it
abbrev unhidden : Entry → Entry → Bool
unhidden x later = not (is_of_user x.user later)

visible-seen : (snapshot : ℕ) (x : Entry) (xs : List Entry) → nat_le x.seq snapshot ≡ true
    → visible (x ∷ xs) snapshot ≡ x ∷ filter (unhidden x) (visible xs snapshot)
visible-seen snapshot x xs e = rw e refl

visible-unseen : (snapshot : ℕ) (x : Entry) (xs : List Entry) → nat_le x.seq snapshot ≡ false → visible (x ∷ xs) snapshot ≡ visible xs snapshot
visible-unseen snapshot x xs e = rw e refl

unhidden-differs : (x e : Entry) → unhidden x e ≡ true → x.user ≡ e.user → ⊥
unhidden-differs x e shown same =
    let hidden : is_of_user x.user e ≡ true = (bytes_eq-Decides e.user x.user).1 (sym same) in
    let closed : unhidden x e ≡ false = ap not hidden in
    let both : true ≡ false = sym shown ∙ closed in cc

unhidden-from : (x e : Entry) → (x.user ≡ e.user → ⊥) → unhidden x e ≡ true
unhidden-from x e differs =
    let other : is_of_user x.user e ≡ false = false_from_ne_true (is_of_user x.user e) (λ h. differs (sym ((bytes_eq-Decides e.user x.user).0 h))) in
    ap not other

-- an entry at the front that isn't one of those sought moves the first place by one
first-later : (snapshot : ℕ) (e x : Entry) (xs : List Entry) → (IsSeen e.user snapshot x → ⊥) → Fresh snapshot e xs → Fresh snapshot e (x ∷ xs)
first-later snapshot e x xs other fresh = (suc fresh.0, fresh.1, ((fresh.2.0.0, fresh.2.0.1, fresh.2.0.2), least))
  where
    least : (j : ℕ) → StandsAt (IsSeen e.user snapshot) (x ∷ xs) j → suc fresh.0 ≤ j
    least zero stand =
        let P : Entry → Type 0 = λ f. IsSeen e.user snapshot f in
        absurd (other (subst P (sym (same_Some x stand.0 stand.1)) stand.2))
    least (suc j) stand = let low : fresh.0 ≤ j = fresh.2.1 j (stand.0, stand.1, stand.2) in omega arith

first-here : (snapshot : ℕ) (e x : Entry) (xs : List Entry) → x.seq ≤ snapshot → x ≡ e → Fresh snapshot e (x ∷ xs)
first-here snapshot e x xs old same =
    let place : slice_get (x ∷ xs) 0 ≡ Some e = ap Some same in
    let level : x.seq ≡ e.seq = ap (λ (y : Entry). y.seq) same in
    (zero, place, ((e, place, (refl, omega arith)), λ j stand. omega arith))

first-earlier : (snapshot i : ℕ) (e x : Entry) (xs : List Entry) → slice_get xs i ≡ Some e → IsFirstPlace (IsSeen e.user snapshot) (x ∷ xs) (suc i) → Fresh snapshot e xs
first-earlier snapshot i e x xs at first =
    (i, at, ((first.0.0, first.0.1, first.0.2), λ j stand. (let low : suc i ≤ suc j = first.1 (suc j) (stand.0, stand.1, stand.2) in omega arith)))

fresh-seen : (snapshot : ℕ) (e x : Entry) (xs : List Entry) → (In e (visible xs snapshot) → Fresh snapshot e xs) → x.seq ≤ snapshot
    → (m : ℕ) → slice_get (x ∷ filter (unhidden x) (visible xs snapshot)) m ≡ Some e → Fresh snapshot e (x ∷ xs)
fresh-seen snapshot e x xs later old zero at = first-here snapshot e x xs old (same_Some x e at)
fresh-seen snapshot e x xs later old (suc m) at =
    let behind = filter-In (unhidden x) (visible xs snapshot) e m at in
    first-later snapshot e x xs (λ same. unhidden-differs x e behind.1 same.0) (later behind.0)

fresh-by : (snapshot : ℕ) (e x : Entry) (xs : List Entry) (v : Bool) → nat_le x.seq snapshot ≡ v → (In e (visible xs snapshot) → Fresh snapshot e xs)
    → In e (visible (x ∷ xs) snapshot) → Fresh snapshot e (x ∷ xs)
fresh-by snapshot e x xs true is later here =
    fresh-seen snapshot e x xs later (leb-true x.seq snapshot is) here.0 (ap (λ (ys : List Entry). slice_get ys here.0) (sym (visible-seen snapshot x xs is)) ∙ here.1)
fresh-by snapshot e x xs false is later here =
    let new : snapshot < x.seq = leb-false x.seq snapshot is in
    first-later snapshot e x xs (λ (same : IsSeen e.user snapshot x). (let old : x.seq ≤ snapshot = same.1 in omega arith))
    (later (subst (In e) (visible-unseen snapshot x xs is) here))

pub fresh-from_visible : (snapshot : ℕ) (e : Entry) (xs : List Entry) → In e (visible xs snapshot) → Fresh snapshot e xs
fresh-from_visible snapshot e [] here = absurd (none-here e here.0 here.1)
fresh-from_visible snapshot e (x ∷ xs) here = fresh-by snapshot e x xs (nat_le x.seq snapshot) refl (fresh-from_visible snapshot e xs) here

visible-in_seen : (snapshot : ℕ) (e x : Entry) (xs : List Entry) → (Fresh snapshot e xs → In e (visible xs snapshot)) → x.seq ≤ snapshot
    → (i : ℕ) → slice_get (x ∷ xs) i ≡ Some e → IsFirstPlace (IsSeen e.user snapshot) (x ∷ xs) i
    → In e (x ∷ filter (unhidden x) (visible xs snapshot))
visible-in_seen snapshot e x xs later old zero at first = In-head e x (filter (unhidden x) (visible xs snapshot)) (same_Some x e at)
visible-in_seen snapshot e x xs later old (suc i) at first =
    let here = later (first-earlier snapshot i e x xs at first) in
    let other : x.user ≡ e.user → ⊥ = λ (same : x.user ≡ e.user). (let low : suc i ≤ 0 = first.1 0 (x, refl, (same, old)) in omega arith) in
    In-tail e x (filter (unhidden x) (visible xs snapshot)) (In-filter (unhidden x) (visible xs snapshot) here.0 e here.1 (unhidden-from x e other))

visible-in_unseen : (snapshot : ℕ) (e x : Entry) (xs : List Entry) → (Fresh snapshot e xs → In e (visible xs snapshot)) → snapshot < x.seq
    → (i : ℕ) → slice_get (x ∷ xs) i ≡ Some e → IsFirstPlace (IsSeen e.user snapshot) (x ∷ xs) i → In e (visible xs snapshot)
visible-in_unseen snapshot e x xs later new zero at first =
    let same : x ≡ first.0.0 = same_Some x first.0.0 first.0.1 in
    let level : x.seq ≡ first.0.0.seq = ap (λ (y : Entry). y.seq) same in
    absurd (omega (arith, first.0.2.1))
visible-in_unseen snapshot e x xs later new (suc i) at first = later (first-earlier snapshot i e x xs at first)

visible-by : (snapshot : ℕ) (e x : Entry) (xs : List Entry) (v : Bool) → nat_le x.seq snapshot ≡ v → (Fresh snapshot e xs → In e (visible xs snapshot))
    → (i : ℕ) → slice_get (x ∷ xs) i ≡ Some e → IsFirstPlace (IsSeen e.user snapshot) (x ∷ xs) i → In e (visible (x ∷ xs) snapshot)
visible-by snapshot e x xs true is later i at first =
    subst (In e) (sym (visible-seen snapshot x xs is)) (visible-in_seen snapshot e x xs later (leb-true x.seq snapshot is) i at first)
visible-by snapshot e x xs false is later i at first =
    subst (In e) (sym (visible-unseen snapshot x xs is)) (visible-in_unseen snapshot e x xs later (leb-false x.seq snapshot is) i at first)

pub visible-from_fresh : (snapshot : ℕ) (e : Entry) (xs : List Entry) → Fresh snapshot e xs → In e (visible xs snapshot)
visible-from_fresh snapshot e [] fresh = absurd (none-here e fresh.0 fresh.1)
visible-from_fresh snapshot e (x ∷ xs) fresh = visible-by snapshot e x xs (nat_le x.seq snapshot) refl (visible-from_fresh snapshot e xs) fresh.0 fresh.1 fresh.2

-- ---- the law

pub gets-from_visible : (entries : List Entry) (snapshot : ℕ) (e : Entry) → IsOrdered entries → Contains (visible entries snapshot) e
    → (user : List ℕ) × (i : ℕ) × (get_of entries user snapshot ≡ Some i) × (slice_get entries i ≡ Some e)
gets-from_visible entries snapshot e o held =
    let place : slice_get (visible entries snapshot) held.0 ≡ Some e = slice_get-get_or (visible entries snapshot) held.0 e held.1 ∙ ap Some held.2 in
    let fresh = fresh-from_visible snapshot e entries (held.0, place) in
    (e.user, fresh.0, get-at entries e.user snapshot fresh.0 o fresh.2, fresh.1)

pub visible-from_gets : (entries : List Entry) (snapshot : ℕ) (e : Entry) → IsOrdered entries
    → (user : List ℕ) × (i : ℕ) × (get_of entries user snapshot ≡ Some i) × (slice_get entries i ≡ Some e)
    → Contains (visible entries snapshot) e
visible-from_gets entries snapshot e o got =
    let first = (get-some entries got.0 snapshot got.1 o got.2).1 in
    let same : first.0.0 ≡ e = same_Some first.0.0 e (sym first.0.1 ∙ got.3) in
    let mine : e.user ≡ got.0 = sym (ap (λ (x : Entry). x.user) same) ∙ first.0.2.0 in
    let P : List ℕ → Type 0 = λ u. IsFirstPlace (IsSeen u snapshot) entries got.1 in
    let here = visible-from_fresh snapshot e entries (got.1, got.3, subst P (sym mine) first) in
    (here.0, slice_get_within (visible entries snapshot) here.0 e here.1, get_or_from_slice_get (visible entries snapshot) here.0 e e here.1)

-- ---- each user key once

differ : (x : Entry) (xs : List Entry) → All (λ y. x.user ≡ y.user → ⊥) (filter (unhidden x) xs)
differ x xs k d low =
    let at = slice_get-get_or (filter (unhidden x) xs) k d low in
    unhidden-differs x (get_or (filter (unhidden x) xs) k d) (filter-In (unhidden x) xs (get_or (filter (unhidden x) xs) k d) k at).1

once-by : (x : Entry) (xs : List Entry) (snapshot : ℕ) (v : Bool) → nat_le x.seq snapshot ≡ v
    → AllPairs (λ a b. a.user ≡ b.user → ⊥) (visible xs snapshot) → AllPairs (λ a b. a.user ≡ b.user → ⊥) (visible (x ∷ xs) snapshot)
once-by x xs snapshot true is later =
    subst (AllPairs (λ a b. a.user ≡ b.user → ⊥)) (sym (visible-seen snapshot x xs is))
    (AllPairs-cons (λ a b. a.user ≡ b.user → ⊥) x (filter (unhidden x) (visible xs snapshot)) (differ x (visible xs snapshot))
    (AllPairs-filter (λ a b. a.user ≡ b.user → ⊥) (unhidden x) (visible xs snapshot) later))
once-by x xs snapshot false is later = subst (AllPairs (λ a b. a.user ≡ b.user → ⊥)) (sym (visible-unseen snapshot x xs is)) later

pub visible-once : (entries : List Entry) (snapshot : ℕ) → AllPairs (λ a b. a.user ≡ b.user → ⊥) (visible entries snapshot)
visible-once [] snapshot = λ i j d low within. absurd (omega arith)
visible-once (x ∷ xs) snapshot = once-by x xs snapshot (nat_le x.seq snapshot) refl (visible-once xs snapshot)

-- ---- in order

ordered-cons : (x : Entry) (xs : List Entry) → ((j : ℕ) (e : Entry) → slice_get xs j ≡ Some e → IsBefore x e) → IsOrdered xs → IsOrdered (x ∷ xs)
ordered-cons x [] behind o = tt
ordered-cons x (y ∷ ys) behind o = (behind 0 y refl, o)

ordered-filter_by : (t : Entry → Bool) (x : Entry) (xs : List Entry) (v : Bool) → t x ≡ v → IsOrdered (x ∷ xs)
    → IsOrdered (filter t xs) → IsOrdered (filter t (x ∷ xs))
ordered-filter_by t x xs true is o later =
    subst IsOrdered (sym (filter-kept t x xs is))
    (ordered-cons x (filter t xs) (λ j e at. (let here = filter-In t xs e j at in head-before x xs o here.0.0 e here.0.1)) later)
ordered-filter_by t x xs false is o later = subst IsOrdered (sym (filter-dropped t x xs is)) later

ordered-filter : (t : Entry → Bool) (xs : List Entry) → IsOrdered xs → IsOrdered (filter t xs)
ordered-filter t [] o = tt
ordered-filter t (x ∷ xs) o = ordered-filter_by t x xs (t x) refl o (ordered-filter t xs (ordered-tail x xs o))

-- what an entry leaves visible behind it comes after it
visible-behind : (x : Entry) (xs : List Entry) (snapshot : ℕ) → IsOrdered (x ∷ xs) → (j : ℕ) (e : Entry)
    → slice_get (filter (unhidden x) (visible xs snapshot)) j ≡ Some e → IsBefore x e
visible-behind x xs snapshot o j e at =
    let here = filter-In (unhidden x) (visible xs snapshot) e j at in
    let place = fresh-from_visible snapshot e xs here.0 in
    head-before x xs o place.0 e place.1

visible-ordered_by : (x : Entry) (xs : List Entry) (snapshot : ℕ) (v : Bool) → nat_le x.seq snapshot ≡ v → IsOrdered (x ∷ xs)
    → IsOrdered (visible xs snapshot) → IsOrdered (visible (x ∷ xs) snapshot)
visible-ordered_by x xs snapshot true is o later =
    subst IsOrdered (sym (visible-seen snapshot x xs is))
    (ordered-cons x (filter (unhidden x) (visible xs snapshot)) (visible-behind x xs snapshot o)
    (ordered-filter (unhidden x) (visible xs snapshot) later))
visible-ordered_by x xs snapshot false is o later = subst IsOrdered (sym (visible-unseen snapshot x xs is)) later

-- what a snapshot sees of an ordered list is in order
pub visible-ordered : (entries : List Entry) (snapshot : ℕ) → IsOrdered entries → IsOrdered (visible entries snapshot)
visible-ordered [] snapshot o = tt
visible-ordered (x ∷ xs) snapshot o =
    visible-ordered_by x xs snapshot (nat_le x.seq snapshot) refl o (visible-ordered xs snapshot (ordered-tail x xs o))
