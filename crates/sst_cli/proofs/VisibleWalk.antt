-- A walk from the front that passes over what a snapshot doesn't see, and over each user key that was printed last, prints
-- what is visible.
use Rattle.std.proofs.Common.{◌≡◌, ℕ, suc, Bool, true, false, not, Option, Some, None, List, [], ◌∷◌, filter, slice_get, nat_le, refl, sym, ap, ◌∙◌, inl, inr, arith}
use Rattle.std.proofs.lemmas.Bool.{false_from_ne_true}
use Rattle.std.proofs.lemmas.Slice.Eq.{bytes_eq-Decides}
use Rattle.sst_key.specs.declared.entries.Entry.{Entry}
use Rattle.sst_key.specs.Entry.{IsBefore, IsOrdered}
use Rattle.sst_key.specs.ListMachine.{is_of_user, visible}
use Rattle.sst_key.proofs.Gets.{head-before, ordered-tail}
use Rattle.sst_key.proofs.KeyParts.{slice_cmp-same}
use Rattle.sst_key.proofs.TargetOrder.{IsBefore-trans}
use Rattle.sst_cli.specs.ScanCommand.{is_passed, shown_after, shown_at}

-- an entry of another user key
abbrev others : List ℕ → Entry → Bool
others user later = not (is_of_user user later)

-- ---- filters

kept : (t : Entry → Bool) (x : Entry) (xs : List Entry) → t x ≡ true → filter t (x ∷ xs) ≡ x ∷ filter t xs
kept t x xs e = rw e refl

dropped : (t : Entry → Bool) (x : Entry) (xs : List Entry) → t x ≡ false → filter t (x ∷ xs) ≡ filter t xs
dropped t x xs e = rw e refl

filter-twice_by : (t : Entry → Bool) (x : Entry) (xs : List Entry) (v : Bool) → t x ≡ v → filter t (filter t xs) ≡ filter t xs
    → filter t (filter t (x ∷ xs)) ≡ filter t (x ∷ xs)
filter-twice_by t x xs true is later =
    let one = kept t x xs is in
    ap (filter t) one ∙ kept t x (filter t xs) is ∙ ap (λ (ys : List Entry). x ∷ ys) later ∙ sym one
filter-twice_by t x xs false is later =
    let one = dropped t x xs is in ap (filter t) one ∙ later ∙ sym one

filter-twice : (t : Entry → Bool) (xs : List Entry) → filter t (filter t xs) ≡ filter t xs
filter-twice t [] = refl
filter-twice t (x ∷ xs) = filter-twice_by t x xs (t x) refl (filter-twice t xs)

filter-swap_by : (t u : Entry → Bool) (x : Entry) (xs : List Entry) (v w : Bool) → t x ≡ v → u x ≡ w → filter t (filter u xs) ≡ filter u (filter t xs)
    → filter t (filter u (x ∷ xs)) ≡ filter u (filter t (x ∷ xs))
filter-swap_by t u x xs true true is also later =
    ap (filter t) (kept u x xs also) ∙ kept t x (filter u xs) is ∙ ap (λ (ys : List Entry). x ∷ ys) later
    ∙ sym (ap (filter u) (kept t x xs is) ∙ kept u x (filter t xs) also)
filter-swap_by t u x xs true false is also later =
    ap (filter t) (dropped u x xs also) ∙ later ∙ sym (ap (filter u) (kept t x xs is) ∙ dropped u x (filter t xs) also)
filter-swap_by t u x xs false true is also later =
    ap (filter t) (kept u x xs also) ∙ dropped t x (filter u xs) is ∙ later ∙ sym (ap (filter u) (dropped t x xs is))
filter-swap_by t u x xs false false is also later =
    ap (filter t) (dropped u x xs also) ∙ later ∙ sym (ap (filter u) (dropped t x xs is))

filter-swap : (t u : Entry → Bool) (xs : List Entry) → filter t (filter u xs) ≡ filter u (filter t xs)
filter-swap t u [] = refl
filter-swap t u (x ∷ xs) = filter-swap_by t u x xs (t x) (u x) refl refl (filter-swap t u xs)

-- ---- one step

visible-seen : (snapshot : ℕ) (x : Entry) (xs : List Entry) → nat_le x.seq snapshot ≡ true
    → visible (x ∷ xs) snapshot ≡ x ∷ filter (others x.user) (visible xs snapshot)
visible-seen snapshot x xs e = rw e refl

visible-unseen : (snapshot : ℕ) (x : Entry) (xs : List Entry) → nat_le x.seq snapshot ≡ false → visible (x ∷ xs) snapshot ≡ visible xs snapshot
visible-unseen snapshot x xs e = rw e refl

passed-step : (snapshot : ℕ) (last : Option (List ℕ)) (x : Entry) (xs : List Entry) → is_passed snapshot last x ≡ true
    → shown_after snapshot last (x ∷ xs) ≡ shown_after snapshot last xs
passed-step snapshot last x xs e = rw e refl

printed-step : (snapshot : ℕ) (last : Option (List ℕ)) (x : Entry) (xs : List Entry) → is_passed snapshot last x ≡ false
    → shown_after snapshot last (x ∷ xs) ≡ x ∷ shown_after snapshot (Some x.user) xs
printed-step snapshot last x xs e = rw e refl

passed-new : (snapshot : ℕ) (last : Option (List ℕ)) (x : Entry) → nat_le x.seq snapshot ≡ false → is_passed snapshot last x ≡ true
passed-new snapshot last x e = rw e refl

passed-old : (snapshot : ℕ) (user : List ℕ) (x : Entry) → nat_le x.seq snapshot ≡ true → is_passed snapshot (Some user) x ≡ is_of_user user x
passed-old snapshot user x e = rw e refl

passed-first : (snapshot : ℕ) (x : Entry) → nat_le x.seq snapshot ≡ true → is_passed snapshot None x ≡ false
passed-first snapshot x e = rw e refl

-- ---- user keys in an ordered list

-- an entry isn't before itself
not-itself : (d : Entry) → IsBefore d d → ⊥
not-itself d (inl less) = let tied = slice_cmp-same d.user in cc
not-itself d (inr newer) = omega (arith, newer.1)

-- no entry has this user key
abbrev NoneOf : List ℕ → List Entry → Type 0
NoneOf user xs = (j : ℕ) (f : Entry) → slice_get xs j ≡ Some f → f.user ≡ user → ⊥

-- behind an entry of a greater user key there is none of the lesser one
none-behind_by : (d e f : Entry) → IsBefore d e → (e.user ≡ d.user → ⊥) → IsBefore e f → f.user ≡ d.user → ⊥
none-behind_by d e f (inr same) differs behind is = differs (sym same.0)
none-behind_by d e f (inl less) differs (inr same) is = differs (same.0 ∙ is)
none-behind_by d e f (inl less) differs (inl more) is =
    let back : IsBefore e d = inl (rw is at more) in not-itself d (IsBefore-trans d e d (inl less) back)

none-behind : (d e : Entry) (rest : List Entry) → IsOrdered (d ∷ e ∷ rest) → (e.user ≡ d.user → ⊥) → NoneOf d.user rest
none-behind d e rest o differs = λ j f at is. none-behind_by d e f o.0 differs (head-before e rest o.1 j f at) is

-- without the second entry the list is still in order
skip : (d e : Entry) (rest : List Entry) → IsOrdered (d ∷ e ∷ rest) → IsOrdered (d ∷ rest)
skip d e [] o = tt
skip d e (f ∷ rest) o = (IsBefore-trans d e f o.0 o.1.0, o.1.1)

-- what is visible of a list without a user key has none to leave out
none-visible_by : (user : List ℕ) (snapshot : ℕ) (x : Entry) (xs : List Entry) (v : Bool) → nat_le x.seq snapshot ≡ v → others user x ≡ true
    → filter (others user) (visible xs snapshot) ≡ visible xs snapshot → filter (others user) (visible (x ∷ xs) snapshot) ≡ visible (x ∷ xs) snapshot
none-visible_by user snapshot x xs true is other later =
    let rest = filter (others x.user) (visible xs snapshot) in
    ap (filter (others user)) (visible-seen snapshot x xs is) ∙ kept (others user) x rest other
    ∙ ap (λ (ys : List Entry). x ∷ ys) (filter-swap (others user) (others x.user) (visible xs snapshot) ∙ ap (filter (others x.user)) later)
    ∙ sym (visible-seen snapshot x xs is)
none-visible_by user snapshot x xs false is other later =
    ap (filter (others user)) (visible-unseen snapshot x xs is) ∙ later ∙ sym (visible-unseen snapshot x xs is)

is-other : (user : List ℕ) (x : Entry) → (x.user ≡ user → ⊥) → is_of_user user x ≡ false
is-other user x differs = false_from_ne_true (is_of_user user x) (λ h. differs ((bytes_eq-Decides x.user user).0 h))

none-visible : (user : List ℕ) (snapshot : ℕ) (xs : List Entry) → NoneOf user xs → filter (others user) (visible xs snapshot) ≡ visible xs snapshot
none-visible user snapshot [] none = refl
none-visible user snapshot (x ∷ xs) none =
    none-visible_by user snapshot x xs (nat_le x.seq snapshot) refl (ap not (is-other user x (none 0 x refl)))
    (none-visible user snapshot xs (λ j f at. none (suc j) f at))

-- ---- the walk

-- one of the user key printed last
walk-same : (snapshot : ℕ) (d e : Entry) (rest : List Entry) → nat_le e.seq snapshot ≡ true → is_of_user d.user e ≡ true
    → shown_after snapshot (Some d.user) rest ≡ filter (others d.user) (visible rest snapshot)
    → shown_after snapshot (Some d.user) (e ∷ rest) ≡ filter (others d.user) (visible (e ∷ rest) snapshot)
walk-same snapshot d e rest seen same later =
    let users : e.user ≡ d.user = (bytes_eq-Decides e.user d.user).0 same in
    let twice : filter (others d.user) (filter (others e.user) (visible rest snapshot)) ≡ filter (others d.user) (visible rest snapshot) =
    ap (λ (u : List ℕ). filter (others d.user) (filter (others u) (visible rest snapshot))) users ∙ filter-twice (others d.user) (visible rest snapshot) in
    passed-step snapshot (Some d.user) e rest (passed-old snapshot d.user e seen ∙ same) ∙ later
    ∙ sym (ap (filter (others d.user)) (visible-seen snapshot e rest seen) ∙ dropped (others d.user) e (filter (others e.user) (visible rest snapshot)) (ap not same) ∙ twice)

-- the first of another user key
walk-other : (snapshot : ℕ) (d e : Entry) (rest : List Entry) → IsOrdered (d ∷ e ∷ rest) → nat_le e.seq snapshot ≡ true → is_of_user d.user e ≡ false
    → shown_after snapshot (Some e.user) rest ≡ filter (others e.user) (visible rest snapshot)
    → shown_after snapshot (Some d.user) (e ∷ rest) ≡ filter (others d.user) (visible (e ∷ rest) snapshot)
walk-other snapshot d e rest o seen other later =
    let differs : e.user ≡ d.user → ⊥ = λ same. (let is = (bytes_eq-Decides e.user d.user).1 same in cc) in
    let none = none-visible d.user snapshot rest (none-behind d e rest o differs) in
    let behind = filter (others e.user) (visible rest snapshot) in
    let left : filter (others d.user) behind ≡ behind = filter-swap (others d.user) (others e.user) (visible rest snapshot) ∙ ap (filter (others e.user)) none in
    printed-step snapshot (Some d.user) e rest (passed-old snapshot d.user e seen ∙ other) ∙ ap (λ (ys : List Entry). e ∷ ys) (later ∙ sym left)
    ∙ sym (ap (filter (others d.user)) (visible-seen snapshot e rest seen) ∙ kept (others d.user) e behind (ap not other))

-- one that the snapshot doesn't see
walk-unseen : (snapshot : ℕ) (last : Option (List ℕ)) (t : Entry → Bool) (e : Entry) (rest : List Entry) → nat_le e.seq snapshot ≡ false
    → shown_after snapshot last rest ≡ filter t (visible rest snapshot) → shown_after snapshot last (e ∷ rest) ≡ filter t (visible (e ∷ rest) snapshot)
walk-unseen snapshot last t e rest new later =
    passed-step snapshot last e rest (passed-new snapshot last e new) ∙ later ∙ sym (ap (filter t) (visible-unseen snapshot e rest new))

walk-by : (snapshot : ℕ) (d e : Entry) (rest : List Entry) (v w : Bool) → nat_le e.seq snapshot ≡ v → is_of_user d.user e ≡ w → IsOrdered (d ∷ e ∷ rest)
    → shown_after snapshot (Some d.user) rest ≡ filter (others d.user) (visible rest snapshot)
    → shown_after snapshot (Some e.user) rest ≡ filter (others e.user) (visible rest snapshot)
    → shown_after snapshot (Some d.user) (e ∷ rest) ≡ filter (others d.user) (visible (e ∷ rest) snapshot)
walk-by snapshot d e rest false w new same o later next = walk-unseen snapshot (Some d.user) (others d.user) e rest new later
walk-by snapshot d e rest true true seen same o later next = walk-same snapshot d e rest seen same later
walk-by snapshot d e rest true false seen other o later next = walk-other snapshot d e rest o seen other next

-- after an entry was printed
walk-after : (snapshot : ℕ) (d : Entry) (entries : List Entry) → IsOrdered (d ∷ entries)
    → shown_after snapshot (Some d.user) entries ≡ filter (others d.user) (visible entries snapshot)
walk-after snapshot d [] o = refl
walk-after snapshot d (e ∷ rest) o =
    walk-by snapshot d e rest (nat_le e.seq snapshot) (is_of_user d.user e) refl refl o (walk-after snapshot d rest (skip d e rest o)) (walk-after snapshot e rest o.1)

walk-begin_by : (snapshot : ℕ) (e : Entry) (rest : List Entry) (v : Bool) → nat_le e.seq snapshot ≡ v → IsOrdered (e ∷ rest)
    → shown_at snapshot rest ≡ visible rest snapshot → shown_at snapshot (e ∷ rest) ≡ visible (e ∷ rest) snapshot
walk-begin_by snapshot e rest true seen o later =
    printed-step snapshot None e rest (passed-first snapshot e seen) ∙ ap (λ (ys : List Entry). e ∷ ys) (walk-after snapshot e rest o) ∙ sym (visible-seen snapshot e rest seen)
walk-begin_by snapshot e rest false new o later =
    passed-step snapshot None e rest (passed-new snapshot None e new) ∙ later ∙ sym (visible-unseen snapshot e rest new)

pub shown-visible : (snapshot : ℕ) (entries : List Entry) → IsOrdered entries → shown_at snapshot entries ≡ visible entries snapshot
shown-visible snapshot [] o = refl
shown-visible snapshot (e ∷ rest) o =
    walk-begin_by snapshot e rest (nat_le e.seq snapshot) refl o (shown-visible snapshot rest (ordered-tail e rest o))
