-- What Get shows in an ordered list, without a count.
use Rattle.std.proofs.Common.{◌≡◌, ℕ, zero, suc, ◌<◌, ◌≤◌, Bool, true, Option, Some, None, List, [], ◌∷◌, length, slice_get, refl, sym, ap, subst, ◌∙◌, inl, inr, arith}
use Rattle.std.proofs.lemmas.Bool.{cases_lt}
use Rattle.std.proofs.lemmas.Option.{same_Some, slice_get_within, cond_some}
use Rattle.std.proofs.lemmas.Slice.Eq.{bytes_eq-Decides}
use Rattle.sst_key.specs.declared.entries.Entry.{Entry}
use Rattle.sst_key.specs.Entry.{IsBefore, IsOrdered, tag}
use Rattle.sst_key.specs.ListMachine.{below, up_to, where_passes, is_of_user, get_of}
use Rattle.sst_key.specs.ListLaws.{IsBeforeTarget, IsUpToTarget, IsSeen, StandsAt, Each, IsFirstPlace}
use Rattle.sst_key.proofs.Counting.{stands}
use Rattle.sst_key.proofs.TargetOrder.{tied-users, IsBefore-trans}
use Rattle.sst_key.proofs.Landings.{below-behind, below-from_not_before, up_to-ahead_of, up_to-from_words_at}

-- an entry that passes stands at the place
pub where_passes-some : (test : Entry → Bool) (c i : ℕ) (o : Option Entry) → where_passes test c o ≡ Some i
    → (c ≡ i) × ((e : Entry) × (o ≡ Some e) × (test e ≡ true))
where_passes-some test c i None h = cc
where_passes-some test c i (Some e) h = let both = cond_some (test e) c i h in (both.1, (e, refl, both.0))

pub where_passes-at : (test : Entry → Bool) (c : ℕ) (o : Option Entry) (e : Entry) → o ≡ Some e → test e ≡ true → where_passes test c o ≡ Some c
where_passes-at test c o e there passes = rw there (rw passes refl)

-- an entry that the snapshot sees isn't before the target
seen-not_before : (user : List ℕ) (snapshot : ℕ) (e : Entry) → IsSeen user snapshot e → IsBeforeTarget user snapshot e → ⊥
seen-not_before user snapshot e seen (inl less) = let tied = tied-users e.user user seen.0 in cc
seen-not_before user snapshot e seen (inr newer) = omega (arith, seen.1, newer.1)

-- an entry of the user key that isn't before the target is seen
seen-from_not_before : (user : List ℕ) (snapshot : ℕ) (e : Entry) → e.user ≡ user → (IsBeforeTarget user snapshot e → ⊥) → IsSeen user snapshot e
seen-from_not_before user snapshot e same behind =
    elim (cases_lt snapshot e.seq) [
      | inl newer ↦ absurd (behind (inr (same, newer)))
      | inr old ↦ (same, old)
    ]

pub get-some : (entries : List Entry) (user : List ℕ) (snapshot i : ℕ) → IsOrdered entries → get_of entries user snapshot ≡ Some i
    → (below entries user snapshot ≡ i) × IsFirstPlace (IsSeen user snapshot) entries i
get-some entries user snapshot i o shown =
    let is = where_passes-some (is_of_user user) (below entries user snapshot) i (slice_get entries (below entries user snapshot)) shown in
    let e : Entry = is.1.0 in
    let at : slice_get entries i ≡ Some e = sym (ap (slice_get entries) is.0) ∙ is.1.1 in
    let same : e.user ≡ user = (bytes_eq-Decides e.user user).0 is.1.2 in
    let behind : IsBeforeTarget user snapshot e → ⊥ = below-behind entries user snapshot o i e at (omega (arith, is.0)) in (
      is.0,
      (
        (e, at, seen-from_not_before user snapshot e same behind),
        λ j stand. (
            let least : below entries user snapshot ≤ j = below-from_not_before entries user snapshot o j stand.0 stand.1 (seen-not_before user snapshot stand.0 stand.2) in
            omega (arith, is.0)
            ),
      ),
    )

-- where the snapshot sees an entry of the user key, Get shows the one behind all that are before the target
get-found : (entries : List Entry) (user : List ℕ) (snapshot : ℕ) → IsOrdered entries → (j : ℕ) → StandsAt (IsSeen user snapshot) entries j
    → get_of entries user snapshot ≡ Some (below entries user snapshot)
get-found entries user snapshot o j stand =
    let f : Entry = stand.0 in
    let seen : IsSeen user snapshot f = stand.2 in
    let within : j < length entries = slice_get_within entries j f stand.1 in
    let least : below entries user snapshot ≤ j = below-from_not_before entries user snapshot o j f stand.1 (seen-not_before user snapshot f seen) in
    let last : j < up_to entries user 0 = up_to-from_words_at entries user 0 o j f stand.1 (inr (seen.0, omega arith)) in
    let there = stands entries (below entries user snapshot) (omega arith) in
    let e : Entry = there.0 in
    let behind : IsBeforeTarget user snapshot e → ⊥ = below-behind entries user snapshot o (below entries user snapshot) e there.1 (omega arith) in
    let upto : IsUpToTarget user 0 e = up_to-ahead_of entries user 0 o (below entries user snapshot) e there.1 (omega arith) in
    let same : e.user ≡ user = elim upto [ inl less ↦ absurd (behind (inl less)) | inr tied ↦ tied.0 ] in
    where_passes-at (is_of_user user) (below entries user snapshot) (slice_get entries (below entries user snapshot)) e there.1 ((bytes_eq-Decides e.user user).1 same)

pub get-at : (entries : List Entry) (user : List ℕ) (snapshot i : ℕ) → IsOrdered entries → IsFirstPlace (IsSeen user snapshot) entries i
    → get_of entries user snapshot ≡ Some i
get-at entries user snapshot i o first =
    let found = get-found entries user snapshot o i first.0 in
    let shown = (get-some entries user snapshot (below entries user snapshot) o found).1 in
    let low : below entries user snapshot ≤ i = shown.1 i first.0 in
    let high : i ≤ below entries user snapshot = first.1 (below entries user snapshot) shown.0 in
    let same : below entries user snapshot ≡ i = omega arith in
    found ∙ ap Some same

pub get-none : (entries : List Entry) (user : List ℕ) (snapshot : ℕ) → IsOrdered entries → get_of entries user snapshot ≡ None
    → Each (λ e. IsSeen user snapshot e → ⊥) entries
get-none entries user snapshot o none j e at seen =
    let found = get-found entries user snapshot o j (e, at, seen) in
    let both : Some (below entries user snapshot) ≡ None = sym found ∙ none in cc

pub get-nowhere : (entries : List Entry) (user : List ℕ) (snapshot : ℕ) → IsOrdered entries → Each (λ e. IsSeen user snapshot e → ⊥) entries
    → get_of entries user snapshot ≡ None
get-nowhere entries user snapshot o each =
    elim (get_of entries user snapshot) as (λ r. get_of entries user snapshot ≡ r → r ≡ None) [
      | None ↦ λ is. refl
      | Some i ↦ λ is. (
          let first = (get-some entries user snapshot i o is).1 in
          absurd (each i first.0.0 first.0.1 first.0.2))
    ] refl

-- ---- the greatest tag

pub ordered-tail : (x : Entry) (xs : List Entry) → IsOrdered (x ∷ xs) → IsOrdered xs
ordered-tail x [] o = tt
ordered-tail x (y ∷ ys) o = o.1

-- an entry that an ordered list begins with is before each of the others
pub head-before : (x : Entry) (xs : List Entry) → IsOrdered (x ∷ xs) → (j : ℕ) (b : Entry) → slice_get xs j ≡ Some b → IsBefore x b
head-before x [] o j b at = cc
head-before x (y ∷ ys) o zero b at = subst (IsBefore x) (same_Some y b at) o.0
head-before x (y ∷ ys) o (suc j) b at = IsBefore-trans x y b o.0 (head-before y ys o.1 j b at)

-- each entry of an ordered list is before all that come after it
pub ordered-pair : (xs : List Entry) → IsOrdered xs → (i j : ℕ) (a b : Entry) → i < j → slice_get xs i ≡ Some a → slice_get xs j ≡ Some b → IsBefore a b
ordered-pair [] o i j a b low here there = cc
ordered-pair (x ∷ xs) o zero zero a b low here there = absurd (omega arith)
ordered-pair (x ∷ xs) o zero (suc j) a b low here there =
    let P : Entry → Type 0 = λ e. IsBefore e b in
    subst P (same_Some x a here) (head-before x xs o j b there)
ordered-pair (x ∷ xs) o (suc i) zero a b low here there = absurd (omega arith)
ordered-pair (x ∷ xs) o (suc i) (suc j) a b low here there = ordered-pair xs (ordered-tail x xs o) i j a b (omega arith) here there

tag-falls : (e f : Entry) → f.user ≡ e.user → IsBefore e f → tag f.seq f.kind ≤ tag e.seq e.kind
tag-falls e f same (inl less) = let tied = tied-users e.user f.user (sym same) in cc
tag-falls e f same (inr tied) = omega (arith, tied.1)

pub get-newest : (entries : List Entry) (user : List ℕ) (snapshot i : ℕ) (e : Entry) → IsOrdered entries
    → get_of entries user snapshot ≡ Some i → slice_get entries i ≡ Some e
    → Each (λ f. IsSeen user snapshot f → tag f.seq f.kind ≤ tag e.seq e.kind) entries
get-newest entries user snapshot i e o shown at j f there seen =
    let first = (get-some entries user snapshot i o shown).1 in
    let low : i ≤ j = first.1 j (f, there, seen) in
    let own : first.0.0 ≡ e = same_Some first.0.0 e (sym first.0.1 ∙ at) in
    let mine : e.user ≡ user = sym (ap (λ (x : Entry). x.user) own) ∙ first.0.2.0 in
    elim (cases_lt i j) [
      | inl less ↦ tag-falls e f (seen.0 ∙ sym mine) (ordered-pair entries o i j e f less at there)
      | inr high ↦ (
          let place : j ≡ i = omega arith in
          let same : f ≡ e = same_Some f e (sym there ∙ ap (slice_get entries) place ∙ at) in
          let level : tag f.seq f.kind ≡ tag e.seq e.kind = ap (λ (x : Entry). tag x.seq x.kind) same in
          omega (arith, level))
    ]
