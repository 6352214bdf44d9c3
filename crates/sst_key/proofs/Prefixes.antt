-- Where Seek lands in a plain table whose prefixes have a length.
use Rattle.std.proofs.Common.{◌≡◌, ℕ, ◌<◌, ◌≤◌, true, Some, List, ◌++◌, length, length-append, take, drop, slice_get, nat_eq, refl, sym, ap, ◌∙◌, inl, inr, arith}
use Rattle.std.specs.List.{starts_with}
use Rattle.std.proofs.lemmas.Bool.{cases_lt, lt-ltb, le-ltb}
use Rattle.std.proofs.lemmas.Bool.Decides.{Decides-eqb}
use Rattle.std.proofs.lemmas.List.{length-take-le, take-append-drop, take_at}
use Rattle.std.proofs.lemmas.Option.{slice_get_within}
use Rattle.std.proofs.lemmas.Slice.Eq.{starts_is}
use Rattle.sst_key.specs.declared.entries.Entry.{Entry}
use Rattle.sst_key.specs.declared.calls.Format.TheVariants.{Plain}
use Rattle.sst_key.specs.ListMachine.{below, where_passes, begins_alike, seek_of, seek_in}
use Rattle.sst_key.specs.ListLaws.{SharesPrefix, StandsAt}
use Rattle.sst_key.proofs.Landings.{in-place, place_in-some}
use Rattle.sst_key.proofs.Gets.{where_passes-some, where_passes-at}

-- the test says what the words say
shared-from_test : (prefix : ℕ) (user : List ℕ) (e : Entry) → begins_alike prefix user e ≡ true → SharesPrefix prefix user e
shared-from_test prefix user e passes =
    elim (cases_lt (length user) prefix) [
      | inl short ↦ let fails = rw (lt-ltb (length user) prefix short) at passes in cc
      | inr whole ↦
          let alike : starts_with nat_eq e.user (take prefix user) ≡ true = rw (le-ltb (length user) prefix whole) at passes in
          let joined = (starts_is Decides-eqb e.user (take prefix user) (starts_with nat_eq e.user (take prefix user)) refl).0 alike in (
            take prefix user,
            drop prefix user,
            drop (length (take prefix user)) e.user,
            length-take-le prefix user whole,
            sym (take-append-drop prefix user),
            joined,
          )
    ]

test-from_shared : (prefix : ℕ) (user : List ℕ) (e : Entry) → SharesPrefix prefix user e → begins_alike prefix user e ≡ true
test-from_shared prefix user e shared =
    let front : List ℕ = shared.0 in
    let whole : prefix ≤ length user = omega (arith, shared.3, ap length shared.4, length-append front shared.1) in
    let same : take prefix user ≡ front = ap (take prefix) shared.4 ∙ take_at front shared.1 prefix shared.3 in
    let joined : e.user ≡ take prefix user ++ shared.2 = shared.5 ∙ ap (λ (xs : List ℕ). xs ++ shared.2) (sym same) in
    let alike = (starts_is Decides-eqb e.user (take prefix user) (starts_with nat_eq e.user (take prefix user)) refl).1 shared.2 joined in
    rw (le-ltb (length user) prefix whole) alike

-- a plain table looks at the entry behind all that are before the target
seek_in-prefix : (prefix : ℕ) (entries : List Entry) (user : List ℕ) (seq : ℕ) → 0 < prefix
    → seek_in Plain prefix entries user seq
    ≡ where_passes (begins_alike prefix user) (below entries user seq) (slice_get entries (below entries user seq))
seek_in-prefix prefix entries user seq some = rw (lt-ltb 0 prefix some) refl

pub within-some : (prefix : ℕ) (entries : List Entry) (user : List ℕ) (seq i : ℕ) → 0 < prefix → seek_in Plain prefix entries user seq ≡ Some i
    → (seek_of entries user seq ≡ Some i) × StandsAt (SharesPrefix prefix user) entries i
within-some prefix entries user seq i some lands =
    let place : ℕ = below entries user seq in
    let is = where_passes-some (begins_alike prefix user) place i (slice_get entries place) (sym (seek_in-prefix prefix entries user seq some) ∙ lands) in
    let e : Entry = is.1.0 in
    let at : slice_get entries i ≡ Some e = sym (ap (slice_get entries) is.0) ∙ is.1.1 in
    let low : place < length entries = slice_get_within entries place e is.1.1 in
    (in-place entries place low ∙ ap Some is.0, (e, at, shared-from_test prefix user e is.1.2))

pub within-at : (prefix : ℕ) (entries : List Entry) (user : List ℕ) (seq i : ℕ) → 0 < prefix
    → (seek_of entries user seq ≡ Some i) × StandsAt (SharesPrefix prefix user) entries i → seek_in Plain prefix entries user seq ≡ Some i
within-at prefix entries user seq i some both =
    let place : ℕ = below entries user seq in
    let is = place_in-some entries place i both.0 in
    let e : Entry = both.1.0 in
    let at : slice_get entries place ≡ Some e = ap (slice_get entries) is.0 ∙ both.1.1 in
    seek_in-prefix prefix entries user seq some
    ∙ where_passes-at (begins_alike prefix user) place (slice_get entries place) e at (test-from_shared prefix user e both.1.2)
    ∙ ap Some is.0
