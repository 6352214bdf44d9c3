-- Where Seek, SeekForPrev and Get land in an ordered list, without a count.
use Rattle.std.proofs.Common.{◌≡◌, ◌⊎◌, ℕ, zero, suc, ◌<◌, ◌≤◌, Bool, true, false, Some, None, List, length, slice_get, refl, sym, ap, ◌∙◌, inl, inr, arith}
use Rattle.std.proofs.lemmas.Bool.{cases_lt, lt-ltb, le-ltb}
use Rattle.std.proofs.lemmas.Option.{same_Some, slice_get_within}
use Rattle.sst_key.specs.declared.entries.Entry.{Entry}
use Rattle.sst_key.specs.Entry.{IsOrdered}
use Rattle.sst_key.specs.ListMachine.{is_before_target, is_up_to_target, below, up_to, place_in, place_before, seek_of, seek_for_prev_of}
use Rattle.sst_key.specs.ListLaws.{IsBeforeTarget, IsUpToTarget, StandsAt, Each, EachAhead, EachBehind}
use Rattle.sst_key.proofs.Counting.{Runs, runs, passes-ahead, fails-behind, ahead-from_pass, behind-from_fail, stands, count-in_length}
use Rattle.sst_key.proofs.TargetOrder.{before-in_words, before-from_words, before-ahead, up_to-in_words, up_to-from_words, up_to-ahead}

-- ---- places

pub in-place : (entries : List Entry) (c : ℕ) → c < length entries → place_in entries c ≡ Some c
in-place entries c low = rw (lt-ltb c (length entries) low) refl

pub in-no_place : (entries : List Entry) (c : ℕ) → length entries ≤ c → place_in entries c ≡ None
in-no_place entries c high = rw (le-ltb c (length entries) high) refl

pub place_in-some : (entries : List Entry) (c i : ℕ) → place_in entries c ≡ Some i → (c ≡ i) × (c < length entries)
place_in-some entries c i e =
    elim (cases_lt c (length entries)) [
      | inl low ↦ (same_Some c i (sym (in-place entries c low) ∙ e), low)
      | inr high ↦ let none = in-no_place entries c high in cc
    ]

pub place_in-none : (entries : List Entry) (c : ℕ) → place_in entries c ≡ None → length entries ≤ c
place_in-none entries c e =
    elim (cases_lt c (length entries)) [
      | inl low ↦ let some = in-place entries c low in cc
      | inr high ↦ high
    ]

pub place_before-some : (c i : ℕ) → place_before c ≡ Some i → c ≡ suc i
place_before-some zero i e = cc
place_before-some (suc c) i e = ap suc (same_Some c i e)

pub place_before-none : (c : ℕ) → place_before c ≡ None → c ≡ 0
place_before-none zero e = refl
place_before-none (suc c) e = cc

-- ---- words and tests

either : (v : Bool) → (v ≡ true) ⊎ (v ≡ false)
either true = inl refl
either false = inr refl

pub before-words_fail : (user : List ℕ) (seq : ℕ) (e : Entry) → is_before_target user seq e ≡ false → IsBeforeTarget user seq e → ⊥
before-words_fail user seq e fails words = let passes = before-from_words user seq e words in cc

pub before-fails : (user : List ℕ) (seq : ℕ) (e : Entry) → (IsBeforeTarget user seq e → ⊥) → is_before_target user seq e ≡ false
before-fails user seq e fails =
    elim (either (is_before_target user seq e)) [
      | inl passes ↦ absurd (fails (before-in_words user seq e passes))
      | inr failing ↦ failing
    ]

pub up_to-words_fail : (user : List ℕ) (seq : ℕ) (e : Entry) → is_up_to_target user seq e ≡ false → IsUpToTarget user seq e → ⊥
up_to-words_fail user seq e fails words = let passes = up_to-from_words user seq e words in cc

pub up_to-fails : (user : List ℕ) (seq : ℕ) (e : Entry) → (IsUpToTarget user seq e → ⊥) → is_up_to_target user seq e ≡ false
up_to-fails user seq e fails =
    elim (either (is_up_to_target user seq e)) [
      | inl passes ↦ absurd (fails (up_to-in_words user seq e passes))
      | inr failing ↦ failing
    ]

-- ---- the two counts of an ordered list

pub before-runs : (user : List ℕ) (seq : ℕ) (entries : List Entry) → IsOrdered entries → Runs (is_before_target user seq) entries
before-runs user seq entries o = runs (is_before_target user seq) (before-ahead user seq) entries o

pub up_to-runs : (user : List ℕ) (seq : ℕ) (entries : List Entry) → IsOrdered entries → Runs (is_up_to_target user seq) entries
up_to-runs user seq entries o = runs (is_up_to_target user seq) (up_to-ahead user seq) entries o

-- an entry ahead of the count is before the target, and one from there on isn't
pub below-ahead : (entries : List Entry) (user : List ℕ) (seq : ℕ) → IsOrdered entries → (j : ℕ) (e : Entry) → slice_get entries j ≡ Some e
    → j < below entries user seq → IsBeforeTarget user seq e
below-ahead entries user seq o j e at low = before-in_words user seq e (passes-ahead (is_before_target user seq) entries (before-runs user seq entries o) j e at low)

pub below-behind : (entries : List Entry) (user : List ℕ) (seq : ℕ) → IsOrdered entries → (j : ℕ) (e : Entry) → slice_get entries j ≡ Some e
    → below entries user seq ≤ j → IsBeforeTarget user seq e → ⊥
below-behind entries user seq o j e at high = before-words_fail user seq e (fails-behind (is_before_target user seq) entries (before-runs user seq entries o) j e at high)

pub below-from_before : (entries : List Entry) (user : List ℕ) (seq : ℕ) → IsOrdered entries → (j : ℕ) (e : Entry) → slice_get entries j ≡ Some e
    → IsBeforeTarget user seq e → j < below entries user seq
below-from_before entries user seq o j e at words = ahead-from_pass (is_before_target user seq) entries (before-runs user seq entries o) j e at (before-from_words user seq e words)

pub below-from_not_before : (entries : List Entry) (user : List ℕ) (seq : ℕ) → IsOrdered entries → (j : ℕ) (e : Entry) → slice_get entries j ≡ Some e
    → (IsBeforeTarget user seq e → ⊥) → below entries user seq ≤ j
below-from_not_before entries user seq o j e at fails = behind-from_fail (is_before_target user seq) entries (before-runs user seq entries o) j e at (before-fails user seq e fails)

pub up_to-ahead_of : (entries : List Entry) (user : List ℕ) (seq : ℕ) → IsOrdered entries → (j : ℕ) (e : Entry) → slice_get entries j ≡ Some e
    → j < up_to entries user seq → IsUpToTarget user seq e
up_to-ahead_of entries user seq o j e at low = up_to-in_words user seq e (passes-ahead (is_up_to_target user seq) entries (up_to-runs user seq entries o) j e at low)

pub up_to-behind : (entries : List Entry) (user : List ℕ) (seq : ℕ) → IsOrdered entries → (j : ℕ) (e : Entry) → slice_get entries j ≡ Some e
    → up_to entries user seq ≤ j → IsUpToTarget user seq e → ⊥
up_to-behind entries user seq o j e at high = up_to-words_fail user seq e (fails-behind (is_up_to_target user seq) entries (up_to-runs user seq entries o) j e at high)

pub up_to-from_words_at : (entries : List Entry) (user : List ℕ) (seq : ℕ) → IsOrdered entries → (j : ℕ) (e : Entry) → slice_get entries j ≡ Some e
    → IsUpToTarget user seq e → j < up_to entries user seq
up_to-from_words_at entries user seq o j e at words = ahead-from_pass (is_up_to_target user seq) entries (up_to-runs user seq entries o) j e at (up_to-from_words user seq e words)

-- ---- Seek

pub seek-some : (entries : List Entry) (user : List ℕ) (seq i : ℕ) → IsOrdered entries → seek_of entries user seq ≡ Some i
    → StandsAt (λ e. IsBeforeTarget user seq e → ⊥) entries i × EachAhead (IsBeforeTarget user seq) entries i
seek-some entries user seq i o lands =
    let is = place_in-some entries (below entries user seq) i lands in
    let here = stands entries i (omega (arith, is.0, is.1)) in (
      (here.0, here.1, below-behind entries user seq o i here.0 here.1 (omega (arith, is.0))),
      λ j e low at. below-ahead entries user seq o j e at (omega (arith, is.0)),
    )

pub seek-at : (entries : List Entry) (user : List ℕ) (seq i : ℕ) → IsOrdered entries
    → StandsAt (λ e. IsBeforeTarget user seq e → ⊥) entries i × EachAhead (IsBeforeTarget user seq) entries i → seek_of entries user seq ≡ Some i
seek-at entries user seq i o stand =
    let low : below entries user seq ≤ i = below-from_not_before entries user seq o i stand.0.0 stand.0.1 stand.0.2 in
    let within : i < length entries = slice_get_within entries i stand.0.0 stand.0.1 in
    let at : seek_of entries user seq ≡ Some (below entries user seq) = in-place entries (below entries user seq) (omega arith) in
    elim (cases_lt (below entries user seq) i) [
      | inl less ↦ (
          let there = stands entries (below entries user seq) (omega arith) in
          absurd (below-behind entries user seq o (below entries user seq) there.0 there.1 (omega arith) (stand.1 (below entries user seq) there.0 less there.1)))
      | inr high ↦ let same : below entries user seq ≡ i = omega arith in at ∙ ap Some same
    ]

pub seek-none : (entries : List Entry) (user : List ℕ) (seq : ℕ) → IsOrdered entries → seek_of entries user seq ≡ None → Each (IsBeforeTarget user seq) entries
seek-none entries user seq o none j e at =
    let high = place_in-none entries (below entries user seq) none in
    let within : j < length entries = slice_get_within entries j e at in
    below-ahead entries user seq o j e at (omega arith)

pub seek-nowhere : (entries : List Entry) (user : List ℕ) (seq : ℕ) → IsOrdered entries → Each (IsBeforeTarget user seq) entries → seek_of entries user seq ≡ None
seek-nowhere entries user seq o each =
    elim (cases_lt (below entries user seq) (length entries)) [
      | inl low ↦ (
          let there = stands entries (below entries user seq) low in
          absurd (below-behind entries user seq o (below entries user seq) there.0 there.1 (omega arith) (each (below entries user seq) there.0 there.1)))
      | inr high ↦ in-no_place entries (below entries user seq) high
    ]

-- ---- SeekForPrev

pub prev-some : (entries : List Entry) (user : List ℕ) (seq i : ℕ) → IsOrdered entries → seek_for_prev_of entries user seq ≡ Some i
    → StandsAt (IsUpToTarget user seq) entries i × EachBehind (λ e. IsUpToTarget user seq e → ⊥) entries i
prev-some entries user seq i o lands =
    let is : up_to entries user seq ≡ suc i = place_before-some (up_to entries user seq) i lands in
    let most : up_to entries user seq ≤ length entries = count-in_length (is_up_to_target user seq) entries in
    let here = stands entries i (omega arith) in (
      (here.0, here.1, up_to-ahead_of entries user seq o i here.0 here.1 (omega arith)),
      λ j e low at. up_to-behind entries user seq o j e at (omega arith),
    )

pub prev-at : (entries : List Entry) (user : List ℕ) (seq i : ℕ) → IsOrdered entries
    → StandsAt (IsUpToTarget user seq) entries i × EachBehind (λ e. IsUpToTarget user seq e → ⊥) entries i → seek_for_prev_of entries user seq ≡ Some i
prev-at entries user seq i o stand =
    let low : i < up_to entries user seq = up_to-from_words_at entries user seq o i stand.0.0 stand.0.1 stand.0.2 in
    let most : up_to entries user seq ≤ length entries = count-in_length (is_up_to_target user seq) entries in
    elim (cases_lt (suc i) (up_to entries user seq)) [
      | inl more ↦ (
          let next = stands entries (suc i) (omega arith) in
          absurd (stand.1 (suc i) next.0 (omega arith) next.1 (up_to-ahead_of entries user seq o (suc i) next.0 next.1 more)))
      | inr high ↦ let same : up_to entries user seq ≡ suc i = omega arith in ap place_before same
    ]

pub prev-none : (entries : List Entry) (user : List ℕ) (seq : ℕ) → IsOrdered entries → seek_for_prev_of entries user seq ≡ None
    → Each (λ e. IsUpToTarget user seq e → ⊥) entries
prev-none entries user seq o none j e at =
    let is : up_to entries user seq ≡ 0 = place_before-none (up_to entries user seq) none in
    up_to-behind entries user seq o j e at (omega arith)

pub prev-nowhere : (entries : List Entry) (user : List ℕ) (seq : ℕ) → IsOrdered entries → Each (λ e. IsUpToTarget user seq e → ⊥) entries
    → seek_for_prev_of entries user seq ≡ None
prev-nowhere entries user seq o each =
    let most : up_to entries user seq ≤ length entries = count-in_length (is_up_to_target user seq) entries in
    elim (cases_lt 0 (up_to entries user seq)) [
      | inl more ↦ (
          let first = stands entries 0 (omega arith) in
          absurd (each 0 first.0 first.1 (up_to-ahead_of entries user seq o 0 first.0 first.1 more)))
      | inr high ↦ let same : up_to entries user seq ≡ 0 = omega arith in ap place_before same
    ]
