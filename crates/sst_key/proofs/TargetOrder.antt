-- How the entries of an ordered list stand to a target: those before it come first.
use Rattle.std.proofs.Common.{◌≡◌, ◌⊎◌, ℕ, ◌<◌, ◌≤◌, true, List, refl, sym, ap, ◌∙◌, inl, inr, arith}
use Rattle.std.specs.Ordering.{nat_cmp, ordering_then, is_lt, is_le}
use Rattle.std.specs.Cmp.Lexicographic.{slice_cmp}
use Rattle.std.specs.Cmp.{nat_cmp_is, ranked, IsTotalOrder}
use Rattle.std.specs.FinMap.{slice_cmp-IsAntisymmetric, nat_cmp-IsAntisymmetric}
use Rattle.std.proofs.lemmas.Cmp.{nat_list_cmp_total}
use Rattle.std.proofs.lemmas.Map.Keys.{le_from_is_le}
use Rattle.std.specs.declared.cmp.Ordering.{Ordering}
use Rattle.std.specs.declared.cmp.Ordering.TheVariants.{Less, Equal, Greater}
use Rattle.sst_key.specs.declared.entries.Kind.{Kind}
use Rattle.sst_key.specs.declared.entries.Kind.TheVariants.{Deletion, Value, Merge, SingleDeletion}
use Rattle.sst_key.specs.declared.entries.Entry.{Entry}
use Rattle.sst_key.specs.Entry.{kind_number, tag, IsBefore}
use Rattle.sst_key.specs.ListMachine.{is_before_target, is_up_to_target}
use Rattle.sst_key.specs.ListLaws.{IsBeforeTarget, IsUpToTarget}
use Rattle.sst_key.proofs.KeyParts.{slice_cmp-same}

lt-from : (s t : ℕ) → is_lt (nat_cmp s t) ≡ true → s < t
lt-from s t h =
    elim (nat_cmp s t) as (λ r. r ≡ nat_cmp s t → is_lt r ≡ true → s < t) [
      | Less ↦ λ is _. ranked s t Less is
      | Equal ↦ λ is fails. cc
      | Greater ↦ λ is fails. cc
    ] refl h

before-cases : (r : Ordering) (s t : ℕ) → is_lt (ordering_then r (nat_cmp s t)) ≡ true → (r ≡ Less) ⊎ ((r ≡ Equal) × (s < t))
before-cases Less s t h = inl refl
before-cases Equal s t h = inr (refl, lt-from s t h)
before-cases Greater s t h = cc

up_to-cases : (r : Ordering) (s t : ℕ) → is_le (ordering_then r (nat_cmp s t)) ≡ true → (r ≡ Less) ⊎ ((r ≡ Equal) × (s ≤ t))
up_to-cases Less s t h = inl refl
up_to-cases Equal s t h = inr (refl, le_from_is_le s t h)
up_to-cases Greater s t h = cc

is_le-from : (s t : ℕ) → s ≤ t → is_le (nat_cmp s t) ≡ true
is_le-from s t h =
    elim (nat_cmp s t) as (λ r. r ≡ nat_cmp s t → is_le r ≡ true) [
      | Less ↦ λ is. refl
      | Equal ↦ λ is. refl
      | Greater ↦ λ is. let more : t < s = ranked s t Greater is in absurd (omega arith)
    ] refl

same-users : (a b : List ℕ) → slice_cmp nat_cmp a b ≡ Equal → a ≡ b
same-users a b e = slice_cmp-IsAntisymmetric nat_cmp-IsAntisymmetric a b e

pub tied-users : (a b : List ℕ) → a ≡ b → slice_cmp nat_cmp a b ≡ Equal
tied-users a b e = ap (λ (u : List ℕ). slice_cmp nat_cmp u b) e ∙ slice_cmp-same b

-- the test says what the words say
pub before-in_words : (user : List ℕ) (seq : ℕ) (e : Entry) → is_before_target user seq e ≡ true → IsBeforeTarget user seq e
before-in_words user seq e h =
    elim (before-cases (slice_cmp nat_cmp e.user user) seq e.seq h) [
      | inl less ↦ inl less
      | inr tied ↦ inr (same-users e.user user tied.0, tied.1)
    ]

pub before-from_words : (user : List ℕ) (seq : ℕ) (e : Entry) → IsBeforeTarget user seq e → is_before_target user seq e ≡ true
before-from_words user seq e (inl less) = rw less refl
before-from_words user seq e (inr tied) =
    let same = tied-users e.user user tied.0 in
    rw same (ap is_lt (sym (nat_cmp_is seq e.seq Less tied.1)))

pub up_to-in_words : (user : List ℕ) (seq : ℕ) (e : Entry) → is_up_to_target user seq e ≡ true → IsUpToTarget user seq e
up_to-in_words user seq e h =
    elim (up_to-cases (slice_cmp nat_cmp e.user user) seq e.seq h) [
      | inl less ↦ inl less
      | inr tied ↦ inr (same-users e.user user tied.0, tied.1)
    ]

pub up_to-from_words : (user : List ℕ) (seq : ℕ) (e : Entry) → IsUpToTarget user seq e → is_up_to_target user seq e ≡ true
up_to-from_words user seq e (inl less) = rw less refl
up_to-from_words user seq e (inr tied) =
    let same = tied-users e.user user tied.0 in
    rw same (is_le-from seq e.seq tied.1)

kind_number-small : (kind : Kind) → kind_number kind ≤ 7
kind_number-small Deletion = omega arith
kind_number-small Value = omega arith
kind_number-small Merge = omega arith
kind_number-small SingleDeletion = omega arith

-- a greater tag has no smaller sequence number
pub seq-from_tag : (s t : ℕ) (k l : Kind) → tag s k < tag t l → s ≤ t
seq-from_tag s t k l h = let a = kind_number-small k in let b = kind_number-small l in omega arith

users : IsTotalOrder (slice_cmp nat_cmp)
users = nat_list_cmp_total

-- what is before an entry that is before the target, or up to it, is so too: `Newer` says what the sequence number is
words-ahead : (Newer : ℕ → Type 0) → ((m n : ℕ) → m ≤ n → Newer m → Newer n) → (user : List ℕ) (a b : Entry) → IsBefore a b
    → (slice_cmp nat_cmp b.user user ≡ Less) ⊎ ((b.user ≡ user) × Newer b.seq) → (slice_cmp nat_cmp a.user user ≡ Less) ⊎ ((a.user ≡ user) × Newer a.seq)
words-ahead Newer grows user a b (inl less) (inl next) = inl (users.trans a.user b.user user less next)
words-ahead Newer grows user a b (inl less) (inr next) = inl (sym (ap (slice_cmp nat_cmp a.user) next.0) ∙ less)
words-ahead Newer grows user a b (inr same) (inl next) = inl (ap (λ (u : List ℕ). slice_cmp nat_cmp u user) same.0 ∙ next)
words-ahead Newer grows user a b (inr same) (inr next) =
    inr (same.0 ∙ next.0, grows b.seq a.seq (seq-from_tag b.seq a.seq b.kind a.kind same.1) next.1)

pub before-ahead : (user : List ℕ) (seq : ℕ) (a b : Entry) → IsBefore a b → is_before_target user seq b ≡ true → is_before_target user seq a ≡ true
before-ahead user seq a b before h = before-from_words user seq a (words-ahead (λ n. seq < n) (λ m n more h. omega arith) user a b before (before-in_words user seq b h))

pub up_to-ahead : (user : List ℕ) (seq : ℕ) (a b : Entry) → IsBefore a b → is_up_to_target user seq b ≡ true → is_up_to_target user seq a ≡ true
up_to-ahead user seq a b before h = up_to-from_words user seq a (words-ahead (λ n. seq ≤ n) (λ m n more h. omega arith) user a b before (up_to-in_words user seq b h))

pub IsBefore-trans : (a b c : Entry) → IsBefore a b → IsBefore b c → IsBefore a c
IsBefore-trans a b c (inl less) (inl next) = inl (users.trans a.user b.user c.user less next)
IsBefore-trans a b c (inl less) (inr next) = inl (sym (ap (slice_cmp nat_cmp a.user) next.0) ∙ less)
IsBefore-trans a b c (inr same) (inl next) = inl (ap (λ (u : List ℕ). slice_cmp nat_cmp u c.user) same.0 ∙ next)
IsBefore-trans a b c (inr same) (inr next) = inr (same.0 ∙ next.0, omega (arith, same.1, next.1))
