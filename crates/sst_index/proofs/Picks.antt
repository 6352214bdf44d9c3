-- The part of a user key is at the first pair that isn't before it, which is where a seek goes.
use Rattle.std.proofs.Common.{◌≡◌, ◌≢◌, ◌⊎◌, inl, inr, ℕ, zero, suc, ◌^◌, ◌<◌, ◌≤◌, nat_lt, if◌then◌else◌, Bool, true, false, bytes_eq, Option, None, Some, List, [], ◌∷◌, ◌++◌, length, All, refl, sym, ap, ◌∙◌, subst, arith}
use Rattle.std.specs.Prelude.{◌↔◌, slice_get}
use Rattle.std.proofs.lemmas.Bool.{ltb-false, false_from_ne_true}
use Rattle.std.proofs.lemmas.List.Elements.{All-nil, All-cons, All-head, All-tail}
use Rattle.std.proofs.lemmas.Option.{same_Some, slice_get_past, slice_get_within, get_or_from_slice_get}
use Rattle.std.proofs.lemmas.Slice.Eq.{bytes_eq-Decides}
use Rattle.sst_num.specs.declared.block_handle.Handle.{Handle}
use Rattle.sst_key.specs.InternalKey.{user_of}
use Rattle.sst_block.specs.Block.{Row, IsRow, no_handle}
use Rattle.sst_block.specs.IndexRows.{IndexPair, IndexRows}
use Rattle.sst_block.specs.declared.row_form.RowForm.TheVariants.{Index}
use Rattle.sst_index.specs.declared.flags.IndexFlags.{IndexFlags}
use Rattle.sst_index.specs.declared.pick.Pick.{Pick}
use Rattle.sst_index.specs.declared.pick.Pick.TheVariants.{Part, Unsure, Beyond}
use Rattle.sst_index.specs.IndexBlock.{form_of}
use Rattle.sst_index.specs.Pick.{greatest_tag, is_before_user, part_at, part_of, AreBeforeUser, IsFirstNotBefore}
use Rattle.sst_index.specs.Walk.{pairs_before}
use Rattle.sst_index.proofs.PairWalks.{pair-before, pair-not, pair-row}

all-get : (P : Row → Type 0) (rows : List Row) (i : ℕ) (row : Row) → All P rows → slice_get rows i ≡ Some row → P row
all-get P rows i row all at = subst P (get_or_from_slice_get rows i row row at) (all i row (slice_get_within rows i row at))

-- a stored separator of an index block has room for a tag
long-key : (user_key delta : Bool) (row : Row) → user_key ≡ false → IsRow (Index user_key delta) row → 8 ≤ length row.key
long-key true delta row stored is = cc
long-key false true row stored is = is.1
long-key false false row stored is = is.1.0

pub stored-long : (flags : IndexFlags) (bytes : List ℕ) (pairs : List IndexPair) (i : ℕ) (pair : IndexPair) → IndexRows flags.user_key flags.delta bytes pairs
    → flags.user_key ≡ false → slice_get pairs i ≡ Some pair → 8 ≤ length pair.separator
stored-long flags bytes pairs i pair r stored at =
    let (row, there, same) = pair-row flags.delta no_handle r.block.spelled pairs i pair r.says at in
    let found : slice_get r.rows i ≡ Some row = ap (λ (l : List Row). slice_get l i) (sym r.block.are_rows) ∙ there in
    let long = long-key flags.user_key flags.delta row stored (all-get (IsRow (form_of flags)) r.rows i row r.block.forms found) in
    subst (λ (key : List ℕ). 8 ≤ length key) same long

-- what the code answers of the pair where it stands
pub taken-user : (user_key : Bool) (user : List ℕ) (pairs : List IndexPair) (i : ℕ) (handle : Handle) → user_key ≡ true
    → (pair : IndexPair) × (slice_get pairs i ≡ Some pair) × (handle ≡ pair.handle) → (pair : IndexPair) × (slice_get pairs i ≡ Some pair) × (Part handle ≡ part_at user_key user pair)
taken-user true user pairs i handle alone (pair, at, is) = (pair, at, ap Part is)
taken-user false user pairs i handle alone found = cc

pub taken-stored : (user_key : Bool) (user key own : List ℕ) (pairs : List IndexPair) (i : ℕ) (pick : Pick) → user_key ≡ false → own ≡ user_of key
    → (pair : IndexPair) × (slice_get pairs i ≡ Some pair) × (key ≡ pair.separator)
    → ((pair : IndexPair) → slice_get pairs i ≡ Some pair → pick ≡ (if bytes_eq own user then Unsure else Part pair.handle))
    → (pair : IndexPair) × (slice_get pairs i ≡ Some pair) × (pick ≡ part_at user_key user pair)
taken-stored true user key own pairs i pick stored own_is found says = cc
taken-stored false user key own pairs i pick stored own_is (pair, at, is) says =
    let same : own ≡ user_of pair.separator = own_is ∙ ap user_of is in
    (pair, at, says pair at ∙ ap (λ (k : List ℕ). if bytes_eq k user then Unsure else Part pair.handle) same)

pub one-pair : (pairs : List IndexPair) (i : ℕ) (handle : Handle) (pair : IndexPair) → (p : IndexPair) × (slice_get pairs i ≡ Some p) × (handle ≡ p.handle)
    → slice_get pairs i ≡ Some pair → handle ≡ pair.handle
one-pair pairs i handle pair (p, at, is) there = is ∙ ap (λ (q : IndexPair). q.handle) (same_Some p pair (sym at ∙ there))

-- what a pair says, if there is one
abbrev pub of_pair : Bool → List ℕ → Option IndexPair → Pick
of_pair user_key user None = Beyond
of_pair user_key user (Some pair) = part_at user_key user pair

-- the pairs before the user key are those in front of the n-th
record Splits (user_key : Bool) (user : List ℕ) (pairs : List IndexPair) (n : ℕ) : Type 0 where
  before : (i : ℕ) (pair : IndexPair) → slice_get pairs i ≡ Some pair → is_before_user user_key user pair ≡ true → i < n
  not : (i : ℕ) (pair : IndexPair) → slice_get pairs i ≡ Some pair → is_before_user user_key user pair ≡ false → n ≤ i

-- so the part is that of the n-th
Picked : Bool → List ℕ → List IndexPair → Type 0
Picked user_key user pairs = (n : ℕ) → Splits user_key user pairs n → part_of user_key user pairs ≡ of_pair user_key user (slice_get pairs n)

step : (user_key : Bool) (user : List ℕ) (p : IndexPair) (pairs : List IndexPair) (n : ℕ) (here : Bool) → Picked user_key user pairs → is_before_user user_key user p ≡ here → Splits user_key user (p ∷ pairs) n
    → (if here then part_of user_key user pairs else part_at user_key user p) ≡ of_pair user_key user (slice_get (p ∷ pairs) n)
unfolding Picked
step user_key user p pairs zero true rest is splits = let low = splits.before 0 p refl is in absurd (omega (arith, low))
step user_key user p pairs (suc m) true rest is splits =
    rest m (record {
      before = λ i pair at yes. let low = splits.before (suc i) pair at yes in omega (arith, low);
      not = λ i pair at no. let high = splits.not (suc i) pair at no in omega (arith, high);
    })
step user_key user p pairs n false rest is splits =
    let high = splits.not 0 p refl is in
    let none : n ≡ 0 = omega (arith, high) in
    rw none refl

picked : (user_key : Bool) (user : List ℕ) (pairs : List IndexPair) → Picked user_key user pairs
unfolding Picked
picked user_key user [] = λ n splits. refl
picked user_key user (p ∷ pairs) = λ n splits. step user_key user p pairs n (is_before_user user_key user p) (picked user_key user pairs) refl splits

picked-at : (user_key : Bool) (user : List ℕ) (pairs : List IndexPair) (n : ℕ) → Splits user_key user pairs n → part_of user_key user pairs ≡ of_pair user_key user (slice_get pairs n)
unfolding Picked
picked-at user_key user pairs n splits = picked user_key user pairs n splits

pub sought : (flags : IndexFlags) (bytes : List ℕ) (pairs : List IndexPair) (user : List ℕ) → IndexRows flags.user_key flags.delta bytes pairs
    → part_of flags.user_key user pairs ≡ of_pair flags.user_key user (slice_get pairs (pairs_before flags.user_key user greatest_tag pairs))
sought flags bytes pairs user r =
    let fits : greatest_tag < 2 ^ 64 = omega arith in
    picked-at flags.user_key user pairs (pairs_before flags.user_key user greatest_tag pairs) (record {
      before = λ i pair at yes. pair-before flags bytes pairs user greatest_tag i pair r fits at yes;
      not = λ i pair at no. pair-not flags bytes pairs user greatest_tag i pair r fits at no;
    })

-- where the walk stands there
pub sought-there : (flags : IndexFlags) (bytes : List ℕ) (pairs : List IndexPair) (user : List ℕ) (pick : Pick) → IndexRows flags.user_key flags.delta bytes pairs
    → (pair : IndexPair) × (slice_get pairs (pairs_before flags.user_key user greatest_tag pairs) ≡ Some pair) × (pick ≡ part_at flags.user_key user pair)
    → pick ≡ part_of flags.user_key user pairs
sought-there flags bytes pairs user pick r (pair, at, is) = is ∙ ap (of_pair flags.user_key user) (sym at) ∙ sym (sought flags bytes pairs user r)

-- and where it stands nowhere
pub sought-nowhere : (flags : IndexFlags) (bytes : List ℕ) (pairs : List IndexPair) (user : List ℕ) → IndexRows flags.user_key flags.delta bytes pairs
    → nat_lt (pairs_before flags.user_key user greatest_tag pairs) (length pairs) ≡ false → Beyond ≡ part_of flags.user_key user pairs
sought-nowhere flags bytes pairs user r none =
    let n = pairs_before flags.user_key user greatest_tag pairs in
    let past = slice_get_past pairs n (ltb-false n (length pairs) none) in
    ap (of_pair flags.user_key user) (sym past) ∙ sym (sought flags bytes pairs user r)

-- all pairs are before a user key, or one is the first that isn't
abbrev pub Falls : Bool → List ℕ → List IndexPair → Type 0
Falls user_key user pairs =
    (AreBeforeUser user_key user pairs × (part_of user_key user pairs ≡ Beyond))
    ⊎ ((pair : IndexPair) × IsFirstNotBefore user_key user pairs pair × (part_of user_key user pairs ≡ part_at user_key user pair))

falls-step : (user_key : Bool) (user : List ℕ) (p : IndexPair) (pairs : List IndexPair) (here : Bool) → is_before_user user_key user p ≡ here → Falls user_key user pairs → Falls user_key user (p ∷ pairs)
falls-step user_key user p pairs false is rest =
    inr (p, record { front = []; behind = pairs; joined = refl; before = All-nil (λ (pair : IndexPair). is_before_user user_key user pair ≡ true); not = is }, rw is refl)
falls-step user_key user p pairs true is (inl (all, beyond)) =
    inl (All-cons (λ (pair : IndexPair). is_before_user user_key user pair ≡ true) p pairs is all, rw is beyond)
falls-step user_key user p pairs true is (inr (pair, first, same)) =
    inr (
      pair,
      record {
        front = p ∷ first.front;
        behind = first.behind;
        joined = ap (λ (l : List IndexPair). p ∷ l) first.joined;
        before = All-cons (λ (q : IndexPair). is_before_user user_key user q ≡ true) p first.front is first.before;
        not = first.not;
      },
      rw is same,
    )

falls : (user_key : Bool) (user : List ℕ) (pairs : List IndexPair) → Falls user_key user pairs
falls user_key user [] = inl (All-nil (λ (pair : IndexPair). is_before_user user_key user pair ≡ true), refl)
falls user_key user (p ∷ pairs) = falls-step user_key user p pairs (is_before_user user_key user p) refl (falls user_key user pairs)

-- what comes behind pairs that are before the user key decides
passes : (user_key : Bool) (user : List ℕ) (front rest : List IndexPair) → AreBeforeUser user_key user front → part_of user_key user (front ++ rest) ≡ part_of user_key user rest
passes user_key user [] rest all = refl
passes user_key user (p ∷ front) rest all =
    let here = All-head (λ (pair : IndexPair). is_before_user user_key user pair ≡ true) p front all in
    rw here (passes user_key user front rest (All-tail (λ (pair : IndexPair). is_before_user user_key user pair ≡ true) p front all))

first-says : (user_key : Bool) (user : List ℕ) (pairs : List IndexPair) (pair : IndexPair) → IsFirstNotBefore user_key user pairs pair → part_of user_key user pairs ≡ part_at user_key user pair
first-says user_key user pairs pair first =
    let not = first.not in
    let here : part_of user_key user (pair ∷ first.behind) ≡ part_at user_key user pair = rw not refl in
    ap (part_of user_key user) first.joined ∙ passes user_key user first.front (pair ∷ first.behind) first.before ∙ here

all-beyond : (user_key : Bool) (user : List ℕ) (pairs : List IndexPair) → AreBeforeUser user_key user pairs → part_of user_key user pairs ≡ Beyond
all-beyond user_key user [] all = refl
all-beyond user_key user (p ∷ pairs) all =
    let here = All-head (λ (pair : IndexPair). is_before_user user_key user pair ≡ true) p pairs all in
    rw here (all-beyond user_key user pairs (All-tail (λ (pair : IndexPair). is_before_user user_key user pair ≡ true) p pairs all))

-- which of the three a pair says
at-part-stored : (user : List ℕ) (pair : IndexPair) (handle : Handle) (test : Bool) → bytes_eq (user_of pair.separator) user ≡ test → (if test then Unsure else Part pair.handle) ≡ Part handle
    → (pair.handle ≡ handle) × (false ≡ false → user_of pair.separator ≢ user)
at-part-stored user pair handle true e is = cc
at-part-stored user pair handle false e is =
    (cc, λ stored same. let yes : bytes_eq (user_of pair.separator) user ≡ true = (bytes_eq-Decides (user_of pair.separator) user).1 same in cc)

at-part : (user_key : Bool) (user : List ℕ) (pair : IndexPair) (handle : Handle) → part_at user_key user pair ≡ Part handle
    → (pair.handle ≡ handle) × (user_key ≡ false → user_of pair.separator ≢ user)
at-part true user pair handle is = (cc, λ stored. cc)
at-part false user pair handle is = at-part-stored user pair handle (bytes_eq (user_of pair.separator) user) refl is

part-at : (user_key : Bool) (user : List ℕ) (pair : IndexPair) → (user_key ≡ false → user_of pair.separator ≢ user) → part_at user_key user pair ≡ Part pair.handle
part-at true user pair other = refl
part-at false user pair other =
    let test = false_from_ne_true (bytes_eq (user_of pair.separator) user) (λ yes. other refl ((bytes_eq-Decides (user_of pair.separator) user).0 yes)) in
    rw test refl

at-unsure-stored : (user : List ℕ) (pair : IndexPair) (test : Bool) → bytes_eq (user_of pair.separator) user ≡ test → (if test then Unsure else Part pair.handle) ≡ Unsure
    → user_of pair.separator ≡ user
at-unsure-stored user pair true e is = (bytes_eq-Decides (user_of pair.separator) user).0 e
at-unsure-stored user pair false e is = cc

at-unsure : (user_key : Bool) (user : List ℕ) (pair : IndexPair) → part_at user_key user pair ≡ Unsure → (user_key ≡ false) × (user_of pair.separator ≡ user)
at-unsure true user pair is = cc
at-unsure false user pair is = (refl, at-unsure-stored user pair (bytes_eq (user_of pair.separator) user) refl is)

unsure-at : (user_key : Bool) (user : List ℕ) (pair : IndexPair) → user_key ≡ false → user_of pair.separator ≡ user → part_at user_key user pair ≡ Unsure
unsure-at true user pair stored same = cc
unsure-at false user pair stored same = let test = (bytes_eq-Decides (user_of pair.separator) user).1 same in rw test refl

at-beyond : (user_key : Bool) (user : List ℕ) (pair : IndexPair) (test : Bool) → bytes_eq (user_of pair.separator) user ≡ test → part_at user_key user pair ≢ Beyond
at-beyond true user pair test e is = cc
at-beyond false user pair true e is = let other = rw e at is in cc
at-beyond false user pair false e is = let other = rw e at is in cc

-- the law
pub part-first : (user_key : Bool) (user : List ℕ) (pairs : List IndexPair) (handle : Handle)
    → (part_of user_key user pairs ≡ Part handle) ↔ ((pair : IndexPair) × IsFirstNotBefore user_key user pairs pair × (pair.handle ≡ handle) × (user_key ≡ false → user_of pair.separator ≢ user))
part-first user_key user pairs handle = (
  λ is. elim (falls user_key user pairs) as (λ w. (pair : IndexPair) × IsFirstNotBefore user_key user pairs pair × (pair.handle ≡ handle) × (user_key ≡ false → user_of pair.separator ≢ user)) [
    | inl w ↦ cc
    | inr w ↦ let at = at-part user_key user w.0 handle (sym w.2 ∙ is) in (w.0, w.1, at.0, at.1)
  ],
  λ w. first-says user_key user pairs w.0 w.1 ∙ part-at user_key user w.0 w.3 ∙ ap Part w.2,
)

pub unsure-first : (user_key : Bool) (user : List ℕ) (pairs : List IndexPair)
    → (part_of user_key user pairs ≡ Unsure) ↔ ((pair : IndexPair) × IsFirstNotBefore user_key user pairs pair × (user_key ≡ false) × (user_of pair.separator ≡ user))
unsure-first user_key user pairs = (
  λ is. elim (falls user_key user pairs) as (λ w. (pair : IndexPair) × IsFirstNotBefore user_key user pairs pair × (user_key ≡ false) × (user_of pair.separator ≡ user)) [
    | inl w ↦ cc
    | inr w ↦ let at = at-unsure user_key user w.0 (sym w.2 ∙ is) in (w.0, w.1, at.0, at.1)
  ],
  λ w. first-says user_key user pairs w.0 w.1 ∙ unsure-at user_key user w.0 w.2 w.3,
)

pub beyond-all : (user_key : Bool) (user : List ℕ) (pairs : List IndexPair) → (part_of user_key user pairs ≡ Beyond) ↔ AreBeforeUser user_key user pairs
beyond-all user_key user pairs = (
  λ is. elim (falls user_key user pairs) as (λ w. AreBeforeUser user_key user pairs) [
    | inl w ↦ w.0
    | inr w ↦ absurd (at-beyond user_key user w.0 (bytes_eq (user_of w.0.separator) user) refl (sym w.2 ∙ is))
  ],
  λ all. all-beyond user_key user pairs all,
)
