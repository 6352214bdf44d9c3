-- The part that is picked for a user key of a filter is the one that has it.
use Rattle.std.proofs.Common.{◌≡◌, ◌≢◌, ◌⊎◌, inl, inr, ℕ, zero, suc, ◌+◌, ◌^◌, ◌<◌, ◌≤◌, Bool, true, false, bytes_eq, Option, None, Some, List, [], ◌∷◌, length, refl, sym, ap, ◌∙◌, subst, arith}
use Rattle.std.specs.Prelude.{slice_get, Contains}
use Rattle.std.specs.Ordering.{nat_cmp, is_lt, ordering_then}
use Rattle.std.specs.Cmp.{ranked}
use Rattle.std.specs.Cmp.Lexicographic.{slice_cmp}
use Rattle.std.specs.FinMap.{slice_cmp-IsAntisymmetric, nat_cmp-IsAntisymmetric}
use Rattle.std.specs.declared.cmp.Ordering.{Ordering}
use Rattle.std.specs.declared.cmp.Ordering.TheVariants.{Less, Equal, Greater}
use Rattle.std.proofs.lemmas.Cmp.{nat_list_cmp_total}
use Rattle.std.proofs.lemmas.List.Elements.{All-contains}
use Rattle.std.proofs.lemmas.Option.{same_Some}
use Rattle.std.proofs.lemmas.Slice.Eq.{bytes_eq-Decides}
use Rattle.sst_num.specs.declared.block_handle.Handle.{Handle}
use Rattle.sst_key.specs.InternalKey.{user_of, tag_of, internal_cmp}
use Rattle.sst_bloom.specs.Builder.{key_limit}
use Rattle.sst_bloom.specs.Filter.{bloom_filter}
use Rattle.sst_bloom.specs.Reading.{denies}
use Rattle.sst_bloom.proofs.Own.{added_is_not_denied}
use Rattle.sst_block.specs.IndexRows.{IndexPair}
use Rattle.sst_index.specs.declared.pick.Pick.TheVariants.{Part, Unsure, Beyond}
use Rattle.sst_index.specs.FilterBytes.{filter_pairs, stored_size}
use Rattle.sst_index.specs.FilterKeys.{IsBehindSeparator, IsBetween, IsNextSeparator, FitParts, separator_user}
use Rattle.sst_index.specs.Pick.{greatest_tag, is_before_user, part_at, part_of}
use Rattle.sst_index.proofs.Kept.{user-up_to}
use Rattle.sst_index.proofs.Order.{less_up_to}

-- what isn't before the next isn't before those behind that
up_to_up_to : (a b c : List ℕ) → slice_cmp nat_cmp a b ≢ Greater → slice_cmp nat_cmp b c ≢ Greater → slice_cmp nat_cmp a c ≢ Greater
up_to_up_to a b c first second =
    let cmp = slice_cmp nat_cmp in
    elim (cmp a b) as (λ r. cmp a b ≡ r → cmp a c ≢ Greater) [
      | Less ↦ λ e more. let less = less_up_to cmp nat_list_cmp_total a b c e second in cc
      | Equal ↦ λ e more. second (sym (nat_list_cmp_total.congr a b c e) ∙ more)
      | Greater ↦ λ e. absurd (first e)
    ] refl

-- a user key behind a separator is behind those in front of that
earlier : (user_key : Bool) (first second user : List ℕ) → IsNextSeparator user_key (Some first) second → IsBehindSeparator user_key (Some second) user
    → IsBehindSeparator user_key (Some first) user
earlier true first second user next behind = nat_list_cmp_total.trans first second user next behind
earlier false first second user next behind =
    let less : internal_cmp first second ≢ Greater = λ more. cc in
    up_to_up_to (user_of first) (user_of second) user (user-up_to first second less) behind

behind-all : (user_key : Bool) (front : List ℕ) (separators : List (List ℕ)) (parts : List (List (List ℕ))) (i : ℕ) (part : List (List ℕ)) (user : List ℕ)
    → FitParts user_key (Some front) separators parts → slice_get parts i ≡ Some part → Contains part user → IsBehindSeparator user_key (Some front) user
behind-all user_key front [] parts i part user fit at has =
    let none : slice_get parts i ≡ None = ap (λ (l : List (List (List ℕ))). slice_get l i) fit in
    cc
behind-all user_key front (s ∷ separators) [] i part user fit at has = absurd fit
behind-all user_key front (s ∷ separators) (p ∷ parts) zero part user fit at has =
    let same : p ≡ part = same_Some p part at in
    (All-contains (IsBetween user_key (Some front) s) p user fit.0.between (subst (λ (l : List (List ℕ)). Contains l user) (sym same) has)).behind
behind-all user_key front (s ∷ separators) (p ∷ parts) (suc i) part user fit at has =
    earlier user_key front s user fit.0.next (behind-all user_key s separators parts i part user fit.1 at has)

-- a separator that isn't before a user key isn't before it with the greatest tag
not-less : (r : Ordering) → r ≢ Less → is_lt r ≡ false
not-less Less other = absurd (other refl)
not-less Equal other = refl
not-less Greater other = refl

not-lower : (tag : ℕ) → tag < 2 ^ 64 → nat_cmp greatest_tag tag ≢ Less
not-lower tag fits less = let more = ranked greatest_tag tag Less (sym less) in omega (arith, more, fits)

then-not : (r : Ordering) (tag : ℕ) → r ≢ Less → tag < 2 ^ 64 → is_lt (ordering_then r (nat_cmp greatest_tag tag)) ≡ false
then-not Less tag other fits = absurd (other refl)
then-not Equal tag other fits = not-less (nat_cmp greatest_tag tag) (not-lower tag fits)
then-not Greater tag other fits = refl

not-before : (user_key : Bool) (user : List ℕ) (pair : IndexPair) → (user_key ≡ false → tag_of pair.separator < 2 ^ 64)
    → slice_cmp nat_cmp (separator_user user_key pair.separator) user ≢ Less → is_before_user user_key user pair ≡ false
not-before true user pair tagged within = not-less (slice_cmp nat_cmp pair.separator user) within
not-before false user pair tagged within = then-not (slice_cmp nat_cmp (user_of pair.separator) user) (tag_of pair.separator) within (tagged refl)

-- one that is of another part isn't before a user key only where it is of that user key
less-then : (r : Ordering) (tag : ℕ) → is_lt (ordering_then r (nat_cmp greatest_tag tag)) ≡ false → r ≢ Greater → r ≡ Equal
less-then Less tag not most = cc
less-then Equal tag not most = refl
less-then Greater tag not most = absurd (most refl)

own-open : (user_key : Bool) (user : List ℕ) (pair : IndexPair) → is_before_user user_key user pair ≡ false → IsBehindSeparator user_key (Some pair.separator) user
    → part_at user_key user pair ≡ Unsure
own-open true user pair not behind = let less : is_lt (slice_cmp nat_cmp pair.separator user) ≡ true = ap is_lt behind in cc
own-open false user pair not behind =
    let tied = less-then (slice_cmp nat_cmp (user_of pair.separator) user) (tag_of pair.separator) not behind in
    let same = slice_cmp-IsAntisymmetric nat_cmp-IsAntisymmetric (user_of pair.separator) user tied in
    let test = (bytes_eq-Decides (user_of pair.separator) user).1 same in
    rw test refl

part-or-open : (user_key : Bool) (user : List ℕ) (pair : IndexPair) (test : Bool) → bytes_eq (user_of pair.separator) user ≡ test
    → (part_at user_key user pair ≡ Unsure) ⊎ (part_at user_key user pair ≡ Part pair.handle)
part-or-open true user pair test e = inr refl
part-or-open false user pair true e = inl (rw e refl)
part-or-open false user pair false e = inr (rw e refl)

-- what is picked for a user key of a part: nothing, or this part
Picks : Bool → List ℕ → List IndexPair → ℕ → Type 0
Picks user_key user pairs i =
    (part_of user_key user pairs ≡ Unsure) ⊎ ((pair : IndexPair) × (slice_get pairs i ≡ Some pair) × (part_of user_key user pairs ≡ Part pair.handle))

picks-first : (user_key : Bool) (user : List ℕ) (pair : IndexPair) (pairs : List IndexPair) → is_before_user user_key user pair ≡ false
    → (part_at user_key user pair ≡ Unsure) ⊎ (part_at user_key user pair ≡ Part pair.handle) → Picks user_key user (pair ∷ pairs) 0
unfolding Picks
picks-first user_key user pair pairs not (inl open_) = inl (rw not open_)
picks-first user_key user pair pairs not (inr is) = inr (pair, refl, rw not is)

picks-later : (user_key : Bool) (user : List ℕ) (pair : IndexPair) (pairs : List IndexPair) (i : ℕ) (test : Bool) → is_before_user user_key user pair ≡ test
    → IsBehindSeparator user_key (Some pair.separator) user → Picks user_key user pairs i → Picks user_key user (pair ∷ pairs) (suc i)
unfolding Picks
picks-later user_key user pair pairs i false e behind rest = inl (rw e (own-open user_key user pair e behind))
picks-later user_key user pair pairs i true e behind (inl is) = inl (rw e is)
picks-later user_key user pair pairs i true e behind (inr (found, at, is)) = inr (found, at, rw e is)

picks : (user_key : Bool) (bits at : ℕ) (front : Option (List ℕ)) (separators : List (List ℕ)) (parts : List (List (List ℕ))) (i : ℕ) (part : List (List ℕ)) (user : List ℕ)
    → FitParts user_key front separators parts → slice_get parts i ≡ Some part → Contains part user → Picks user_key user (filter_pairs bits at separators parts) i
picks user_key bits at front [] parts i part user fit there has =
    let none : slice_get parts i ≡ None = ap (λ (l : List (List (List ℕ))). slice_get l i) fit in
    absurd (cc)
picks user_key bits at front (s ∷ separators) [] i part user fit there has = absurd fit
picks user_key bits at front (s ∷ separators) (p ∷ parts) zero part user fit there has =
    let same : p ≡ part = same_Some p part there in
    let between = All-contains (IsBetween user_key front s) p user fit.0.between (subst (λ (l : List (List ℕ)). Contains l user) (sym same) has) in
    let size = length (bloom_filter bits p) in
    let pair : IndexPair = record { separator = s; handle = record { offset = at; size = size } } in
    picks-first user_key user pair (filter_pairs bits (at + stored_size size) separators parts) (not-before user_key user pair fit.0.tagged between.within)
    (part-or-open user_key user pair (bytes_eq (user_of s) user) refl)
picks user_key bits at front (s ∷ separators) (p ∷ parts) (suc i) part user fit there has =
    let size = length (bloom_filter bits p) in
    let pair : IndexPair = record { separator = s; handle = record { offset = at; size = size } } in
    picks-later user_key user pair (filter_pairs bits (at + stored_size size) separators parts) i (is_before_user user_key user pair) refl
    (behind-all user_key s separators parts i part user fit.1 there has)
    (picks user_key bits (at + stored_size size) (Some s) separators parts i part user fit.1 there has)

-- each part has no more user keys than it may
few-all : (user_key : Bool) (front : Option (List ℕ)) (separators : List (List ℕ)) (parts : List (List (List ℕ))) (i : ℕ) (part : List (List ℕ))
    → FitParts user_key front separators parts → slice_get parts i ≡ Some part → length part ≤ key_limit
few-all user_key front [] parts i part fit at =
    let none : slice_get parts i ≡ None = ap (λ (l : List (List (List ℕ))). slice_get l i) fit in
    absurd (cc)
few-all user_key front (s ∷ separators) [] i part fit at = absurd fit
few-all user_key front (s ∷ separators) (p ∷ parts) zero part fit at = subst (λ (l : List (List ℕ)). length l ≤ key_limit) (same_Some p part at) fit.0.few
few-all user_key front (s ∷ separators) (p ∷ parts) (suc i) part fit at = few-all user_key (Some s) separators parts i part fit.1 at

picked-part : (user_key : Bool) (user : List ℕ) (pairs : List IndexPair) (i : ℕ) (handle : Handle) → Picks user_key user pairs i → part_of user_key user pairs ≡ Part handle
    → (pair : IndexPair) × (slice_get pairs i ≡ Some pair) × (pair.handle ≡ handle)
unfolding Picks
picked-part user_key user pairs i handle (inl open_) is = cc
picked-part user_key user pairs i handle (inr (pair, at, picked)) is = (pair, at, cc)

picked-some : (user_key : Bool) (user : List ℕ) (pairs : List IndexPair) (i : ℕ) → Picks user_key user pairs i → part_of user_key user pairs ≢ Beyond
unfolding Picks
picked-some user_key user pairs i (inl open_) is = cc
picked-some user_key user pairs i (inr (pair, at, picked)) is = cc

pub own-part : (user_key : Bool) (bits base : ℕ) (separators : List (List ℕ)) (parts : List (List (List ℕ))) (i : ℕ) (part : List (List ℕ)) (user : List ℕ) (handle : Handle)
    → bits ≤ 100 → FitParts user_key None separators parts → slice_get parts i ≡ Some part → Contains part user
    → part_of user_key user (filter_pairs bits base separators parts) ≡ Part handle
    → ((pair : IndexPair) × (slice_get (filter_pairs bits base separators parts) i ≡ Some pair) × (pair.handle ≡ handle)) × (denies (bloom_filter bits part) user ≡ false)
own-part user_key bits base separators parts i part user handle most fit at has is = (
  picked-part user_key user (filter_pairs bits base separators parts) i handle (picks user_key bits base None separators parts i part user fit at has) is,
  added_is_not_denied bits part user most (few-all user_key None separators parts i part fit at) has,
)

pub own-some : (user_key : Bool) (bits base : ℕ) (separators : List (List ℕ)) (parts : List (List (List ℕ))) (i : ℕ) (part : List (List ℕ)) (user : List ℕ)
    → FitParts user_key None separators parts → slice_get parts i ≡ Some part → Contains part user
    → part_of user_key user (filter_pairs bits base separators parts) ≢ Beyond
own-some user_key bits base separators parts i part user fit at has =
    picked-some user_key user (filter_pairs bits base separators parts) i (picks user_key bits base None separators parts i part user fit at has)
