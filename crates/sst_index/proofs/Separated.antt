-- A key that is raised at a byte stands between the two, and is no longer.
use Rattle.std.proofs.Common.{◌≡◌, ◌≢◌, ◌⊎◌, inl, inr, ℕ, zero, suc, ◌+◌, ◌-◌, ◌<◌, ◌≤◌, nat_lt, ◌&&◌, if◌then◌else◌, Option, None, Some, List, [], ◌∷◌, ◌++◌, length, length-append, length-take, get_or, take, drop, refl, sym, ap, ◌∙◌, arith}
use Rattle.std.proofs.Math.Seq.{drop-cons}
use Rattle.std.proofs.lemmas.List.{take-append-drop}
use Rattle.std.proofs.lemmas.Bool.{cases_lt}
use Rattle.std.proofs.lemmas.Bool.Decides.{nat_tests}
use Rattle.std.proofs.lemmas.Cmp.{nat_list_cmp_total, tied_itself}
use Rattle.std.specs.Ordering.{nat_cmp, ordering_then}
use Rattle.std.specs.Cmp.{nat_cmp_is}
use Rattle.std.specs.Cmp.Lexicographic.{slice_cmp}
use Rattle.std.specs.FinMap.{slice_cmp-IsAntisymmetric, nat_cmp-IsAntisymmetric}
use Rattle.std.specs.declared.cmp.Ordering.{Ordering}
use Rattle.std.specs.declared.cmp.Ordering.TheVariants.{Less, Equal, Greater}
use Rattle.sst_key.specs.InternalKey.{user_of, tag_of, internal_cmp}
use Rattle.sst_key.proofs.KeyParts.{take-front}
use Rattle.sst_block.specs.Block.{common}
use Rattle.sst_block.proofs.Fronts.{common-take}
use Rattle.sst_index.specs.Separators.{place_between, place_after, highest_front, raised, first_tag, raised_key, separator_between, separator_after}

same-number : (x : ℕ) → nat_cmp x x ≡ Equal
same-number x = sym (nat_cmp_is x x Equal refl)

pub same-bytes : (a : List ℕ) → slice_cmp nat_cmp a a ≡ Equal
same-bytes a = tied_itself nat_list_cmp_total a

-- what two lists share at their fronts doesn't decide
front-cmp : (p a b : List ℕ) → slice_cmp nat_cmp (p ++ a) (p ++ b) ≡ slice_cmp nat_cmp a b
front-cmp [] a b = refl
front-cmp (x ∷ p) a b = rw (same-number x) (front-cmp p a b)

first-less : (x y : ℕ) (a b : List ℕ) → x < y → slice_cmp nat_cmp (x ∷ a) (y ∷ b) ≡ Less
first-less x y a b h = ap (λ r. ordering_then r (slice_cmp nat_cmp a b)) (sym (nat_cmp_is x y Less h))

-- a key as the bytes before one, that byte, and the others
at-byte : (key : List ℕ) (at : ℕ) → at < length key → key ≡ take at key ++ (get_or key at 0 ∷ drop (suc at) key)
at-byte key at h = sym (ap (λ (l : List ℕ). take at key ++ l) (sym (drop-cons key at 0 h)) ∙ take-append-drop at key)

-- a raised key is after the key
pub raised-after : (key : List ℕ) (at : ℕ) → at < length key → slice_cmp nat_cmp key (raised key at) ≡ Less
raised-after key at h =
    ap (λ (l : List ℕ). slice_cmp nat_cmp l (raised key at)) (at-byte key at h)
    ∙ front-cmp (take at key) (get_or key at 0 ∷ drop (suc at) key) ((get_or key at 0 + 1) ∷ [])
    ∙ first-less (get_or key at 0) (get_or key at 0 + 1) (drop (suc at) key) [] (omega arith)

-- and before one that has a greater byte there
pub raised-before : (key next : List ℕ) (at : ℕ) → at < length next → take at key ≡ take at next → get_or key at 0 + 1 < get_or next at 0
    → slice_cmp nat_cmp (raised key at) next ≡ Less
raised-before key next at h front byte =
    ap (λ (l : List ℕ). slice_cmp nat_cmp (raised key at) l) (at-byte next at h ∙ ap (λ (p : List ℕ). p ++ (get_or next at 0 ∷ drop (suc at) next)) (sym front))
    ∙ front-cmp (take at key) ((get_or key at 0 + 1) ∷ []) (get_or next at 0 ∷ drop (suc at) next)
    ∙ first-less (get_or key at 0 + 1) (get_or next at 0) [] (drop (suc at) next) byte

-- where there is a byte other than 0, the list hasn't ended
byte-within : (key : List ℕ) (at x : ℕ) → x < get_or key at 0 → at < length key
byte-within [] at x h = absurd (omega arith)
byte-within (y ∷ key) zero x h = omega arith
byte-within (y ∷ key) (suc at) x h = let rest = byte-within key at x h in omega (arith, rest)

chosen : (n m x y at : ℕ) → n < m → x < y → (if nat_lt n m && nat_lt x y then Some at else None) ≡ Some at
chosen n m x y at h k = grind (arith, nat_tests)

passed_by : (n m x y at : ℕ) → (m ≤ n) ⊎ (y ≤ x) → (if nat_lt n m && nat_lt x y then Some at else None) ≡ None
passed_by n m x y at (inl h) = grind (arith, nat_tests)
passed_by n m x y at (inr h) = grind (arith, nat_tests)

-- where a key is raised to stand before another: before its last byte, at one that stays below the other's
between-cases : (a b : List ℕ) → (place_between a b ≡ None)
    ⊎ ((place_between a b ≡ Some (common a b)) × (common a b + 1 < length a) × (get_or a (common a b) 0 + 1 < get_or b (common a b) 0))
between-cases a b =
    let n = common a b + 1 in
    let m = length a in
    let x = get_or a (common a b) 0 + 1 in
    let y = get_or b (common a b) 0 in
    elim (cases_lt n m) [
      | inl h ↦ elim (cases_lt x y) [
        | inl k ↦ inr (chosen n m x y (common a b) h k, h, k)
        | inr k ↦ inl (passed_by n m x y (common a b) (inr k))
      ]
      | inr h ↦ inl (passed_by n m x y (common a b) (inl h))
    ]

after-cases : (a : List ℕ) → (place_after a ≡ None) ⊎ ((place_after a ≡ Some (highest_front a)) × (highest_front a + 1 < length a))
after-cases a =
    elim (cases_lt (highest_front a + 1) (length a)) [
      | inl h ↦ inr (grind (arith, nat_tests), h)
      | inr h ↦ inl (grind (arith, nat_tests))
    ]

-- the user key of a raised key
user-raised : (user : List ℕ) → user_of (user ++ first_tag) ≡ user
user-raised user =
    let n : length (user ++ first_tag) - 8 ≡ length user = omega (arith, length-append user first_tag) in
    ap (λ n. take n (user ++ first_tag)) n ∙ take-front user first_tag

-- the order of stored keys by their user keys
pub by-users : (a b : List ℕ) → slice_cmp nat_cmp (user_of a) (user_of b) ≡ Less → internal_cmp a b ≡ Less
by-users a b h = ap (λ r. ordering_then r (nat_cmp (tag_of b) (tag_of a))) h

-- keys in order whose user keys differ are ordered by these
pub users-less : (a b : List ℕ) → internal_cmp a b ≡ Less → user_of a ≢ user_of b → slice_cmp nat_cmp (user_of a) (user_of b) ≡ Less
users-less a b less other =
    elim (slice_cmp nat_cmp (user_of a) (user_of b)) as (λ r. r ≡ slice_cmp nat_cmp (user_of a) (user_of b) → ordering_then r (nat_cmp (tag_of b) (tag_of a)) ≡ Less → r ≡ Less) [
      | Less ↦ λ is _. refl
      | Equal ↦ λ is _. absurd (other (slice_cmp-IsAntisymmetric nat_cmp-IsAntisymmetric (user_of a) (user_of b) (sym is)))
      | Greater ↦ λ is greater. cc
    ] refl less

same-key : (a : List ℕ) → internal_cmp a a ≡ Equal
same-key a = ap (λ r. ordering_then r (nat_cmp (tag_of a) (tag_of a))) (same-bytes (user_of a)) ∙ same-number (tag_of a)

-- a key may be followed by one that is equal or after it
not-after : (r : Ordering) → (r ≡ Less) ⊎ (r ≡ Equal) → r ≢ Greater
not-after r (inl e) = λ g. cc
not-after r (inr e) = λ g. cc

-- the user key of the separator isn't before the block's last
raised-user : (a : List ℕ) (place : Option ℕ) → (slice_cmp nat_cmp (user_of a) (user_of (raised_key a place)) ≡ Less) ⊎ (raised_key a place ≡ a) → slice_cmp nat_cmp (user_of a) (user_of (raised_key a place)) ≢ Greater
raised-user a place (inl less) = not-after (slice_cmp nat_cmp (user_of a) (user_of (raised_key a place))) (inl less)
raised-user a place (inr same) = not-after (slice_cmp nat_cmp (user_of a) (user_of (raised_key a place))) (inr (ap (λ (k : List ℕ). slice_cmp nat_cmp (user_of a) (user_of k)) same ∙ same-bytes (user_of a)))

raised-stored : (a : List ℕ) (place : Option ℕ) → (slice_cmp nat_cmp (user_of a) (user_of (raised_key a place)) ≡ Less) ⊎ (raised_key a place ≡ a) → internal_cmp a (raised_key a place) ≢ Greater
raised-stored a place (inl less) = not-after (internal_cmp a (raised_key a place)) (inl (by-users a (raised_key a place) less))
raised-stored a place (inr same) = not-after (internal_cmp a (raised_key a place)) (inr (ap (λ (k : List ℕ). internal_cmp a k) same ∙ same-key a))

-- a key that is raised before its last byte is after itself, and shorter
above : (a : List ℕ) (at : ℕ) → at < length (user_of a) → slice_cmp nat_cmp (user_of a) (user_of (raised (user_of a) at ++ first_tag)) ≡ Less
above a at h = ap (λ (u : List ℕ). slice_cmp nat_cmp (user_of a) u) (user-raised (raised (user_of a) at)) ∙ raised-after (user_of a) at h

length-raised : (user : List ℕ) (at : ℕ) → at < length user → length (raised user at ++ first_tag) ≡ at + 9
length-raised user at h =
    omega (arith, length-append (raised user at) first_tag, length-append (take at user) ((get_or user at 0 + 1) ∷ []), length-take at user)

shorter : (a : List ℕ) (at : ℕ) → at + 1 < length (user_of a) → length (raised (user_of a) at ++ first_tag) ≤ length a
shorter a at h = omega (arith, length-raised (user_of a) at (omega arith), length-take (length a - 8) a)

-- a raised key or the key itself
pub between-above : (a b : List ℕ) → (slice_cmp nat_cmp (user_of a) (user_of (separator_between a b)) ≡ Less) ⊎ (separator_between a b ≡ a)
between-above a b =
    elim (between-cases (user_of a) (user_of b)) [
      | inl none ↦ inr (ap (raised_key a) none)
      | inr some ↦ inl (rw (some.0) (above a (common (user_of a) (user_of b)) (omega (arith, some.1))))
    ]

pub after-above : (a : List ℕ) → (slice_cmp nat_cmp (user_of a) (user_of (separator_after a)) ≡ Less) ⊎ (separator_after a ≡ a)
after-above a =
    elim (after-cases (user_of a)) [
      | inl none ↦ inr (ap (raised_key a) none)
      | inr some ↦ inl (rw (some.0) (above a (highest_front (user_of a)) (omega (arith, some.1))))
    ]

pub between-first : (a b : List ℕ) → internal_cmp a (separator_between a b) ≢ Greater
between-first a b = raised-stored a (place_between (user_of a) (user_of b)) (between-above a b)

pub between-user_first : (a b : List ℕ) → slice_cmp nat_cmp (user_of a) (user_of (separator_between a b)) ≢ Greater
between-user_first a b = raised-user a (place_between (user_of a) (user_of b)) (between-above a b)

pub after-first : (a : List ℕ) → internal_cmp a (separator_after a) ≢ Greater
after-first a = raised-stored a (place_after (user_of a)) (after-above a)

pub after-user_first : (a : List ℕ) → slice_cmp nat_cmp (user_of a) (user_of (separator_after a)) ≢ Greater
after-user_first a = raised-user a (place_after (user_of a)) (after-above a)

-- a raised key is before the next one
pub between-below : (a b : List ℕ) → (slice_cmp nat_cmp (user_of (separator_between a b)) (user_of b) ≡ Less) ⊎ (separator_between a b ≡ a)
between-below a b =
    let at = common (user_of a) (user_of b) in
    elim (between-cases (user_of a) (user_of b)) [
      | inl none ↦ inr (ap (raised_key a) none)
      | inr some ↦ inl (rw (some.0)
          (ap (λ (u : List ℕ). slice_cmp nat_cmp u (user_of b)) (user-raised (raised (user_of a) at))
          ∙ raised-before (user_of a) (user_of b) at (byte-within (user_of b) at (get_or (user_of a) at 0 + 1) some.2) (common-take (user_of a) (user_of b)) some.2))
    ]

pub between-second : (a b : List ℕ) → internal_cmp a b ≡ Less → internal_cmp (separator_between a b) b ≡ Less
between-second a b less =
    elim (between-below a b) [
      | inl below ↦ by-users (separator_between a b) b below
      | inr same ↦ ap (λ (k : List ℕ). internal_cmp k b) same ∙ less
    ]

pub between-user_second : (a b : List ℕ) → internal_cmp a b ≡ Less → user_of a ≢ user_of b
    → slice_cmp nat_cmp (user_of (separator_between a b)) (user_of b) ≡ Less
between-user_second a b less other =
    elim (between-below a b) [
      | inl below ↦ below
      | inr same ↦ ap (λ (k : List ℕ). slice_cmp nat_cmp (user_of k) (user_of b)) same ∙ users-less a b less other
    ]

-- no separator is longer than the key of which it is made, and each has room for a tag if that has
pub between-length : (a b : List ℕ) → (length (separator_between a b) ≤ length a) × (8 ≤ length a → 8 ≤ length (separator_between a b))
between-length a b =
    let at = common (user_of a) (user_of b) in
    elim (between-cases (user_of a) (user_of b)) [
      | inl none ↦ rw none (omega arith, λ long. long)
      | inr some ↦ rw (some.0) (shorter a at some.1, λ long. omega (arith, length-raised (user_of a) at (omega (arith, some.1))))
    ]

pub after-length : (a : List ℕ) → (length (separator_after a) ≤ length a) × (8 ≤ length a → 8 ≤ length (separator_after a))
after-length a =
    let at = highest_front (user_of a) in
    elim (after-cases (user_of a)) [
      | inl none ↦ rw none (omega arith, λ long. long)
      | inr some ↦ rw (some.0) (shorter a at some.1, λ long. omega (arith, length-raised (user_of a) at (omega (arith, some.1))))
    ]
