-- The parts of an internal key are the user key and the tag that it was made of.
use Rattle.std.proofs.Common.{◌≡◌, ℕ, zero, suc, ◌-◌, ◌^◌, ◌<◌, ◌≤◌, List, [], ◌∷◌, ◌++◌, length, take, drop, refl, sym, ap, ◌∙◌, inl, inr, length-append, length-drop, arith}
use Rattle.std.specs.Ordering.{nat_cmp, ordering_then}
use Rattle.std.specs.Cmp.Lexicographic.{slice_cmp}
use Rattle.std.specs.declared.cmp.Ordering.{Ordering}
use Rattle.std.specs.declared.cmp.Ordering.TheVariants.{Less, Equal, Greater}
use Rattle.std.specs.Cmp.{ranked, nat_cmp_is}
use Rattle.std.specs.FinMap.{slice_cmp-IsAntisymmetric, nat_cmp-IsAntisymmetric}
use Rattle.byteorder.specs.Endian.{little_number}
use Rattle.byteorder.specs.Numbers.{little_from-cons}
use Rattle.sst_num.specs.Spelling.{fixed, fixed_value}
use Rattle.sst_num.proofs.Fixed.{length-fixed, fixed_value-fixed}
use Rattle.sst_key.specs.declared.entries.Kind.{Kind}
use Rattle.sst_key.specs.declared.entries.Kind.TheVariants.{Deletion, Value, Merge, SingleDeletion}
use Rattle.sst_key.specs.declared.entries.Entry.{Entry}
use Rattle.sst_key.specs.Entry.{tag, key_of, IsBefore}
use Rattle.sst_key.specs.InternalKey.{user_of, tag_of, internal_cmp}

-- the number that n bytes spell, read byte by byte
pub fixed_value-little : (n : ℕ) (bytes : List ℕ) → length bytes ≡ n → little_number n bytes ≡ fixed_value bytes
fixed_value-little zero [] e = refl
fixed_value-little zero (b ∷ bytes) e = absurd (omega arith)
fixed_value-little (suc n) [] e = absurd (omega arith)
fixed_value-little (suc n) (b ∷ bytes) e =
    let rest = fixed_value-little n bytes (omega arith) in
    rw (little_from-cons 0 n b bytes, rest) refl

-- keys whose user keys tie are ordered by their tags, the greater first
pub internal_cmp-tied : (a b user_a user_b last_a last_b : List ℕ) (r : Ordering)
    → user_a ≡ take (length a - 8) a → user_b ≡ take (length b - 8) b
    → last_a ≡ drop (length a - 8) a → last_b ≡ drop (length b - 8) b
    → 8 ≤ length a → 8 ≤ length b
    → Equal ≡ slice_cmp nat_cmp user_a user_b
    → (tag_a tag_b : ℕ) → tag_a ≡ little_number 8 last_a → tag_b ≡ little_number 8 last_b
    → r ≡ nat_cmp tag_b tag_a → r ≡ internal_cmp a b
internal_cmp-tied a b user_a user_b last_a last_b r ua ub la lb long_a long_b tied tag_a tag_b ta tb is =
    let whole_a : length last_a ≡ 8 = ap length la ∙ length-drop (length a - 8) a ∙ omega arith in
    let whole_b : length last_b ≡ 8 = ap length lb ∙ length-drop (length b - 8) b ∙ omega arith in
    let value_a : tag_a ≡ tag_of a = ta ∙ fixed_value-little 8 last_a whole_a ∙ ap fixed_value la in
    let value_b : tag_b ≡ tag_of b = tb ∙ fixed_value-little 8 last_b whole_b ∙ ap fixed_value lb in
    let same : slice_cmp nat_cmp (user_of a) (user_of b) ≡ Equal = sym (tied ∙ ap (λ u. slice_cmp nat_cmp u user_b) ua ∙ ap (λ u. slice_cmp nat_cmp (user_of a) u) ub) in
    rw same (is ∙ ap (λ t. nat_cmp t tag_a) value_b ∙ ap (λ t. nat_cmp (tag_of b) t) value_a)

pub take-front : (xs ys : List ℕ) → take (length xs) (xs ++ ys) ≡ xs
take-front [] ys = refl
take-front (x ∷ xs) ys = ap (λ (r : List ℕ). x ∷ r) (take-front xs ys)

pub drop-front : (xs ys : List ℕ) → drop (length xs) (xs ++ ys) ≡ ys
drop-front [] ys = refl
drop-front (x ∷ xs) ys = drop-front xs ys

-- how much of an internal key is the user key
pub user_length : (user : List ℕ) (t : ℕ) → length (user ++ fixed 8 t) - 8 ≡ length user
user_length user t = let both = length-append user (fixed 8 t) in let eight = length-fixed 8 t in omega arith

pub user_of-key : (user : List ℕ) (t : ℕ) → user_of (user ++ fixed 8 t) ≡ user
user_of-key user t = ap (λ n. take n (user ++ fixed 8 t)) (user_length user t) ∙ take-front user (fixed 8 t)

pub tag_of-key : (user : List ℕ) (t : ℕ) → t < 2 ^ 64 → tag_of (user ++ fixed 8 t) ≡ t
tag_of-key user t h = ap (λ n. fixed_value (drop n (user ++ fixed 8 t))) (user_length user t) ∙ ap fixed_value (drop-front user (fixed 8 t)) ∙ fixed_value-fixed 8 t h

pub tag-fits : (seq : ℕ) (kind : Kind) → seq < 2 ^ 56 → tag seq kind < 2 ^ 64
tag-fits seq Deletion h = omega arith
tag-fits seq Value h = omega arith
tag-fits seq Merge h = omega arith
tag-fits seq SingleDeletion h = omega arith

-- the order of two keys by the parts of their entries
pub internal_cmp-entries : (x y : Entry) → x.seq < 2 ^ 56 → y.seq < 2 ^ 56
    → internal_cmp (key_of x) (key_of y) ≡ ordering_then (slice_cmp nat_cmp x.user y.user) (nat_cmp (tag y.seq y.kind) (tag x.seq x.kind))
internal_cmp-entries x y hx hy =
    rw (user_of-key x.user (tag x.seq x.kind), user_of-key y.user (tag y.seq y.kind), tag_of-key x.user (tag x.seq x.kind) (tag-fits x.seq x.kind hx), tag_of-key y.user (tag y.seq y.kind) (tag-fits y.seq y.kind hy)) refl

-- what the first difference decides
pub IsBefore-from_less : (x y : Entry) → ordering_then (slice_cmp nat_cmp x.user y.user) (nat_cmp (tag y.seq y.kind) (tag x.seq x.kind)) ≡ Less → IsBefore x y
IsBefore-from_less x y h =
    elim (slice_cmp nat_cmp x.user y.user) as (λ r. r ≡ slice_cmp nat_cmp x.user y.user → ordering_then r (nat_cmp (tag y.seq y.kind) (tag x.seq x.kind)) ≡ Less → IsBefore x y) [
      | Less ↦ λ is _. inl (sym is)
      | Equal ↦ λ is less. inr (slice_cmp-IsAntisymmetric nat_cmp-IsAntisymmetric x.user y.user (sym is), ranked (tag y.seq y.kind) (tag x.seq x.kind) Less (sym less))
      | Greater ↦ λ is less. cc
    ] refl h

pub slice_cmp-same : (u : List ℕ) → slice_cmp nat_cmp u u ≡ Equal
slice_cmp-same [] = refl
slice_cmp-same (b ∷ u) = rw (sym (nat_cmp_is b b Equal refl)) (slice_cmp-same u)

pub less-from_IsBefore : (x y : Entry) → IsBefore x y → ordering_then (slice_cmp nat_cmp x.user y.user) (nat_cmp (tag y.seq y.kind) (tag x.seq x.kind)) ≡ Less
less-from_IsBefore x y (inl less) = rw less refl
less-from_IsBefore x y (inr tied) =
    let same : slice_cmp nat_cmp x.user y.user ≡ Equal = ap (λ u. slice_cmp nat_cmp u y.user) tied.0 ∙ slice_cmp-same y.user in
    rw same (sym (nat_cmp_is (tag y.seq y.kind) (tag x.seq x.kind) Less tied.1))
