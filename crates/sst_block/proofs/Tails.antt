-- Two keys that begin with the same bytes are ordered as what follows these, where no tag is cut.
use Rattle.std.proofs.Common.{◌≡◌, ℕ, ◌+◌, ◌-◌, ◌≤◌, true, false, List, [], ◌∷◌, ◌++◌, length, take, drop, refl, sym, ap, ◌∙◌, length-append, length-drop, arith}
use Rattle.std.specs.Ordering.{nat_cmp}
use Rattle.std.specs.Cmp.{nat_cmp_is}
use Rattle.std.specs.Cmp.Lexicographic.{slice_cmp}
use Rattle.std.specs.declared.cmp.Ordering.TheVariants.{Equal}
use Rattle.std.proofs.lemmas.List.{length-take-le, take-append-drop, take-append-le, take-take}
use Rattle.std.proofs.Math.Seq.{take-append-add, drop-append-add}
use Rattle.sst_num.specs.Spelling.{fixed_value}
use Rattle.sst_key.specs.InternalKey.{user_of, tag_of, internal_cmp}
use Rattle.sst_block.specs.declared.row_form.RowForm.{RowForm}
use Rattle.sst_block.specs.declared.row_form.RowForm.TheVariants.{Entries, Names, Index}
use Rattle.sst_block.specs.Block.{key_cmp}
use Rattle.sst_block.specs.BlockReading.{has_tag}
use Rattle.sst_block.specs.Rows.{IsLongEnough}

-- bytewise, the bytes in common decide nothing
pub slice_cmp-front : (front a b : List ℕ) → slice_cmp nat_cmp (front ++ a) (front ++ b) ≡ slice_cmp nat_cmp a b
slice_cmp-front [] a b = refl
slice_cmp-front (x ∷ front) a b = rw (sym (nat_cmp_is x x Equal refl)) (slice_cmp-front front a b)

tag-place : (front a : List ℕ) → 8 ≤ length a → length (front ++ a) - 8 ≡ length front + (length a - 8)
tag-place front a long = let both = length-append front a in omega (arith, both, long)

-- behind a front the user key is longer by it, and the tag is the same
pub user_of-front : (front a : List ℕ) → 8 ≤ length a → user_of (front ++ a) ≡ front ++ user_of a
user_of-front front a long =
    ap (λ n. take n (front ++ a)) (tag-place front a long) ∙ take-append-add front a (length a - 8)

pub tag_of-front : (front a : List ℕ) → 8 ≤ length a → tag_of (front ++ a) ≡ tag_of a
tag_of-front front a long =
    ap (λ n. fixed_value (drop n (front ++ a))) (tag-place front a long) ∙ ap fixed_value (drop-append-add front a (length a - 8))

-- nor do they between stored keys
pub internal_cmp-front : (front a b : List ℕ) → 8 ≤ length a → 8 ≤ length b → internal_cmp (front ++ a) (front ++ b) ≡ internal_cmp a b
internal_cmp-front front a b long_a long_b =
    rw (user_of-front front a long_a, user_of-front front b long_b, tag_of-front front a long_a, tag_of-front front b long_b, slice_cmp-front front (user_of a) (user_of b)) refl

-- nor in any form
pub key_cmp-front : (form : RowForm) (front a b : List ℕ) → IsLongEnough form a → IsLongEnough form b → key_cmp form (front ++ a) (front ++ b) ≡ key_cmp form a b
key_cmp-front Entries front a b long_a long_b = internal_cmp-front front a b (long_a refl) (long_b refl)
key_cmp-front Names front a b long_a long_b = slice_cmp-front front a b
key_cmp-front (Index true delta) front a b long_a long_b = slice_cmp-front front a b
key_cmp-front (Index false delta) front a b long_a long_b = internal_cmp-front front a b (long_a refl) (long_b refl)

-- keys that are the same up to a place are ordered as their tails from there on
pub key_cmp-tails : (form : RowForm) (a b : List ℕ) (place : ℕ) → take place a ≡ take place b
    → IsLongEnough form (drop place a) → IsLongEnough form (drop place b)
    → key_cmp form (drop place a) (drop place b) ≡ key_cmp form a b
key_cmp-tails form a b place same long_a long_b =
    let whole_a : take place a ++ drop place a ≡ a = take-append-drop place a in
    let whole_b : take place a ++ drop place b ≡ b = ap (λ (front : List ℕ). front ++ drop place b) same ∙ take-append-drop place b in
    sym (key_cmp-front form (take place a) (drop place a) (drop place b) long_a long_b)
    ∙ ap (λ (k : List ℕ). key_cmp form k (take place a ++ drop place b)) whole_a
    ∙ ap (λ (k : List ℕ). key_cmp form a k) whole_b

-- a tail has a whole tag where the place is so far from the end
pub tail-long : (form : RowForm) (key : List ℕ) (place : ℕ) → (has_tag form ≡ true → place + 8 ≤ length key) → IsLongEnough form (drop place key)
tail-long form key place whole = λ tagged. let far = whole tagged in let rest = length-drop place key in omega (arith, far, rest)

-- a key is the same as the one before it up to any place within what they share
pub shared-front : (before rest : List ℕ) (shared place : ℕ) → place ≤ shared → shared ≤ length before
    → take place before ≡ take place (take shared before ++ rest)
shared-front before rest shared place within front =
    let long : length (take shared before) ≡ shared = length-take-le shared before front in
    sym (take-append-le place (take shared before) rest (omega (arith, long, within)) ∙ take-take place shared before within)

-- the next key is after the one before where its tail is after that one's
pub after-tails : (form : RowForm) (before rest : List ℕ) (shared place : ℕ) → place ≤ shared → shared ≤ length before
    → (has_tag form ≡ true → (place + 8 ≤ length before) × (place + 8 ≤ shared + length rest))
    → key_cmp form (drop place before) (drop place (take shared before ++ rest)) ≡ key_cmp form before (take shared before ++ rest)
after-tails form before rest shared place within front whole =
    let taken : length (take shared before) ≡ shared = length-take-le shared before front in
    let long = length-append (take shared before) rest in
    key_cmp-tails form before (take shared before ++ rest) place (shared-front before rest shared place within front)
    (tail-long form before place (λ tagged. (whole tagged).0))
    (tail-long form (take shared before ++ rest) place (λ tagged. let far = (whole tagged).1 in omega (arith, far, long, taken)))
