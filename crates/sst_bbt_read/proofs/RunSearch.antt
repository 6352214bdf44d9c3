-- Halving ordered separators finds how many of them are before a target.
use Rattle.std.proofs.Common.{◌≡◌, ℕ, zero, suc, ◌+◌, ◌<◌, ◌≤◌, Bool, true, false, cond, nat_lt, if◌then◌else◌, List, [], ◌∷◌, length, count_by, All, slice_get, slice_index_or, Some, subst, refl, sym, ap, ◌∙◌, inl, inr, zero-add, arith}
use Rattle.std.specs.List.Sorted.{IsPartitionedBy, IsPartitionPoint}
use Rattle.std.specs.Ordering.{is_lt}
use Rattle.std.specs.declared.cmp.Ordering.TheVariants.{Less}
use Rattle.std.proofs.lemmas.Bool.{le-ltb}
use Rattle.std.proofs.lemmas.List.Elements.{All-head, All-tail}
use Rattle.std.proofs.lemmas.List.Sums.{sum_by-cons}
use Rattle.std.proofs.lemmas.Option.{same_Some}
use Rattle.sst_key.specs.InternalKey.{user_of, tag_of, internal_cmp}
use Rattle.sst_block.specs.declared.row_form.RowForm.TheVariants.{Index}
use Rattle.sst_block.specs.Block.{AreOrdered}
use Rattle.sst_bbt_spec.specs.Way.{is_separator_before}
use Rattle.sst_bbt_spec.proofs.SeparatorOrder.{Before, UpTo, ahead, separator-words, separator-from_words}
use Rattle.sst_bbt_read.specs.TableBlocks.{AreSeparators, separator_rows}
use Rattle.sst_bbt_read.specs.declared.kept_table.RunEnd.{RunEnd}

-- what comes before something that passes passes too
abbrev pub Falls : {X : Type 0} → (X → Bool) → List X → Type 0
Falls p [] = Unit {0}
Falls p (a ∷ []) = Unit {0}
Falls p (a ∷ b ∷ rest) = (p b ≡ true → p a ≡ true) × Falls p (b ∷ rest)

pub tail-falls : {X : Type 0} (p : X → Bool) (a : X) (rest : List X) → Falls p (a ∷ rest) → Falls p rest
tail-falls p a [] falls = tt
tail-falls p a (b ∷ rest) falls = falls.1

one-add : (n : ℕ) → 1 + n ≡ suc n
one-add n = omega arith

pub count-yes : {X : Type 0} (p : X → Bool) (x : X) (xs : List X) → p x ≡ true → count_by p (x ∷ xs) ≡ suc (count_by p xs)
count-yes {X} p x xs passes =
    let whole : count_by p (x ∷ xs) ≡ cond (p x) 1 0 + count_by p xs = sum_by-cons (λ (y : X). cond (p y) 1 0) x xs in
    whole ∙ ap (λ (b : Bool). cond b 1 0 + count_by p xs) passes ∙ one-add (count_by p xs)

pub count-no : {X : Type 0} (p : X → Bool) (x : X) (xs : List X) → p x ≡ false → count_by p (x ∷ xs) ≡ count_by p xs
count-no {X} p x xs fails =
    let whole : count_by p (x ∷ xs) ≡ cond (p x) 1 0 + count_by p xs = sum_by-cons (λ (y : X). cond (p y) 1 0) x xs in
    whole ∙ ap (λ (b : Bool). cond b 1 0 + count_by p xs) fails ∙ zero-add (count_by p xs)

-- behind one that fails none passes
none-by : {X : Type 0} (p : X → Bool) (a b : X) (rest : List X) (v : Bool) → p b ≡ v → p a ≡ false → (p b ≡ true → p a ≡ true)
    → (p b ≡ false → count_by p rest ≡ 0) → count_by p (b ∷ rest) ≡ 0
none-by p a b rest true is fails falls later = let passes = falls is in cc
none-by p a b rest false is fails falls later = count-no p b rest is ∙ later is

pub none-behind : {X : Type 0} (p : X → Bool) (a : X) (rest : List X) → Falls p (a ∷ rest) → p a ≡ false → count_by p rest ≡ 0
none-behind p a [] falls fails = refl
none-behind p a (b ∷ rest) falls fails = none-by p a b rest (p b) refl fails falls.0 (none-behind p b rest falls.1)

head-passes : {X : Type 0} (p : X → Bool) (a : X) (rest : List X) (j : ℕ) (d : X) → Falls p (a ∷ rest) → j < length rest
    → p (slice_index_or rest j d) ≡ true → p a ≡ true
head-passes p a [] j d falls low passes = absurd (omega arith)
head-passes p a (b ∷ rest) zero d falls low passes = falls.0 passes
head-passes p a (b ∷ rest) (suc j) d falls low passes = falls.0 (head-passes p b rest j d falls.1 (omega arith) passes)

here-by : {X : Type 0} (p : X → Bool) (a : X) (rest : List X) (i : ℕ) (x : X) (v : Bool) → p a ≡ v → (p a ≡ false → count_by p rest ≡ 0)
    → ((k : ℕ) → k ≡ count_by p rest → slice_get rest k ≡ Some x → p x ≡ false)
    → i ≡ count_by p (a ∷ rest) → slice_get (a ∷ rest) i ≡ Some x → p x ≡ false
here-by p a rest zero x true passes last later count at = let more = count-yes p a rest passes in absurd (omega (arith, count, more))
here-by p a rest (suc k) x true passes last later count at = let more = count-yes p a rest passes in later k (omega (arith, count, more)) at
here-by {X} p a rest zero x false fails last later count at = subst (λ (y : X). p y ≡ false) (same_Some a x at) fails
here-by p a rest (suc k) x false fails last later count at =
    let counted = count-no p a rest fails in
    let none = last fails in
    absurd (omega (arith, count, counted, none))

-- the one behind those that pass fails
pub here-fails : {X : Type 0} (p : X → Bool) (xs : List X) (i : ℕ) (x : X) → Falls p xs → i ≡ count_by p xs → slice_get xs i ≡ Some x → p x ≡ false
here-fails p [] i x falls count at = cc
here-fails p (a ∷ rest) i x falls count at =
    here-by p a rest i x (p a) refl (none-behind p a rest falls)
    (λ k counted there. here-fails p rest k x (tail-falls p a rest falls) counted there) count at

-- so a list is parted as halving asks
parted : {X : Type 0} (p : X → Bool) (xs : List X) → Falls p xs → IsPartitionedBy p xs
parted p [] falls i j d low within passes = absurd (omega arith)
parted p (a ∷ rest) falls zero zero d low within passes = passes
parted p (a ∷ rest) falls zero (suc j) d low within passes = head-passes p a rest j d falls (omega arith) passes
parted p (a ∷ rest) falls (suc i) zero d low within passes = absurd (omega arith)
parted p (a ∷ rest) falls (suc i) (suc j) d low within passes = parted p rest (tail-falls p a rest falls) i j d (omega arith) (omega arith) passes

-- the place up to which they pass is how many do
point-count : {X : Type 0} (p : X → Bool) (xs : List X) (i : ℕ) → i ≤ length xs
    → IsPartitionPoint (λ y. p y ≡ true) (λ y. p y ≡ false) xs i → i ≡ count_by p xs
point-count p [] i within point = omega arith
point-count p (x ∷ xs) zero within point =
    let fails : p x ≡ false = point.1 zero x (omega arith) (omega arith) in
    let more = point-count p xs zero (omega arith) (λ j d low high. absurd (omega arith), λ j d low high. point.1 (suc j) d (omega arith) (omega arith)) in
    omega (arith, count-no p x xs fails, more)
point-count p (x ∷ xs) (suc i) within point =
    let passes : p x ≡ true = point.0 zero x (omega arith) (omega arith) in
    let more = point-count p xs i (omega arith)
    (λ j d low high. point.0 (suc j) d (omega arith) (omega arith), λ j d low high. point.1 (suc j) d (omega arith) (omega arith)) in
    omega (arith, count-yes p x xs passes, more)

-- ---- separators

weaker : (a b : List ℕ) (s t : ℕ) → Before a s b t → UpTo a s b t
weaker a b s t (inl less) = inl less
weaker a b s t (inr tied) = inr (tied.0, omega (arith, tied.1))

-- what is before a key that is before a target is before the target
key-ahead : (user : List ℕ) (t : ℕ) (a b : List ℕ) → internal_cmp a b ≡ Less → is_separator_before user t b ≡ true → is_separator_before user t a ≡ true
key-ahead user t a b less passes =
    let sooner = separator-words (user_of b) a (tag_of b) (ap is_lt less) in
    separator-from_words user a t
    (ahead (user_of a) (user_of b) user (tag_of a) (tag_of b) t (weaker _ _ _ _ sooner) (separator-words user b t passes))

-- the separator of the run is before the target
abbrev pub is_run_before : List ℕ → ℕ → RunEnd → Bool
is_run_before user t b = is_separator_before user t b.separator

-- the separators that are before a target come first
pub before-falls : (user : List ℕ) (t : ℕ) (ends : List RunEnd) → AreOrdered (Index false false) (separator_rows ends) → Falls (is_run_before user t) ends
before-falls user t [] ordered = tt
before-falls user t (a ∷ []) ordered = tt
before-falls user t (a ∷ b ∷ rest) ordered =
    (key-ahead user t a.separator b.separator ordered.0, before-falls user t (b ∷ rest) ordered.1)

-- the same, and what is too short for a stored key is before none
abbrev pub is_stored_before : List ℕ → ℕ → RunEnd → Bool
is_stored_before user t b = if nat_lt (length b.separator) 8 then false else is_separator_before user t b.separator

stored-same : (user : List ℕ) (t : ℕ) (b : RunEnd) → 8 ≤ length b.separator → is_stored_before user t b ≡ is_run_before user t b
stored-same user t b long =
    let other : nat_lt (length b.separator) 8 ≡ false = le-ltb (length b.separator) 8 long in
    ap (λ (short : Bool). if short then false else is_separator_before user t b.separator) other

abbrev pub AreLong : List RunEnd → Type 0
AreLong ends = All (λ (b : RunEnd). 8 ≤ length b.separator) ends

count-same : (user : List ℕ) (t : ℕ) (ends : List RunEnd) → AreLong ends
    → count_by (is_stored_before user t) ends ≡ count_by (is_run_before user t) ends
count-same user t [] long = refl
count-same user t (b ∷ rest) long =
    let same = stored-same user t b (All-head (λ (b : RunEnd). 8 ≤ length b.separator) b rest long) in
    let more = count-same user t rest (All-tail (λ (b : RunEnd). 8 ≤ length b.separator) b rest long) in
    sum_by-cons (λ (y : RunEnd). cond (is_stored_before user t y) 1 0) b rest
    ∙ ap (λ (v : Bool). cond v 1 0 + count_by (is_stored_before user t) rest) same
    ∙ ap (λ (n : ℕ). cond (is_run_before user t b) 1 0 + n) more
    ∙ sym (sum_by-cons (λ (y : RunEnd). cond (is_run_before user t y) 1 0) b rest)

stored-falls : (user : List ℕ) (t : ℕ) (ends : List RunEnd) → AreLong ends → Falls (is_run_before user t) ends → Falls (is_stored_before user t) ends
stored-falls user t [] long falls = tt
stored-falls user t (a ∷ []) long falls = tt
stored-falls user t (a ∷ b ∷ rest) long falls =
    let later = All-tail (λ (b : RunEnd). 8 ≤ length b.separator) a (b ∷ rest) long in
    let here = stored-same user t a (All-head (λ (b : RunEnd). 8 ≤ length b.separator) a (b ∷ rest) long) in
    let next = stored-same user t b (All-head (λ (b : RunEnd). 8 ≤ length b.separator) b rest later) in
    (λ passes. here ∙ falls.0 (sym next ∙ passes), stored-falls user t (b ∷ rest) later falls.1)

pub runs-parted : (user : List ℕ) (t : ℕ) (ends : List RunEnd) → AreSeparators ends → IsPartitionedBy (is_stored_before user t) ends
runs-parted user t ends are =
    parted (is_stored_before user t) ends (stored-falls user t ends are.long (before-falls user t ends are.ordered))

pub runs-count : (user : List ℕ) (t : ℕ) (ends : List RunEnd) (i : ℕ) → AreSeparators ends → i ≤ length ends
    → IsPartitionPoint (λ y. is_stored_before user t y ≡ true) (λ y. is_stored_before user t y ≡ false) ends i
    → i ≡ count_by (is_run_before user t) ends
runs-count user t ends i are within point = point-count (is_stored_before user t) ends i within point ∙ count-same user t ends are.long
