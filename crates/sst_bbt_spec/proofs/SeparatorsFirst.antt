-- In an index block the separators that are before a target come first.
use Rattle.std.proofs.Common.{◌≡◌, ℕ, zero, suc, ◌<◌, get_or, nat_lt, nat_le, Bool, true, false, cond, List, [], ◌∷◌, map, slice_get, Option, None, Some, sym, ap, ◌∙◌, subst, inl, inr, arith}
use Rattle.std.specs.Ordering.{is_lt}
use Rattle.std.specs.List.Sorted.{IsPartitionedBy}
use Rattle.std.proofs.lemmas.Bool.{cases_lt}
use Rattle.std.proofs.lemmas.Option.{same_Some, slice_get-get_or}
use Rattle.std.specs.declared.cmp.Ordering.TheVariants.{Less}
use Rattle.sst_key.specs.InternalKey.{user_of, tag_of, internal_cmp}
use Rattle.sst_key.proofs.TargetOrder.{before-in_words}
use Rattle.sst_num.specs.declared.block_handle.Handle.{Handle}
use Rattle.sst_block.specs.declared.row_form.RowForm.TheVariants.{Index}
use Rattle.sst_block.specs.Block.{Row, Spelled, AreOrdered, key_cmp, no_handle}
use Rattle.sst_block.specs.IndexRows.{IndexPair, SayPairs, IndexRows}
use Rattle.sst_bbt_spec.specs.Way.{is_separator_before, seek_tag, seek_for_prev_tag}
use Rattle.sst_bbt_spec.specs.Parts.{separator_of}
use Rattle.sst_bbt_spec.specs.Mark.{is_user_before, is_before_seek, is_before_prev}
use Rattle.sst_bbt_spec.proofs.SeparatorOrder.{Before, ahead, weaker, tagged, separator-words, separator-from_words}
use Rattle.sst_bbt_spec.proofs.UpToSeparator.{less-from_lt}
use Rattle.sst_bbt_spec.proofs.MarkFollows.{user-less}
use Rattle.sst_bbt_spec.proofs.UserKeys.{cmp-alone}

-- a separator before one that is before a target is before it too
abbrev pub GoesFirst : (List ℕ → Bool) → Type 0
GoesFirst is_before = (a b : List ℕ) → internal_cmp a b ≡ Less → is_before b ≡ true → is_before a ≡ true

less-words : (a b : List ℕ) → internal_cmp a b ≡ Less → Before (user_of a) (tag_of a) (user_of b) (tag_of b)
less-words a b less = before-in_words (user_of b) (tag_of b) (tagged a) (ap is_lt less)

tag-first : (user : List ℕ) (t : ℕ) → GoesFirst (is_separator_before user t)
tag-first user t a b less is =
    separator-from_words user a t
    (ahead (user_of a) (user_of b) user (tag_of a) (tag_of b) t (weaker _ _ _ _ (less-words a b less)) (separator-words user b t is))

user-first : (user : List ℕ) → GoesFirst (is_user_before user)
user-first user a b less is =
    ap is_lt (user-less (user_of a) (user_of b) user (tag_of a) (tag_of b) (weaker _ _ _ _ (less-words a b less)) (less-from_lt _ is))

either-first : (v : Bool) (user : List ℕ) → GoesFirst (λ separator. cond v (is_separator_before user 0 separator) (is_user_before user separator))
either-first true user = tag-first user 0
either-first false user = user-first user

pub seek-first : (mark : Option ℕ) (user : List ℕ) (seq : ℕ) → GoesFirst (is_before_seek mark user seq)
seek-first None user seq = tag-first user (seek_tag seq)
seek-first (Some number) user seq = either-first (nat_lt seq number) user

pub prev-first : (mark : Option ℕ) (user : List ℕ) (seq : ℕ) → GoesFirst (is_before_prev mark user seq)
prev-first None user seq = tag-first user (seek_for_prev_tag seq)
prev-first (Some number) user seq = either-first (nat_le seq number) user

-- ---- the separators of an index block are in order as stored keys

keys-less : (user_key delta : Bool) (a b : List ℕ) → key_cmp (Index user_key delta) a b ≡ Less
    → internal_cmp (separator_of user_key a) (separator_of user_key b) ≡ Less
keys-less true delta a b less = cmp-alone a b ∙ less
keys-less false delta a b less = less

abbrev pub InOrder : Bool → List IndexPair → Type 0
InOrder user_key [] = Unit {0}
InOrder user_key (a ∷ []) = Unit {0}
InOrder user_key (a ∷ b ∷ rest) =
    (internal_cmp (separator_of user_key a.separator) (separator_of user_key b.separator) ≡ Less) × InOrder user_key (b ∷ rest)

pairs-in_order : (user_key delta : Bool) (before : Handle) (spelled : List Spelled) (pairs : List IndexPair)
    → AreOrdered (Index user_key delta) (map (λ (s : Spelled). s.row) spelled) → SayPairs delta before spelled pairs → InOrder user_key pairs
pairs-in_order user_key delta before [] [] ordered say = tt
pairs-in_order user_key delta before [] (a ∷ pairs) ordered say = cc
pairs-in_order user_key delta before (s ∷ rest) [] ordered say = tt
pairs-in_order user_key delta before (s ∷ []) (a ∷ []) ordered say = tt
pairs-in_order user_key delta before (s ∷ []) (a ∷ b ∷ pairs) ordered say = let none = say.2 in cc
pairs-in_order user_key delta before (s ∷ t ∷ rest) (a ∷ []) ordered say = tt
pairs-in_order user_key delta before (s ∷ t ∷ rest) (a ∷ b ∷ pairs) ordered say =
    let less : key_cmp (Index user_key delta) a.separator b.separator ≡ Less =
    ap (λ (k : List ℕ). key_cmp (Index user_key delta) k b.separator) (sym say.0)
    ∙ ap (λ (k : List ℕ). key_cmp (Index user_key delta) s.row.key k) (sym say.2.0) ∙ ordered.0 in
    (keys-less user_key delta a.separator b.separator less, pairs-in_order user_key delta a.handle (t ∷ rest) (b ∷ pairs) ordered.1 say.2)

pub index-in_order : (user_key delta : Bool) (bytes : List ℕ) (pairs : List IndexPair) → IndexRows user_key delta bytes pairs → InOrder user_key pairs
index-in_order user_key delta bytes pairs rows =
    pairs-in_order user_key delta no_handle rows.block.spelled pairs
    (subst (λ (all : List Row). AreOrdered (Index user_key delta) all) (sym rows.block.are_rows) rows.block.ordered) rows.says

-- ---- so those that are before come first

-- if a later one is before, the first of them is
first-before : (is_before : List ℕ → Bool) (user_key : Bool) (a : IndexPair) (pairs : List IndexPair) (j : ℕ) (b : IndexPair)
    → GoesFirst is_before → InOrder user_key (a ∷ pairs) → slice_get pairs j ≡ Some b
    → is_before (separator_of user_key b.separator) ≡ true → is_before (separator_of user_key a.separator) ≡ true
first-before is_before user_key a [] j b goes ordered at is = cc
first-before is_before user_key a (c ∷ pairs) zero b goes ordered at is =
    let same = same_Some c b at in
    goes _ _ ordered.0 (ap (λ (p : IndexPair). is_before (separator_of user_key p.separator)) same ∙ is)
first-before is_before user_key a (c ∷ pairs) (suc j) b goes ordered at is =
    goes _ _ ordered.0 (first-before is_before user_key c pairs j b goes ordered.1 at is)

order-tail : (user_key : Bool) (a : IndexPair) (pairs : List IndexPair) → InOrder user_key (a ∷ pairs) → InOrder user_key pairs
order-tail user_key a [] ordered = tt
order-tail user_key a (b ∷ pairs) ordered = ordered.1

all-before : (is_before : List ℕ → Bool) (user_key : Bool) (pairs : List IndexPair) (i j : ℕ) (a b : IndexPair)
    → GoesFirst is_before → InOrder user_key pairs → i < j → slice_get pairs i ≡ Some a → slice_get pairs j ≡ Some b
    → is_before (separator_of user_key b.separator) ≡ true → is_before (separator_of user_key a.separator) ≡ true
all-before is_before user_key [] i j a b goes ordered low here there is = cc
all-before is_before user_key (c ∷ pairs) i zero a b goes ordered low here there is = absurd (omega (arith, low))
all-before is_before user_key (c ∷ pairs) zero (suc j) a b goes ordered low here there is =
    let same = same_Some c a here in
    ap (λ (p : IndexPair). is_before (separator_of user_key p.separator)) (sym same)
    ∙ first-before is_before user_key c pairs j b goes ordered there is
all-before is_before user_key (c ∷ pairs) (suc i) (suc j) a b goes ordered low here there is =
    all-before is_before user_key pairs i j a b goes (order-tail user_key c pairs ordered) (omega (arith, low)) here there is

-- the same by the words of `partition_point`
partitioned : (is_before : List ℕ → Bool) (user_key : Bool) (pairs : List IndexPair) → GoesFirst is_before → InOrder user_key pairs
    → IsPartitionedBy (λ (pair : IndexPair). is_before (separator_of user_key pair.separator)) pairs
partitioned is_before user_key pairs goes ordered = λ i j d low inside is.
    elim (cases_lt i j) [
      | inl less ↦
          all-before is_before user_key pairs i j (get_or pairs i d) (get_or pairs j d) goes ordered less
          (slice_get-get_or pairs i d (omega (arith, low, inside))) (slice_get-get_or pairs j d inside) is
      | inr other ↦
          let same : i ≡ j = omega (arith, low, other) in
          ap (λ (k : ℕ). is_before (separator_of user_key (get_or pairs k d).separator)) same ∙ is
    ]

pub seek-come_first : (user_key delta : Bool) (bytes : List ℕ) (pairs : List IndexPair) (mark : Option ℕ) (user : List ℕ) (seq : ℕ)
    → IndexRows user_key delta bytes pairs → IsPartitionedBy (λ (pair : IndexPair). is_before_seek mark user seq (separator_of user_key pair.separator)) pairs
seek-come_first user_key delta bytes pairs mark user seq rows =
    partitioned (is_before_seek mark user seq) user_key pairs (seek-first mark user seq) (index-in_order user_key delta bytes pairs rows)

pub prev-come_first : (user_key delta : Bool) (bytes : List ℕ) (pairs : List IndexPair) (mark : Option ℕ) (user : List ℕ) (seq : ℕ)
    → IndexRows user_key delta bytes pairs → IsPartitionedBy (λ (pair : IndexPair). is_before_prev mark user seq (separator_of user_key pair.separator)) pairs
prev-come_first user_key delta bytes pairs mark user seq rows =
    partitioned (is_before_prev mark user seq) user_key pairs (prev-first mark user seq) (index-in_order user_key delta bytes pairs rows)
