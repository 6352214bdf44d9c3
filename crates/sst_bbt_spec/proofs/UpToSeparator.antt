-- Entries in order to both sides of a separator: what is before an entry that is up to it is so too, and what is behind an
-- entry that is after it is after it too.
use Rattle.std.proofs.Common.{◌≡◌, ◌≢◌, ℕ, ◌+◌, true, List, [], ◌∷◌, ◌++◌, All, refl, inl, inr, arith}
use Rattle.std.proofs.lemmas.List.Elements.{All-nil, All-cons, All-head, All-tail}
use Rattle.std.specs.Ordering.{is_lt, is_le}
use Rattle.std.specs.declared.cmp.Ordering.{Ordering}
use Rattle.std.specs.declared.cmp.Ordering.TheVariants.{Less, Equal, Greater}
use Rattle.sst_key.specs.declared.entries.Entry.{Entry}
use Rattle.sst_key.specs.Entry.{IsBefore, IsOrdered, key_of, tag}
use Rattle.sst_key.specs.InternalKey.{user_of, tag_of, internal_cmp}
use Rattle.sst_key.proofs.KeyParts.{user_of-key, tag_of-key, tag-fits}
use Rattle.sst_key.proofs.TargetOrder.{before-from_words, up_to-from_words}
use Rattle.sst_block.specs.Builder.{last_key}
use Rattle.sst_bbt_spec.specs.Rows.{HasSeq, rows_of}
use Rattle.sst_bbt_spec.specs.Runs.{BeginsAfter}
use Rattle.sst_bbt_spec.specs.Way.{IsUpToSeparator, IsAfterSeparator}
use Rattle.sst_bbt_spec.proofs.SeparatorOrder.{Before, UpTo, ahead, tagged, weaker, upto-words, after-words}

pub not-from_le : (r : Ordering) → is_le r ≡ true → r ≢ Greater
not-from_le Less is = λ e. cc
not-from_le Equal is = λ e. cc
not-from_le Greater is = absurd (cc)

pub less-from_lt : (r : Ordering) → is_lt r ≡ true → r ≡ Less
less-from_lt Less is = refl
less-from_lt Equal is = cc
less-from_lt Greater is = cc

-- an entry is up to a separator by its parts
upto-from_words : (separator : List ℕ) (e : Entry) → HasSeq e → UpTo e.user (tag e.seq e.kind) (user_of separator) (tag_of separator)
    → IsUpToSeparator separator e
upto-from_words separator e low words =
    let user = user_of-key e.user (tag e.seq e.kind) in
    let number = tag_of-key e.user (tag e.seq e.kind) (tag-fits e.seq e.kind low) in
    let parts : UpTo (user_of (key_of e)) (tag_of (key_of e)) (user_of separator) (tag_of separator) = rw (user, number) words in
    not-from_le _ (up_to-from_words (user_of separator) (tag_of separator) (tagged (key_of e)) parts)

-- and after it
after-from_words : (separator : List ℕ) (e : Entry) → HasSeq e → Before (user_of separator) (tag_of separator) e.user (tag e.seq e.kind)
    → IsAfterSeparator separator e
after-from_words separator e low words =
    let user = user_of-key e.user (tag e.seq e.kind) in
    let number = tag_of-key e.user (tag e.seq e.kind) (tag-fits e.seq e.kind low) in
    let parts : Before (user_of separator) (tag_of separator) (user_of (key_of e)) (tag_of (key_of e)) = rw (user, number) words in
    less-from_lt _ (before-from_words (user_of (key_of e)) (tag_of (key_of e)) (tagged separator) parts)

-- the tag of what is before, by one more
raised : (a b : List ℕ) (s t : ℕ) → UpTo a s b t → UpTo a (s + 1) b (t + 1)
raised a b s t (inl less) = inl less
raised a b s t (inr tied) = inr (tied.0, omega (arith, tied.1))

strict : (a b : List ℕ) (s t : ℕ) → UpTo a s b t → Before a (s + 1) b t
strict a b s t (inl less) = inl less
strict a b s t (inr tied) = inr (tied.0, omega (arith, tied.1))

lowered : (a b : List ℕ) (s t : ℕ) → Before a (s + 1) b t → UpTo a s b t
lowered a b s t (inl less) = inl less
lowered a b s t (inr tied) = inr (tied.0, omega (arith, tied.1))

-- what is before an entry that is up to a separator is so too
upto-ahead : (separator : List ℕ) (a b : Entry) → HasSeq a → HasSeq b → IsBefore a b → IsUpToSeparator separator b → IsUpToSeparator separator a
upto-ahead separator a b low next before up =
    let later = strict _ _ _ _ (upto-words separator b next up) in
    let sooner = raised _ _ _ _ (weaker _ _ _ _ before) in
    upto-from_words separator a low (lowered _ _ _ _ (ahead a.user b.user (user_of separator) _ _ (tag_of separator) sooner later))

-- what is behind an entry that is after a separator is so too
after-behind : (separator : List ℕ) (a b : Entry) → HasSeq a → HasSeq b → IsBefore a b → IsAfterSeparator separator a → IsAfterSeparator separator b
after-behind separator a b low next before after =
    let sooner = weaker _ _ _ _ (after-words separator a low after) in
    after-from_words separator b next (ahead (user_of separator) a.user b.user _ _ _ sooner before)

-- what is up to a separator is before what is after it
across : (separator : List ℕ) (a b : Entry) → HasSeq a → HasSeq b → IsUpToSeparator separator a → IsAfterSeparator separator b → IsBefore a b
across separator a b low next up after =
    ahead a.user (user_of separator) b.user _ (tag_of separator) _ (upto-words separator a low up) (after-words separator b next after)

-- if the last entry of an ordered list is up to it, all are
all-upto-of_some : (separator : List ℕ) (e : Entry) (rest : List Entry) → IsOrdered (e ∷ rest) → All HasSeq (e ∷ rest)
    → internal_cmp (last_key [] (rows_of (e ∷ rest))) separator ≢ Greater → All (IsUpToSeparator separator) (e ∷ rest)
all-upto-of_some separator e [] ordered seqs last = All-cons (IsUpToSeparator separator) e [] last (All-nil (IsUpToSeparator separator))
all-upto-of_some separator e (next ∷ rest) ordered seqs last =
    let more = All-tail HasSeq e (next ∷ rest) seqs in
    let later = all-upto-of_some separator next rest ordered.1 more last in
    let here = upto-ahead separator e next (All-head HasSeq e (next ∷ rest) seqs) (All-head HasSeq next rest more) ordered.0 (All-head (IsUpToSeparator separator) next rest later) in
    All-cons (IsUpToSeparator separator) e (next ∷ rest) here later

pub all-upto : (separator : List ℕ) (entries : List Entry) → IsOrdered entries → All HasSeq entries
    → internal_cmp (last_key [] (rows_of entries)) separator ≢ Greater → All (IsUpToSeparator separator) entries
all-upto separator [] ordered seqs last = All-nil (IsUpToSeparator separator)
all-upto separator (e ∷ rest) ordered seqs last = all-upto-of_some separator e rest ordered seqs last

-- if the first entry of an ordered list is after it, all are
pub all-after : (separator : List ℕ) (entries : List Entry) → IsOrdered entries → All HasSeq entries → BeginsAfter separator entries
    → All (IsAfterSeparator separator) entries
all-after separator [] ordered seqs begins = All-nil (IsAfterSeparator separator)
all-after separator (e ∷ []) ordered seqs begins = All-cons (IsAfterSeparator separator) e [] begins (All-nil (IsAfterSeparator separator))
all-after separator (e ∷ next ∷ rest) ordered seqs begins =
    let more = All-tail HasSeq e (next ∷ rest) seqs in
    let second = after-behind separator e next (All-head HasSeq e (next ∷ rest) seqs) (All-head HasSeq next rest more) ordered.0 begins in
    All-cons (IsAfterSeparator separator) e (next ∷ rest) begins (all-after separator (next ∷ rest) ordered.1 more second)

-- two ordered lists with a separator between them are one
pub ordered-across : (separator : List ℕ) (front back : List Entry) → IsOrdered front → IsOrdered back → All HasSeq front → All HasSeq back
    → All (IsUpToSeparator separator) front → All (IsAfterSeparator separator) back → IsOrdered (front ++ back)
ordered-across separator [] back first second low next up after = second
ordered-across separator (e ∷ []) [] first second low next up after = tt
ordered-across separator (e ∷ []) (f ∷ back) first second low next up after =
    let between = across separator e f (All-head HasSeq e [] low) (All-head HasSeq f back next) (All-head (IsUpToSeparator separator) e [] up) (All-head (IsAfterSeparator separator) f back after) in
    (between, second)
ordered-across separator (e ∷ g ∷ front) back first second low next up after =
    (first.0, ordered-across separator (g ∷ front) back first.1 second (All-tail HasSeq e (g ∷ front) low) next (All-tail (IsUpToSeparator separator) e (g ∷ front) up) after)
