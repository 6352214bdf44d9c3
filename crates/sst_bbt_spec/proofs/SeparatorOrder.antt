-- How a separator stands to a target, and so the entries before it and behind it.
use Rattle.std.proofs.Common.{◌≡◌, ◌≢◌, ◌⊎◌, ℕ, ◌+◌, ◌<◌, ◌≤◌, true, false, List, [], refl, sym, ap, ◌∙◌, inl, inr, arith}
use Rattle.std.specs.Ordering.{nat_cmp, is_le, is_lt}
use Rattle.std.specs.Cmp.Lexicographic.{slice_cmp}
use Rattle.std.proofs.lemmas.Cmp.{nat_list_cmp_total}
use Rattle.std.specs.declared.cmp.Ordering.{Ordering}
use Rattle.std.specs.declared.cmp.Ordering.TheVariants.{Less, Equal, Greater}
use Rattle.sst_key.specs.declared.entries.Kind.TheVariants.{Value}
use Rattle.sst_key.specs.declared.entries.Entry.{Entry}
use Rattle.sst_key.specs.Entry.{key_of, tag}
use Rattle.sst_key.specs.InternalKey.{user_of, tag_of}
use Rattle.sst_key.specs.ListMachine.{is_before_target, is_up_to_target}
use Rattle.sst_key.proofs.KeyParts.{user_of-key, tag_of-key, tag-fits}
use Rattle.sst_key.proofs.Landings.{before-fails, up_to-fails}
use Rattle.sst_key.proofs.TargetOrder.{before-in_words, before-from_words, up_to-in_words, up_to-from_words}
use Rattle.sst_bbt_spec.specs.Rows.{HasSeq}
use Rattle.sst_bbt_spec.specs.Way.{is_separator_before, seek_tag, seek_for_prev_tag, IsUpToSeparator, IsAfterSeparator}
use Rattle.sst_bbt_spec.proofs.EntriesOfRows.{kind-small}

-- one key is before another, or no later: user keys bytewise, and then the greater tag first
abbrev pub Before : List ℕ → ℕ → List ℕ → ℕ → Type 0
Before a s b t = (slice_cmp nat_cmp a b ≡ Less) ⊎ ((a ≡ b) × (t < s))

abbrev pub UpTo : List ℕ → ℕ → List ℕ → ℕ → Type 0
UpTo a s b t = (slice_cmp nat_cmp a b ≡ Less) ⊎ ((a ≡ b) × (t ≤ s))

-- what is no later than something before a target is before the target
pub ahead : (a b user : List ℕ) (r s t : ℕ) → UpTo a r b s → Before b s user t → Before a r user t
ahead a b user r s t (inl less) (inl next) = inl (nat_list_cmp_total.trans a b user less next)
ahead a b user r s t (inl less) (inr next) = inl (sym (ap (slice_cmp nat_cmp a) next.0) ∙ less)
ahead a b user r s t (inr same) (inl next) = inl (ap (λ (u : List ℕ). slice_cmp nat_cmp u user) same.0 ∙ next)
ahead a b user r s t (inr same) (inr next) = inr (same.0 ∙ next.0, omega (arith, same.1, next.1))

-- a stored key as an entry with its tag for a sequence number: it stands to a target as the key does
abbrev pub tagged : List ℕ → Entry
tagged key = record { user = user_of key; seq = tag_of key; kind = Value; value = [] }

pub le-from_not : (r : Ordering) → r ≢ Greater → is_le r ≡ true
le-from_not Less other = refl
le-from_not Equal other = refl
le-from_not Greater other = absurd (other refl)

pub separator-words : (user separator : List ℕ) (t : ℕ) → is_separator_before user t separator ≡ true → Before (user_of separator) (tag_of separator) user t
separator-words user separator t h = before-in_words user t (tagged separator) h

pub separator-from_words : (user separator : List ℕ) (t : ℕ) → Before (user_of separator) (tag_of separator) user t → is_separator_before user t separator ≡ true
separator-from_words user separator t words = before-from_words user t (tagged separator) words

pub upto-words : (separator : List ℕ) (e : Entry) → HasSeq e → IsUpToSeparator separator e
    → UpTo e.user (tag e.seq e.kind) (user_of separator) (tag_of separator)
upto-words separator e low up =
    let words = up_to-in_words (user_of separator) (tag_of separator) (tagged (key_of e)) (le-from_not _ up) in
    rw (user_of-key e.user (tag e.seq e.kind), tag_of-key e.user (tag e.seq e.kind) (tag-fits e.seq e.kind low)) at words

pub after-words : (separator : List ℕ) (e : Entry) → HasSeq e → IsAfterSeparator separator e
    → Before (user_of separator) (tag_of separator) e.user (tag e.seq e.kind)
after-words separator e low after =
    let words = before-in_words (user_of (key_of e)) (tag_of (key_of e)) (tagged separator) (ap is_lt after) in
    rw (user_of-key e.user (tag e.seq e.kind), tag_of-key e.user (tag e.seq e.kind) (tag-fits e.seq e.kind low)) at words

-- ---- Seek and Get

seek-words : (user : List ℕ) (seq : ℕ) (e : Entry) → Before e.user (tag e.seq e.kind) user (seek_tag seq) → is_before_target user seq e ≡ true
seek-words user seq e (inl less) = before-from_words user seq e (inl less)
seek-words user seq e (inr tied) = let small = kind-small e.kind in before-from_words user seq e (inr (tied.0, omega (arith, tied.1, small)))

seek-reaches : (user : List ℕ) (seq : ℕ) (e : Entry) → is_before_target user seq e ≡ true → Before e.user (tag e.seq e.kind) user (seek_tag seq)
seek-reaches user seq e h =
    elim (before-in_words user seq e h) [
      | inl less ↦ inl less
      | inr tied ↦ inr (tied.0, omega (arith, tied.1))
    ]

-- an entry that isn't after a separator before the target is before the target
pub seek-ahead : (user : List ℕ) (seq : ℕ) (separator : List ℕ) (e : Entry) → is_separator_before user (seek_tag seq) separator ≡ true
    → HasSeq e → IsUpToSeparator separator e → is_before_target user seq e ≡ true
seek-ahead user seq separator e h low up =
    seek-words user seq e (ahead e.user (user_of separator) user _ (tag_of separator) _ (upto-words separator e low up) (separator-words user separator _ h))

-- what is before is no later
pub weaker : (a b : List ℕ) (s t : ℕ) → Before a s b t → UpTo a s b t
weaker a b s t (inl less) = inl less
weaker a b s t (inr tied) = inr (tied.0, omega (arith, tied.1))

-- one that is after a separator which isn't before the target isn't before it either
pub seek-behind : (user : List ℕ) (seq : ℕ) (separator : List ℕ) (e : Entry) → is_separator_before user (seek_tag seq) separator ≡ false
    → HasSeq e → IsAfterSeparator separator e → is_before_target user seq e ≡ false
seek-behind user seq separator e h low after =
    let sooner = weaker _ _ _ _ (after-words separator e low after) in
    before-fails user seq e (λ words.
    let passes = seek-reaches user seq e (before-from_words user seq e words) in
    let is = separator-from_words user separator (seek_tag seq) (ahead (user_of separator) e.user user (tag_of separator) _ _ sooner passes) in
    cc)

-- ---- SeekForPrev

prev-words : (user : List ℕ) (seq : ℕ) (e : Entry) → Before e.user (tag e.seq e.kind) user (seek_for_prev_tag seq) → is_up_to_target user seq e ≡ true
prev-words user seq e (inl less) = up_to-from_words user seq e (inl less)
prev-words user seq e (inr tied) = let small = kind-small e.kind in up_to-from_words user seq e (inr (tied.0, omega (arith, tied.1, small)))

pub prev-ahead : (user : List ℕ) (seq : ℕ) (separator : List ℕ) (e : Entry) → is_separator_before user (seek_for_prev_tag seq) separator ≡ true
    → HasSeq e → IsUpToSeparator separator e → is_up_to_target user seq e ≡ true
prev-ahead user seq separator e h low up =
    prev-words user seq e (ahead e.user (user_of separator) user _ (tag_of separator) _ (upto-words separator e low up) (separator-words user separator _ h))

stricter : (a b : List ℕ) (s t : ℕ) → Before a s b t → UpTo a s b (t + 1)
stricter a b s t (inl less) = inl less
stricter a b s t (inr tied) = inr (tied.0, omega (arith, tied.1))

prev-reaches : (user : List ℕ) (seq : ℕ) (e : Entry) → is_up_to_target user seq e ≡ true → Before e.user (tag e.seq e.kind + 1) user (seek_for_prev_tag seq)
prev-reaches user seq e h =
    elim (up_to-in_words user seq e h) [
      | inl less ↦ inl less
      | inr tied ↦ inr (tied.0, omega (arith, tied.1))
    ]

pub prev-behind : (user : List ℕ) (seq : ℕ) (separator : List ℕ) (e : Entry) → is_separator_before user (seek_for_prev_tag seq) separator ≡ false
    → HasSeq e → IsAfterSeparator separator e → is_up_to_target user seq e ≡ false
prev-behind user seq separator e h low after =
    let sooner = stricter _ _ _ _ (after-words separator e low after) in
    up_to-fails user seq e (λ words.
    let passes = prev-reaches user seq e (up_to-from_words user seq e words) in
    let is = separator-from_words user separator (seek_for_prev_tag seq) (ahead (user_of separator) e.user user (tag_of separator) _ _ sooner passes) in
    cc)
