-- With a mark and without: how a separator stands to a target, and so the shown entries before it and behind it.
use Rattle.std.proofs.Common.{◌≡◌, ℕ, nat_lt, nat_le, Bool, true, false, cond, List, Option, None, Some, refl, sym, ap, ◌∙◌, inl, inr, arith}
use Rattle.std.specs.Ordering.{nat_cmp, is_lt}
use Rattle.std.specs.Cmp.Lexicographic.{slice_cmp}
use Rattle.std.specs.FinMap.{slice_cmp-IsAntisymmetric, nat_cmp-IsAntisymmetric}
use Rattle.std.proofs.lemmas.Bool.{cases_lt, lt-ltb, le-ltb, le-leb, lt-leb}
use Rattle.std.proofs.lemmas.Cmp.{nat_list_cmp_total}
use Rattle.std.specs.declared.cmp.Ordering.{Ordering}
use Rattle.std.specs.declared.cmp.Ordering.TheVariants.{Less, Equal, Greater}
use Rattle.sst_key.specs.declared.entries.Entry.{Entry}
use Rattle.sst_key.specs.Entry.{tag}
use Rattle.sst_key.specs.InternalKey.{user_of, tag_of}
use Rattle.sst_key.specs.ListMachine.{is_before_target, is_up_to_target}
use Rattle.sst_key.proofs.KeyParts.{slice_cmp-same}
use Rattle.sst_key.proofs.Landings.{before-fails, up_to-fails}
use Rattle.sst_key.proofs.TargetOrder.{before-from_words, up_to-from_words}
use Rattle.sst_bbt_spec.specs.Rows.{HasSeq}
use Rattle.sst_bbt_spec.specs.Way.{is_separator_before, IsUpToSeparator, IsAfterSeparator}
use Rattle.sst_bbt_spec.specs.Mark.{shown, is_user_before, is_before_seek, is_before_prev}
use Rattle.sst_bbt_spec.proofs.SeparatorOrder.{Before, UpTo, ahead, weaker, upto-words, after-words, separator-words, separator-from_words}
use Rattle.sst_bbt_spec.proofs.UpToSeparator.{less-from_lt}
use Rattle.sst_bbt_spec.proofs.WayLaws.{Follows, seek-follows, prev-follows}

-- a test that goes by the user key alone; of the entries of the target's own user key it says the same
record GoesByUser (user : List ℕ) (tied : Bool) (test : Entry → Bool) : Type 0 where
  pub less : (e : Entry) → slice_cmp nat_cmp e.user user ≡ Less → test e ≡ true
  pub same : (e : Entry) → e.user ≡ user → test e ≡ tied
  pub more : (e : Entry) → (slice_cmp nat_cmp e.user user ≡ Less → ⊥) → (e.user ≡ user → ⊥) → test e ≡ false

-- all stored keys of the user key are before the target
all-ahead : (user : List ℕ) (test : Entry → Bool) → GoesByUser user true test → (separator : List ℕ) (e : Entry)
    → is_separator_before user 0 separator ≡ true → HasSeq e → IsUpToSeparator separator e → test e ≡ true
all-ahead user test goes separator e is low up =
    elim (ahead e.user (user_of separator) user _ (tag_of separator) 0 (upto-words separator e low up) (separator-words user separator 0 is)) [
      | inl less ↦ goes.less e less
      | inr tied ↦ goes.same e tied.0
    ]

-- what is after a separator of a smaller or an equal user key makes that one be before
before-zero : (a b user : List ℕ) (r s : ℕ) → Before a r b s → b ≡ user → Before a r user 0
before-zero a b user r s (inl less) same = inl (ap (slice_cmp nat_cmp a) (sym same) ∙ less)
before-zero a b user r s (inr tied) same = inr (tied.0 ∙ same, omega (arith, tied.1))

all-behind : (user : List ℕ) (test : Entry → Bool) → GoesByUser user true test → (separator : List ℕ) (e : Entry)
    → is_separator_before user 0 separator ≡ false → HasSeq e → IsAfterSeparator separator e → test e ≡ false
all-behind user test goes separator e is low after =
    let words = after-words separator e low after in
    goes.more e
    (λ less.
    let there = separator-from_words user separator 0 (ahead (user_of separator) e.user user (tag_of separator) (tag e.seq e.kind) 0 (weaker _ _ _ _ words) (inl less)) in
    cc)
    (λ same.
    let there = separator-from_words user separator 0 (before-zero (user_of separator) e.user user (tag_of separator) (tag e.seq e.kind) words same) in
    cc)

-- none of them is
pub user-less : (a b user : List ℕ) (r s : ℕ) → UpTo a r b s → slice_cmp nat_cmp b user ≡ Less → slice_cmp nat_cmp a user ≡ Less
user-less a b user r s (inl less) next = nat_list_cmp_total.trans a b user less next
user-less a b user r s (inr tied) next = ap (λ (u : List ℕ). slice_cmp nat_cmp u user) tied.0 ∙ next

none-ahead : (user : List ℕ) (test : Entry → Bool) → GoesByUser user false test → (separator : List ℕ) (e : Entry)
    → is_user_before user separator ≡ true → HasSeq e → IsUpToSeparator separator e → test e ≡ true
none-ahead user test goes separator e is low up =
    goes.less e (user-less e.user (user_of separator) user _ (tag_of separator) (upto-words separator e low up) (less-from_lt _ is))

by-order : (user : List ℕ) (test : Entry → Bool) → GoesByUser user false test → (e : Entry) (r : Ordering) → slice_cmp nat_cmp e.user user ≡ r
    → (slice_cmp nat_cmp e.user user ≡ Less → ⊥) → test e ≡ false
by-order user test goes e Less is not = absurd (not is)
by-order user test goes e Equal is not = goes.same e (slice_cmp-IsAntisymmetric nat_cmp-IsAntisymmetric e.user user is)
by-order user test goes e Greater is not =
    goes.more e not (λ same. let tied = ap (λ (u : List ℕ). slice_cmp nat_cmp u user) same ∙ slice_cmp-same user in cc)

none-behind : (user : List ℕ) (test : Entry → Bool) → GoesByUser user false test → (separator : List ℕ) (e : Entry)
    → is_user_before user separator ≡ false → HasSeq e → IsAfterSeparator separator e → test e ≡ false
none-behind user test goes separator e is low after =
    let words = weaker _ _ _ _ (after-words separator e low after) in
    by-order user test goes e (slice_cmp nat_cmp e.user user) refl
    (λ less. let there = ap is_lt (user-less (user_of separator) e.user user (tag_of separator) _ words less) in cc)

-- both, by whether all are before the target
by-user : (user : List ℕ) (test : Entry → Bool) (is_before : List ℕ → Bool) (tied v : Bool) → GoesByUser user tied test → tied ≡ v
    → ((separator : List ℕ) → is_before separator ≡ cond v (is_separator_before user 0 separator) (is_user_before user separator))
    → Follows is_before test
by-user user test is_before true true goes is by =
    record {
      ahead = λ separator e h low up. all-ahead user test goes separator e (sym (by separator) ∙ h) low up;
      behind = λ separator e h low after. all-behind user test goes separator e (sym (by separator) ∙ h) low after;
    }
by-user user test is_before false false goes is by =
    record {
      ahead = λ separator e h low up. none-ahead user test goes separator e (sym (by separator) ∙ h) low up;
      behind = λ separator e h low after. none-behind user test goes separator e (sym (by separator) ∙ h) low after;
    }
by-user user test is_before true false goes is by = cc
by-user user test is_before false true goes is by = cc

-- ---- Seek and Get

seek-tied : (user : List ℕ) (seq number : ℕ) (e : Entry) → e.user ≡ user → is_before_target user seq (shown (Some number) e) ≡ nat_lt seq number
seek-tied user seq number e same =
    elim (cases_lt seq number) [
      | inl low ↦ before-from_words user seq (shown (Some number) e) (inr (same, low)) ∙ sym (lt-ltb seq number low)
      | inr high ↦ (
          before-fails user seq (shown (Some number) e) (λ words. elim words [
            | inl less ↦ let tied = ap (λ (u : List ℕ). slice_cmp nat_cmp u user) same ∙ slice_cmp-same user in cc
            | inr newer ↦ absurd (omega (arith, newer.1, high))
          ])
          ∙ sym (le-ltb seq number high))
    ]

seek-by_user : (user : List ℕ) (seq number : ℕ) → GoesByUser user (nat_lt seq number) (λ e. is_before_target user seq (shown (Some number) e))
seek-by_user user seq number =
    record {
      less = λ e less. before-from_words user seq (shown (Some number) e) (inl less);
      same = seek-tied user seq number;
      more = λ e no other. before-fails user seq (shown (Some number) e) (λ words. elim words [
        | inl less ↦ no less
        | inr newer ↦ other newer.0
      ]);
    }

pub marked-seek : (mark : Option ℕ) (user : List ℕ) (seq : ℕ) → Follows (is_before_seek mark user seq) (λ e. is_before_target user seq (shown mark e))
marked-seek None user seq = seek-follows user seq
marked-seek (Some number) user seq =
    by-user user _ _ (nat_lt seq number) (nat_lt seq number) (seek-by_user user seq number) refl (λ separator. refl)

-- ---- SeekForPrev

prev-tied : (user : List ℕ) (seq number : ℕ) (e : Entry) → e.user ≡ user → is_up_to_target user seq (shown (Some number) e) ≡ nat_le seq number
prev-tied user seq number e same =
    elim (cases_lt number seq) [
      | inl low ↦ (
          up_to-fails user seq (shown (Some number) e) (λ words. elim words [
            | inl less ↦ let tied = ap (λ (u : List ℕ). slice_cmp nat_cmp u user) same ∙ slice_cmp-same user in cc
            | inr newer ↦ absurd (omega (arith, newer.1, low))
          ])
          ∙ sym (lt-leb seq number low))
      | inr high ↦ up_to-from_words user seq (shown (Some number) e) (inr (same, high)) ∙ sym (le-leb seq number high)
    ]

prev-by_user : (user : List ℕ) (seq number : ℕ) → GoesByUser user (nat_le seq number) (λ e. is_up_to_target user seq (shown (Some number) e))
prev-by_user user seq number =
    record {
      less = λ e less. up_to-from_words user seq (shown (Some number) e) (inl less);
      same = prev-tied user seq number;
      more = λ e no other. up_to-fails user seq (shown (Some number) e) (λ words. elim words [
        | inl less ↦ no less
        | inr newer ↦ other newer.0
      ]);
    }

pub marked-prev : (mark : Option ℕ) (user : List ℕ) (seq : ℕ) → Follows (is_before_prev mark user seq) (λ e. is_up_to_target user seq (shown mark e))
marked-prev None user seq = prev-follows user seq
marked-prev (Some number) user seq =
    by-user user _ _ (nat_le seq number) (nat_le seq number) (prev-by_user user seq number) refl (λ separator. refl)
