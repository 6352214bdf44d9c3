-- Separators that are user keys are compared by user keys alone.
use Rattle.std.proofs.Common.{◌≡◌, ◌≢◌, ℕ, ◌<◌, nat_lt, nat_le, Bool, true, false, cond, List, Option, None, Some, refl, sym, ap, ◌∙◌, arith}
use Rattle.std.specs.Ordering.{nat_cmp, ordering_then, is_lt}
use Rattle.std.specs.Cmp.{ranked}
use Rattle.std.specs.Cmp.Lexicographic.{slice_cmp}
use Rattle.std.specs.FinMap.{slice_cmp-IsAntisymmetric, nat_cmp-IsAntisymmetric}
use Rattle.std.proofs.lemmas.Cmp.{nat_list_cmp_total}
use Rattle.std.specs.declared.cmp.Ordering.{Ordering}
use Rattle.std.specs.declared.cmp.Ordering.TheVariants.{Less, Equal, Greater}
use Rattle.sst_key.specs.declared.entries.Entry.{Entry}
use Rattle.sst_key.specs.Entry.{key_of, tag}
use Rattle.sst_key.specs.InternalKey.{user_of, tag_of, internal_cmp}
use Rattle.sst_key.proofs.KeyParts.{user_of-key, tag_of-key}
use Rattle.sst_bbt_spec.specs.Way.{is_separator_before, IsUpToSeparator, IsAfterSeparator}
use Rattle.sst_bbt_spec.specs.Parts.{separator_of}
use Rattle.sst_bbt_spec.specs.Mark.{is_user_before, is_before_seek, is_before_prev}

pub user-alone : (key : List ℕ) → user_of (separator_of true key) ≡ key
user-alone key = user_of-key key 0

pub tag-alone : (key : List ℕ) → tag_of (separator_of true key) ≡ 0
tag-alone key = tag_of-key key 0 (omega arith)

-- no number is less than 0
not-less : (t : ℕ) → is_lt (nat_cmp t 0) ≡ false
not-less t =
    elim (nat_cmp t 0) as (λ r. r ≡ nat_cmp t 0 → is_lt r ≡ false) [
      | Less ↦ λ is. let low : t < 0 = ranked t 0 Less is in absurd (omega arith)
      | Equal ↦ λ is. refl
      | Greater ↦ λ is. refl
    ] refl

less-alone : (r : Ordering) (t : ℕ) → is_lt (ordering_then r (nat_cmp t 0)) ≡ is_lt r
less-alone Less t = refl
less-alone Equal t = not-less t
less-alone Greater t = refl

pub separator-alone : (user : List ℕ) (t : ℕ) (key : List ℕ) → is_separator_before user t (separator_of true key) ≡ is_lt (slice_cmp nat_cmp key user)
separator-alone user t key = rw (user-alone key, tag-alone key) (less-alone (slice_cmp nat_cmp key user) t)

pub user_before-alone : (user key : List ℕ) → is_user_before user (separator_of true key) ≡ is_lt (slice_cmp nat_cmp key user)
user_before-alone user key = ap (λ (u : List ℕ). is_lt (slice_cmp nat_cmp u user)) (user-alone key)

marked-alone : (v : Bool) (user key : List ℕ)
    → cond v (is_separator_before user 0 (separator_of true key)) (is_user_before user (separator_of true key)) ≡ is_lt (slice_cmp nat_cmp key user)
marked-alone true user key = separator-alone user 0 key
marked-alone false user key = user_before-alone user key

pub seek-alone : (mark : Option ℕ) (user : List ℕ) (seq : ℕ) (key : List ℕ)
    → is_before_seek mark user seq (separator_of true key) ≡ is_lt (slice_cmp nat_cmp key user)
seek-alone None user seq key = separator-alone user _ key
seek-alone (Some number) user seq key = marked-alone (nat_lt seq number) user key

pub prev-alone : (mark : Option ℕ) (user : List ℕ) (seq : ℕ) (key : List ℕ)
    → is_before_prev mark user seq (separator_of true key) ≡ is_lt (slice_cmp nat_cmp key user)
prev-alone None user seq key = separator-alone user _ key
prev-alone (Some number) user seq key = marked-alone (nat_le seq number) user key

-- ---- what separates

same-tags : (r : Ordering) → ordering_then r (nat_cmp 0 0) ≡ r
same-tags Less = refl
same-tags Equal = refl
same-tags Greater = refl

pub cmp-alone : (a b : List ℕ) → internal_cmp (separator_of true a) (separator_of true b) ≡ slice_cmp nat_cmp a b
cmp-alone a b = rw (user-alone a, user-alone b, tag-alone a, tag-alone b) (same-tags (slice_cmp nat_cmp a b))

key-user : (e : Entry) → user_of (key_of e) ≡ e.user
key-user e = user_of-key e.user (tag e.seq e.kind)

not-greater : (t : ℕ) → nat_cmp 0 t ≢ Greater
not-greater t is = let low : t < 0 = ranked 0 t Greater (sym is) in absurd (omega arith)

upto-user : (r : Ordering) (t : ℕ) → ordering_then r (nat_cmp 0 t) ≢ Greater → r ≢ Greater
upto-user r t not is = not (ap (λ (o : Ordering). ordering_then o (nat_cmp 0 t)) is)

user-upto : (r : Ordering) (t : ℕ) → r ≢ Greater → ordering_then r (nat_cmp 0 t) ≢ Greater
user-upto Less t not is = cc
user-upto Equal t not is = not-greater t is
user-upto Greater t not is = not refl

after-user : (r : Ordering) (t : ℕ) → ordering_then r (nat_cmp t 0) ≡ Less → r ≡ Less
after-user Less t is = refl
after-user Equal t is = let none = not-less t in let some : is_lt (nat_cmp t 0) ≡ true = ap is_lt is in cc
after-user Greater t is = cc

user-after : (r : Ordering) (t : ℕ) → r ≡ Less → ordering_then r (nat_cmp t 0) ≡ Less
user-after r t is = ap (λ (o : Ordering). ordering_then o (nat_cmp t 0)) is

upto-is : (key : List ℕ) (e : Entry)
    → internal_cmp (key_of e) (separator_of true key) ≡ ordering_then (slice_cmp nat_cmp e.user key) (nat_cmp 0 (tag_of (key_of e)))
upto-is key e = rw (user-alone key, tag-alone key, key-user e) refl

after-is : (key : List ℕ) (e : Entry)
    → internal_cmp (separator_of true key) (key_of e) ≡ ordering_then (slice_cmp nat_cmp key e.user) (nat_cmp (tag_of (key_of e)) 0)
after-is key e = rw (user-alone key, tag-alone key, key-user e) refl

pub upto-alone : (key : List ℕ) (e : Entry) → IsUpToSeparator (separator_of true key) e → slice_cmp nat_cmp e.user key ≢ Greater
upto-alone key e up = upto-user (slice_cmp nat_cmp e.user key) (tag_of (key_of e)) (λ is. up (upto-is key e ∙ is))

pub alone-upto : (key : List ℕ) (e : Entry) → slice_cmp nat_cmp e.user key ≢ Greater → IsUpToSeparator (separator_of true key) e
alone-upto key e not is = user-upto (slice_cmp nat_cmp e.user key) (tag_of (key_of e)) not (sym (upto-is key e) ∙ is)

pub after-alone : (key : List ℕ) (e : Entry) → IsAfterSeparator (separator_of true key) e → slice_cmp nat_cmp key e.user ≡ Less
after-alone key e after = after-user (slice_cmp nat_cmp key e.user) (tag_of (key_of e)) (sym (after-is key e) ∙ after)

pub alone-after : (key : List ℕ) (e : Entry) → slice_cmp nat_cmp key e.user ≡ Less → IsAfterSeparator (separator_of true key) e
alone-after key e less = after-is key e ∙ user-after (slice_cmp nat_cmp key e.user) (tag_of (key_of e)) less

-- ---- no user key stands on both sides

user-up-to : (a key b : List ℕ) (r : Ordering) → slice_cmp nat_cmp a key ≡ r → r ≢ Greater → slice_cmp nat_cmp key b ≡ Less → slice_cmp nat_cmp a b ≡ Less
user-up-to a key b Less is not less = nat_list_cmp_total.trans a key b is less
user-up-to a key b Equal is not less =
    ap (λ (u : List ℕ). slice_cmp nat_cmp u b) (slice_cmp-IsAntisymmetric nat_cmp-IsAntisymmetric a key is) ∙ less
user-up-to a key b Greater is not less = absurd (not refl)

pub users-apart : (key : List ℕ) (e f : Entry) → IsUpToSeparator (separator_of true key) e → IsAfterSeparator (separator_of true key) f
    → slice_cmp nat_cmp e.user f.user ≡ Less
users-apart key e f up after = user-up-to e.user key f.user (slice_cmp nat_cmp e.user key) refl (upto-alone key e up) (after-alone key f after)
