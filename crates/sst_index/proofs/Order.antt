-- The separators of an index rise, and have room in its blocks.
use Rattle.std.proofs.Common.{◌≡◌, ◌≢◌, ℕ, zero, suc, ◌+◌, Bool, true, false, List, [], ◌∷◌, take, drop, refl, sym, ◌∙◌}
use Rattle.std.specs.Cmp.{IsTotalOrder}
use Rattle.std.specs.Ordering.{nat_cmp}
use Rattle.std.specs.Cmp.Lexicographic.{slice_cmp}
use Rattle.std.proofs.lemmas.Cmp.{nat_list_cmp_total, nat_cmp_total, on_total, then_total, back_total, alike_right}
use Rattle.std.proofs.lemmas.List.Elements.{All-nil, All-cons, All-head, All-weaker, All-take}
use Rattle.std.specs.declared.cmp.Ordering.{Ordering}
use Rattle.std.specs.declared.cmp.Ordering.TheVariants.{Less, Equal, Greater}
use Rattle.sst_num.specs.declared.block_handle.Handle.{Handle}
use Rattle.sst_key.specs.InternalKey.{user_of, tag_of, internal_cmp}
use Rattle.sst_block.specs.declared.row_form.RowForm.TheVariants.{Index}
use Rattle.sst_block.specs.Block.{AreOrdered, key_cmp}
use Rattle.sst_block.specs.IndexRows.{IndexPair}
use Rattle.sst_index.specs.Index.{IsBeforeAll, Rise}
use Rattle.sst_index.specs.IndexBlock.{index_rows}

-- stored keys are in a total order
pub stored_total : IsTotalOrder internal_cmp
stored_total = then_total (on_total user_of nat_list_cmp_total) (on_total tag_of (back_total nat_cmp_total))

pub less_up_to : {K : Type 0} (R : K → K → Ordering) (o : IsTotalOrder R) (a b c : K) → R a b ≡ Less → R b c ≢ Greater → R a c ≡ Less
less_up_to R o a b c less most =
    elim (R b c) as (λ r. R b c ≡ r → R a c ≡ Less) [
      | Less ↦ λ e. o.trans a b c less e
      | Equal ↦ λ e. sym (alike_right o b c a e) ∙ less
      | Greater ↦ λ e. absurd (most e)
    ] refl

pub up_to_less : {K : Type 0} (R : K → K → Ordering) (o : IsTotalOrder R) (a b c : K) → R a b ≢ Greater → R b c ≡ Less → R a c ≡ Less
up_to_less R o a b c most less =
    elim (R a b) as (λ r. R a b ≡ r → R a c ≡ Less) [
      | Less ↦ λ e. o.trans a b c e less
      | Equal ↦ λ e. o.congr a b c e ∙ less
      | Greater ↦ λ e. absurd (most e)
    ] refl

-- separators are in a total order, of either form
keys_total : (user_key : Bool) → IsTotalOrder (key_cmp (Index user_key false))
keys_total true = nat_list_cmp_total
keys_total false = stored_total

-- each separator is before the next
abbrev pub AreNext : Bool → List IndexPair → Type 0
AreNext user_key [] = Unit {0}
AreNext user_key (p ∷ []) = Unit {0}
AreNext user_key (p ∷ q ∷ pairs) = (key_cmp (Index user_key false) p.separator q.separator ≡ Less) × AreNext user_key (q ∷ pairs)

-- what is before the first is before all
before_all : (user_key : Bool) (p q : IndexPair) (pairs : List IndexPair) → key_cmp (Index user_key false) p.separator q.separator ≡ Less
    → IsBeforeAll user_key q pairs → IsBeforeAll user_key p (q ∷ pairs)
before_all user_key p q pairs less all =
    All-cons (λ (r : IndexPair). key_cmp (Index user_key false) p.separator r.separator ≡ Less) q pairs less
    (All-weaker (λ (r : IndexPair). key_cmp (Index user_key false) q.separator r.separator ≡ Less) (λ (r : IndexPair). key_cmp (Index user_key false) p.separator r.separator ≡ Less)
    (λ r next. (keys_total user_key).trans p.separator q.separator r.separator less next) pairs all)

pub rise-from_next : (user_key : Bool) (pairs : List IndexPair) → AreNext user_key pairs → Rise user_key pairs
rise-from_next user_key [] next = tt
rise-from_next user_key (p ∷ []) next = (All-nil (λ (r : IndexPair). key_cmp (Index user_key false) p.separator r.separator ≡ Less), tt)
rise-from_next user_key (p ∷ q ∷ pairs) next =
    let rest = rise-from_next user_key (q ∷ pairs) next.1 in
    (before_all user_key p q pairs next.0 rest.0, rest)

pub rise-take : (user_key : Bool) (n : ℕ) (pairs : List IndexPair) → Rise user_key pairs → Rise user_key (take n pairs)
rise-take user_key zero [] rise = tt
rise-take user_key zero (p ∷ pairs) rise = tt
rise-take user_key (suc n) [] rise = tt
rise-take user_key (suc n) (p ∷ pairs) rise =
    (All-take (λ (r : IndexPair). key_cmp (Index user_key false) p.separator r.separator ≡ Less) n pairs rise.0, rise-take user_key n pairs rise.1)

pub rise-drop : (user_key : Bool) (n : ℕ) (pairs : List IndexPair) → Rise user_key pairs → Rise user_key (drop n pairs)
rise-drop user_key zero pairs rise = rise
rise-drop user_key (suc n) [] rise = tt
rise-drop user_key (suc n) (p ∷ pairs) rise = rise-drop user_key n pairs rise.1

-- so the rows are in order
pub ordered-from_rise : (user_key delta : Bool) (interval i : ℕ) (key : List ℕ) (before : Handle) (pairs : List IndexPair) → Rise user_key pairs
    → AreOrdered (Index user_key delta) (index_rows delta interval i key before pairs)
ordered-from_rise user_key delta interval i key before [] rise = tt
ordered-from_rise user_key delta interval i key before (p ∷ []) rise = tt
ordered-from_rise true delta interval i key before (p ∷ q ∷ pairs) rise = (
  All-head (λ (r : IndexPair). slice_cmp nat_cmp p.separator r.separator ≡ Less) q pairs rise.0,
  ordered-from_rise true delta interval (i + 1) p.separator p.handle (q ∷ pairs) rise.1,
)
ordered-from_rise false delta interval i key before (p ∷ q ∷ pairs) rise = (
  All-head (λ (r : IndexPair). internal_cmp p.separator r.separator ≡ Less) q pairs rise.0,
  ordered-from_rise false delta interval (i + 1) p.separator p.handle (q ∷ pairs) rise.1,
)
