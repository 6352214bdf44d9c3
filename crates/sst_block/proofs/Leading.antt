-- To which handle the rows of a block lead: one after the other, and from a row that shares nothing.
use Rattle.std.proofs.Common.{◌≡◌, ℕ, zero, suc, ◌+◌, Bool, true, List, [], ◌∷◌, take, Some, refl, sym, subst, ap, ◌∙◌, arith}
use Rattle.std.specs.Prelude.{slice_get}
use Rattle.std.proofs.lemmas.Option.{same_Some}
use Rattle.sst_num.specs.declared.block_handle.Handle.{Handle}
use Rattle.sst_block.specs.declared.row_form.RowForm.{RowForm}
use Rattle.sst_block.specs.declared.row_form.RowForm.TheVariants.{Entries, Names, Index}
use Rattle.sst_block.specs.Block.{Spelled, no_handle, LeadsTo, LeadTo}
use Rattle.sst_block.specs.IndexRows.{IndexPair, SayPairs}
use Rattle.sst_block.specs.BlockReading.{Before, nothing_before, behind}
use Rattle.sst_block.proofs.Follows.{Follows}
use Rattle.sst_block.proofs.Said.{leads-after, leads-one, says-fresh}

-- the next row leads on
pub lead-next : (form : RowForm) (before : Before) (h : Handle) (spelled : List Spelled) (i : ℕ) (s : Spelled) → Follows form before spelled
    → LeadTo form before.handle (take i spelled) h → slice_get spelled i ≡ Some s
    → (k : Handle) × LeadsTo form h s k × LeadTo form before.handle (take (i + 1) spelled) k
lead-next form before h [] i s follows leads at = cc
lead-next form before h (x ∷ rest) zero s follows leads at =
    let same : x ≡ s = same_Some x s at in
    let k = follows.3.0 in
    let here = subst (λ (b : Handle). LeadsTo form b x k) (sym leads) follows.3.1 in
    (k, subst (λ (y : Spelled). LeadsTo form h y k) same here, (k, follows.3.1, refl))
lead-next form before h (x ∷ rest) (suc i) s follows leads at =
    let after = leads-after form before.handle x leads.0 leads.1 in
    let more = lead-next form (behind form before x) h rest i s follows.4 (subst (λ (b : Handle). LeadTo form b (take i rest) h) (sym after) leads.2) at in
    let next : suc i + 1 ≡ suc (i + 1) = omega arith in
    let rest_leads = subst (λ (b : Handle). LeadTo form b (take (i + 1) rest) more.0) after more.2 in
    let all : LeadTo form before.handle (x ∷ take (i + 1) rest) more.0 = (leads.0, leads.1, rest_leads) in
    (more.0, more.1, rw next all)

-- some rows lead to a handle
lead-some : (form : RowForm) (before : Before) (spelled : List Spelled) (i : ℕ) → Follows form before spelled → (h : Handle) × LeadTo form before.handle (take i spelled) h
lead-some form before spelled zero follows = (before.handle, refl)
lead-some form before [] (suc i) follows = (before.handle, refl)
lead-some form before (s ∷ rest) (suc i) follows =
    let more = lead-some form (behind form before s) rest i follows.4 in
    let after = leads-after form before.handle s follows.3.0 follows.3.1 in
    (more.0, (follows.3.0, follows.3.1, subst (λ (b : Handle). LeadTo form b (take i rest) more.0) after more.1))

-- where rows say no handles, the one before stays
entries-stay : (before h : Handle) (spelled : List Spelled) → LeadTo Entries before spelled h → h ≡ before
entries-stay before h [] leads = leads
entries-stay before h (s ∷ rest) leads = entries-stay leads.0 h rest leads.2 ∙ leads.1

names-stay : (before h : Handle) (spelled : List Spelled) → LeadTo Names before spelled h → h ≡ before
names-stay before h [] leads = leads
names-stay before h (s ∷ rest) leads = names-stay leads.0 h rest leads.2 ∙ leads.1

-- a row that shares nothing leads on from no handle as from the one before
fresh-leads : (form : RowForm) (before h : Handle) (spelled : List Spelled) (s : Spelled) → s.shared ≡ 0 → LeadTo form no_handle spelled before → LeadsTo form before s h
    → LeadsTo form no_handle s h
fresh-leads Entries before h spelled s none lead leads = leads ∙ entries-stay no_handle before spelled lead
fresh-leads Names before h spelled s none lead leads = leads ∙ names-stay no_handle before spelled lead
fresh-leads (Index user_key delta) before h spelled s none lead leads = says-fresh delta before no_handle s h none leads

pub lead-fresh : (form : RowForm) (spelled : List Spelled) (i : ℕ) (s : Spelled) → Follows form nothing_before spelled → slice_get spelled i ≡ Some s → s.shared ≡ 0
    → (k : Handle) × LeadsTo form no_handle s k × LeadTo form no_handle (take (i + 1) spelled) k
lead-fresh form spelled i s follows at none =
    let some = lead-some form nothing_before spelled i follows in
    let next = lead-next form nothing_before some.0 spelled i s follows some.1 at in
    (next.0, fresh-leads form some.0 next.0 (take i spelled) s none some.1 next.1, next.2)

-- the handle to which the rows up to the i-th lead is that of the i-th pair
pub pair-at : (user_key delta : Bool) (before h : Handle) (spelled : List Spelled) (pairs : List IndexPair) (i : ℕ) (s : Spelled) → SayPairs delta before spelled pairs
    → slice_get spelled i ≡ Some s → LeadTo (Index user_key delta) before (take (i + 1) spelled) h
    → (pair : IndexPair) × (slice_get pairs i ≡ Some pair) × (h ≡ pair.handle)
pair-at user_key delta before h [] pairs i s says at leads = cc
pair-at user_key delta before h (x ∷ rest) [] i s says at leads = absurd says
pair-at user_key delta before h (x ∷ rest) (pair ∷ pairs) zero s says at leads =
    (pair, refl, leads.2 ∙ leads-one (Index user_key delta) before x leads.0 pair.handle leads.1 says.1)
pair-at user_key delta before h (x ∷ rest) (pair ∷ pairs) (suc i) s says at leads =
    let next : suc i + 1 ≡ suc (i + 1) = omega arith in
    let all : LeadTo (Index user_key delta) before (x ∷ take (i + 1) rest) h = rw next at leads in
    let same = leads-one (Index user_key delta) before x all.0 pair.handle all.1 says.1 in
    pair-at user_key delta pair.handle h rest pairs i s says.2 at (subst (λ (b : Handle). LeadTo (Index user_key delta) b (take (i + 1) rest) h) same all.2)

-- rows say one list of pairs at most
pub pairs-one : (delta : Bool) (before : Handle) (spelled : List Spelled) (a b : List IndexPair) → SayPairs delta before spelled a → SayPairs delta before spelled b → a ≡ b
pairs-one delta before [] a b left right = left ∙ sym right
pairs-one delta before (s ∷ rest) [] b left right = absurd left
pairs-one delta before (s ∷ rest) (x ∷ a) [] left right = absurd right
pairs-one delta before (s ∷ rest) (x ∷ a) (y ∷ b) left right =
    let handle : x.handle ≡ y.handle = leads-one (Index true delta) before s x.handle y.handle left.1 right.1 in
    let key : x.separator ≡ y.separator = sym left.0 ∙ right.0 in
    let more = subst (λ (h : Handle). SayPairs delta h rest a) handle left.2 in
    let first : x ≡ y = ap (λ (k : List ℕ). record { separator = k; handle = x.handle }) key ∙ ap (λ (h : Handle). record { separator = y.separator; handle = h }) handle in
    ap (λ (p : IndexPair). p ∷ a) first ∙ ap (λ (l : List IndexPair). y ∷ l) (pairs-one delta y.handle rest a b more right.2)

-- and one at least
pub pairs-some : (user_key delta : Bool) (before : Before) (spelled : List Spelled) → Follows (Index user_key delta) before spelled
    → (pairs : List IndexPair) × SayPairs delta before.handle spelled pairs
pairs-some user_key delta before [] follows = ([], refl)
pairs-some user_key delta before (s ∷ rest) follows =
    let h = follows.3.0 in
    let more = pairs-some user_key delta (behind (Index user_key delta) before s) rest follows.4 in
    let after = leads-after (Index user_key delta) before.handle s h follows.3.1 in
    (record { separator = s.row.key; handle = h } ∷ more.0, (refl, follows.3.1, subst (λ (b : Handle). SayPairs delta b rest more.0) after more.1))
