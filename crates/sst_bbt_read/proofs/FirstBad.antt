-- The first row of an index that leads to something that isn't good, by its number.
use Rattle.std.proofs.Common.{◌≡◌, ◌⊎◌, inl, inr, ℕ, zero, suc, ◌<◌, Bool, true, false, List, [], ◌∷◌, Some, slice_get, refl, subst, arith}
use Rattle.sst_block.specs.declared.row_form.RowForm.TheVariants.{Entries, Index}
use Rattle.sst_block.specs.IndexRows.{IndexPair}
use Rattle.sst_meta.specs.BlockFooter.{footer_start}
use Rattle.sst_meta.specs.declared.index_form.IndexForm.{IndexForm}
use Rattle.sst_bbt_spec.specs.IndexLeads.{HoldsPairs}
use Rattle.sst_bbt_read.specs.OpeningFaults.{SomeBlockFails, BlocksFail, WithinFails, PartsFail}
use Rattle.sst_bbt_read.specs.declared.bbt_fault.BbtFault.{BbtFault}
use Rattle.sst_bbt_read.proofs.StepRows.{SaysWithin}
use Rattle.sst_bbt_read.proofs.StepsPass.{HasEntries, LeadsWell}

-- before a number each row is good
abbrev pub AreGoodBefore : (IndexPair → Type 0) → ℕ → List IndexPair → Type 0
AreGoodBefore Good n pairs = (k : ℕ) (pair : IndexPair) → k < n → slice_get pairs k ≡ Some pair → Good pair

-- the first row that is bad
pub record FirstBad (Bad Good : IndexPair → Type 0) (pairs : List IndexPair) : Type 0 where
  pub i : ℕ
  pub pair : IndexPair
  pub row : slice_get pairs i ≡ Some pair
  pub bad : Bad pair
  pub before : AreGoodBefore Good i pairs

good-next : (Good : IndexPair → Type 0) (n : ℕ) (first : IndexPair) (pairs : List IndexPair) → Good first → AreGoodBefore Good n pairs
    → AreGoodBefore Good (suc n) (first ∷ pairs)
good-next Good n first pairs good before zero pair low row = let same : first ≡ pair = cc in subst Good same good
good-next Good n first pairs good before (suc k) pair low row = before k pair (omega (arith, low)) row

bad-here : (Bad Good : IndexPair → Type 0) (first : IndexPair) (pairs : List IndexPair) → Bad first → FirstBad Bad Good (first ∷ pairs)
bad-here Bad Good first pairs bad = record { i = 0; pair = first; row = refl; bad = bad; before = λ k pair low row. absurd (omega (arith, low)) }

bad-later : (Bad Good : IndexPair → Type 0) (first : IndexPair) (pairs : List IndexPair) → Good first → FirstBad Bad Good pairs
    → FirstBad Bad Good (first ∷ pairs)
bad-later Bad Good first pairs good later =
    record { i = suc later.i; pair = later.pair; row = later.row; bad = later.bad; before = good-next Good later.i first pairs good later.before }

-- of the data blocks of a part
abbrev pub DataBad : List ℕ → BbtFault → IndexPair → Type 0
DataBad file fault pair = SomeBlockFails Entries file (footer_start file) pair.handle fault

pub first-block : (file : List ℕ) (pairs : List IndexPair) (fault : BbtFault) → BlocksFail file (footer_start file) pairs fault
    → FirstBad (DataBad file fault) (HasEntries file) pairs
first-block file [] fault fails = absurd fails
first-block file (pair ∷ pairs) fault (inl bad) = bad-here (DataBad file fault) (HasEntries file) pair pairs bad
first-block file (pair ∷ pairs) fault (inr later) =
    bad-later (DataBad file fault) (HasEntries file) pair pairs (later.0, later.1) (first-block file pairs fault later.2)

-- of the parts
abbrev pub PartBad : List ℕ → IndexForm → BbtFault → IndexPair → Type 0
PartBad file form fault pair = WithinFails form.parted file (footer_start file) form pair fault

pub first-part : (file : List ℕ) (form : IndexForm) (pairs : List IndexPair) (fault : BbtFault) → PartsFail file (footer_start file) form pairs fault
    → FirstBad (PartBad file form fault) (LeadsWell file form) pairs
first-part file form [] fault fails = absurd fails
first-part file form (pair ∷ pairs) fault (inl bad) = bad-here (PartBad file form fault) (LeadsWell file form) pair pairs bad
first-part file form (pair ∷ pairs) fault (inr later) =
    bad-later (PartBad file form fault) (LeadsWell file form) pair pairs (later.0, later.1) (first-part file form pairs fault later.2)

-- what is bad behind a row: the part, or else a data block
pub record InnerBad (parted : Bool) (file : List ℕ) (form : IndexForm) (pair : IndexPair) (fault : BbtFault) : Type 0 where
  pub inner : List IndexPair
  pub says : SaysWithin parted file form pair inner
  pub held : parted ≡ true → (pairs : List IndexPair) × HoldsPairs file (footer_start file) form pair.handle pairs
  pub fails : BlocksFail file (footer_start file) inner fault

pub within-bad : (parted : Bool) (file : List ℕ) (form : IndexForm) (pair : IndexPair) (fault : BbtFault)
    → WithinFails parted file (footer_start file) form pair fault
    → ((parted ≡ true) × SomeBlockFails (Index form.user_key form.delta) file (footer_start file) pair.handle fault) ⊎ InnerBad parted file form pair fault
within-bad true file form pair fault (inl bad) = inl (refl, bad)
within-bad true file form pair fault (inr later) =
    inr (record { inner = later.0; says = later.1.says; held = λ is. (later.0, later.1); fails = later.2 })
within-bad false file form pair fault fails = inr (record { inner = pair ∷ []; says = refl; held = λ is. absurd (cc is); fails = fails })
