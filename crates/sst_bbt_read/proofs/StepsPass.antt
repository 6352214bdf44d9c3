-- Steps of opening that don't fail, since what they look at is good; in a file that opens these are all.
use Rattle.std.proofs.Common.{◌≡◌, ℕ, zero, suc, Bool, true, false, List, [], ◌∷◌, Some, slice_get, refl, ap, ◌∙◌, subst}
use Rattle.sst_key.specs.declared.entries.Entry.{Entry}
use Rattle.sst_block.specs.IndexRows.{IndexPair}
use Rattle.sst_meta.specs.BlockFooter.{footer_start}
use Rattle.sst_meta.specs.LoadSteps.{LoadStep}
use Rattle.sst_meta.specs.declared.index_form.IndexForm.{IndexForm}
use Rattle.sst_meta.proofs.LoadsRead.{load-complete}
use Rattle.sst_meta.proofs.OneOrder.{load-none}
use Rattle.sst_bbt_spec.specs.BlockBased.{Opens}
use Rattle.sst_bbt_spec.specs.IndexLeads.{HoldsEntries, LeadToBlocks, SaysPairs, HoldsPairs, LeadsWithin, LeadToParts}
use Rattle.sst_bbt_spec.specs.Parts.{Part}
use Rattle.sst_bbt_spec.specs.Way.{IndexedBlock}
use Rattle.sst_bbt_read.specs.OpeningSteps.{OpenStep, loading, top_block, part_block, data_block, OpeningFailsAt}
use Rattle.sst_bbt_read.specs.declared.bbt_fault.BbtFault.{BbtFault}
use Rattle.sst_bbt_read.proofs.HeldDecided.{entries-apart, says-apart, pairs-apart}
use Rattle.sst_bbt_read.proofs.StepRows.{Said, form_of, top_of, SaysWithin, within-once, top-fails, part-row, data-row}

-- the step doesn't fail
abbrev pub Passes : List ℕ → OpenStep → Type 0
Passes file step = (fault : BbtFault) → OpeningFailsAt file step fault → ⊥

-- at the handle of a row stand entries
abbrev pub HasEntries : List ℕ → IndexPair → Type 0
HasEntries file pair = (entries : List Entry) × HoldsEntries file (footer_start file) pair.handle entries

-- what a row of the top block leads to is good
abbrev pub LeadsWell : List ℕ → IndexForm → IndexPair → Type 0
LeadsWell file form pair = (blocks : List IndexedBlock) × LeadsWithin form.parted file (footer_start file) form pair blocks

-- the part of a row is good, in an index of parts
abbrev pub HasPart : List ℕ → IndexForm → IndexPair → Type 0
HasPart file form pair = form.parted ≡ true → (inner : List IndexPair) × HoldsPairs file (footer_start file) form pair.handle inner

-- and so is the data block to which a row of it leads
abbrev pub HasData : List ℕ → IndexForm → ℕ → IndexPair → Type 0
HasData file form j pair =
    (inner : List IndexPair) × SaysWithin form.parted file form pair inner × ((p : IndexPair) → slice_get inner j ≡ Some p → HasEntries file p)

-- ---- one step

pub loading-passes : (file : List ℕ) → Said file → (step : LoadStep) → Passes file (loading step)
loading-passes file said step = λ fault fails. load-none file said.loaded step fails.0 (load-complete file said.loaded said.meta) fails.2

pub top-passes : (file : List ℕ) (said : Said file) (pairs : List IndexPair) → SaysPairs file (footer_start file) (form_of file said) (top_of file said) pairs
    → Passes file top_block
top-passes file said pairs says = λ fault fails.
    says-apart file (footer_start file) (form_of file said) (top_of file said) pairs fault says (top-fails file said fault fails)

pub part-passes : (file : List ℕ) (said : Said file) (pairs : List IndexPair) (i : ℕ) → SaysPairs file (footer_start file) (form_of file said) (top_of file said) pairs
    → ((pair : IndexPair) → slice_get pairs i ≡ Some pair → HasPart file (form_of file said) pair) → Passes file (part_block i)
part-passes file said pairs i says good = λ fault fails.
    let at = part-row file said pairs i fault says fails in
    let part = good at.pair at.row at.parted in
    pairs-apart file (footer_start file) (form_of file said) at.pair.handle part.0 fault part.1 at.fails

pub data-passes : (file : List ℕ) (said : Said file) (pairs : List IndexPair) (i j : ℕ) → SaysPairs file (footer_start file) (form_of file said) (top_of file said) pairs
    → ((pair : IndexPair) → slice_get pairs i ≡ Some pair → HasData file (form_of file said) j pair) → Passes file (data_block i j)
data-passes file said pairs i j says good = λ fault fails.
    let form = form_of file said in
    let found = data-row file said pairs i j fault says fails in
    let at = found.at in
    let led = good at.pair at.row in
    let same = within-once form.parted file form at.pair led.0 at.inner led.1 at.says in
    let held = led.2 at.inner_pair (ap (λ (all : List IndexPair). slice_get all j) same ∙ at.inner_row) in
    entries-apart file (footer_start file) at.inner_pair.handle held.0 fault held.1 found.fails

-- ---- the steps behind a row of the top block that leads well

-- each row of a part leads to entries
block-led : (file : List ℕ) (user_key : Bool) (pairs : List IndexPair) (blocks : List IndexedBlock) (j : ℕ) (pair : IndexPair)
    → LeadToBlocks file (footer_start file) user_key pairs blocks → slice_get pairs j ≡ Some pair → HasEntries file pair
block-led file user_key [] blocks j pair lead row = cc
block-led file user_key (first ∷ pairs) [] j pair lead row = absurd lead
block-led file user_key (first ∷ pairs) (block ∷ blocks) zero pair lead row =
    let same : first ≡ pair = cc in subst (HasEntries file) same (block.entries, lead.1)
block-led file user_key (first ∷ pairs) (block ∷ blocks) (suc j) pair lead row = block-led file user_key pairs blocks j pair lead.2 row

pub well-part : (parted : Bool) (file : List ℕ) (form : IndexForm) (pair : IndexPair) (blocks : List IndexedBlock)
    → LeadsWithin parted file (footer_start file) form pair blocks → parted ≡ true
    → (inner : List IndexPair) × HoldsPairs file (footer_start file) form pair.handle inner
well-part true file form pair blocks part is = (part.pairs, part.holds)
well-part false file form pair blocks lead is = absurd (cc is)

pub well-data : (parted : Bool) (file : List ℕ) (form : IndexForm) (pair : IndexPair) (blocks : List IndexedBlock) (j : ℕ)
    → LeadsWithin parted file (footer_start file) form pair blocks
    → (inner : List IndexPair) × SaysWithin parted file form pair inner × ((p : IndexPair) → slice_get inner j ≡ Some p → HasEntries file p)
well-data true file form pair blocks j part =
    (part.pairs, part.holds.says, λ p row. block-led file form.user_key part.pairs blocks j p part.lead row)
well-data false file form pair blocks j lead = (pair ∷ [], refl, λ p row. block-led file form.user_key (pair ∷ []) blocks j p lead row)

-- the rows of this number in the top block lead well
abbrev pub RowLeads : List ℕ → IndexForm → List IndexPair → ℕ → Type 0
RowLeads file form pairs i = (pair : IndexPair) → slice_get pairs i ≡ Some pair → LeadsWell file form pair

pub well-part_passes : (file : List ℕ) (said : Said file) (pairs : List IndexPair) (i : ℕ)
    → SaysPairs file (footer_start file) (form_of file said) (top_of file said) pairs → RowLeads file (form_of file said) pairs i → Passes file (part_block i)
well-part_passes file said pairs i says leads =
    let form = form_of file said in
    part-passes file said pairs i says (λ pair row is. let led = leads pair row in well-part form.parted file form pair led.0 led.1 is)

pub well-data_passes : (file : List ℕ) (said : Said file) (pairs : List IndexPair) (i j : ℕ)
    → SaysPairs file (footer_start file) (form_of file said) (top_of file said) pairs → RowLeads file (form_of file said) pairs i → Passes file (data_block i j)
well-data_passes file said pairs i j says leads =
    let form = form_of file said in
    data-passes file said pairs i j says (λ pair row. let led = leads pair row in well-data form.parted file form pair led.0 j led.1)

-- ---- a file that opens

part-led : (file : List ℕ) (form : IndexForm) (pairs : List IndexPair) (parts : List Part) (i : ℕ) → LeadToParts file (footer_start file) form pairs parts
    → RowLeads file form pairs i
part-led file form [] parts i lead pair row = cc
part-led file form (first ∷ pairs) [] i lead pair row = absurd lead
part-led file form (first ∷ pairs) (part ∷ parts) zero lead pair row =
    let same : first ≡ pair = cc in subst (LeadsWell file form) same (part.blocks, lead.1)
part-led file form (first ∷ pairs) (part ∷ parts) (suc i) lead pair row = part-led file form pairs parts i lead.2 pair row

-- no step fails
pub opens-passes : (file : List ℕ) (parts : List Part) (step : OpenStep) → Opens file parts → Passes file step
opens-passes file parts (loading step) o = loading-passes file (record { loaded = o.loaded; meta = o.meta }) step
opens-passes file parts top_block o = top-passes file (record { loaded = o.loaded; meta = o.meta }) o.pairs o.top
opens-passes file parts (part_block i) o =
    let said : Said file = record { loaded = o.loaded; meta = o.meta } in
    well-part_passes file said o.pairs i o.top (part-led file (form_of file said) o.pairs parts i o.lead)
opens-passes file parts (data_block i j) o =
    let said : Said file = record { loaded = o.loaded; meta = o.meta } in
    well-data_passes file said o.pairs i j o.top (part-led file (form_of file said) o.pairs parts i o.lead)
