-- What a step of opening looks at, under what the file says of itself: a part by its row in the top block, a data block by
-- its row in the part.
use Rattle.std.proofs.Common.{◌≡◌, ℕ, zero, suc, Bool, true, false, List, [], ◌∷◌, Some, slice_get, refl, sym, ap, ◌∙◌, subst}
use Rattle.sst_num.specs.declared.block_handle.Handle.{Handle}
use Rattle.sst_block.specs.declared.row_form.RowForm.TheVariants.{Entries, Index}
use Rattle.sst_block.specs.IndexRows.{IndexPair}
use Rattle.sst_meta.specs.BlockFooter.{footer_start}
use Rattle.sst_meta.specs.IndexForms.{index_form}
use Rattle.sst_meta.specs.Meta.{Meta}
use Rattle.sst_meta.specs.declared.index_form.IndexForm.{IndexForm}
use Rattle.sst_meta.specs.declared.loading.Loaded.{Loaded}
use Rattle.sst_meta.proofs.LoadsRead.{load-one}
use Rattle.sst_bbt_spec.specs.IndexLeads.{SaysPairs}
use Rattle.sst_bbt_spec.specs.Reached.{HasTop, LeadsOn, LeadsToPart, LeadsInside}
use Rattle.sst_bbt_spec.proofs.PartsLead.{says-one}
use Rattle.sst_bbt_read.specs.OpeningFaults.{BlockFails, SomeBlockFails}
use Rattle.sst_bbt_read.specs.OpeningSteps.{top_block, part_block, data_block, OpeningFailsAt}
use Rattle.sst_bbt_read.specs.declared.bbt_fault.BbtFault.{BbtFault}

-- the file says of itself where its top block stands, and what form its index has
pub record Said (file : List ℕ) : Type 0 where
  pub loaded : Loaded
  pub meta : Meta file loaded

abbrev pub form_of : (file : List ℕ) → Said file → IndexForm
form_of file said = index_form said.loaded.props

abbrev pub top_of : (file : List ℕ) → Said file → Handle
top_of file said = said.loaded.footer.index

-- and there stands a top block
pub record Known (file : List ℕ) : Type 0 where
  pub said : Said file
  pub pairs : List IndexPair
  pub says : SaysPairs file (footer_start file) (form_of file said) (top_of file said) pairs

-- the pairs of the part to which a row of the top block leads: in a whole index the row itself
abbrev pub SaysWithin : Bool → List ℕ → IndexForm → IndexPair → List IndexPair → Type 0
SaysWithin true file form pair inner = SaysPairs file (footer_start file) form pair.handle inner
SaysWithin false file form pair inner = inner ≡ pair ∷ []

pub within-once : (parted : Bool) (file : List ℕ) (form : IndexForm) (pair : IndexPair) (a b : List IndexPair) → SaysWithin parted file form pair a
    → SaysWithin parted file form pair b → a ≡ b
within-once true file form pair a b left right = says-one file (footer_start file) form pair.handle a b left right
within-once false file form pair a b left right = left ∙ sym right

-- the part to which the row of this number in the top block leads fails
pub record PartRow (file : List ℕ) (form : IndexForm) (pairs : List IndexPair) (i : ℕ) (fault : BbtFault) : Type 0 where
  pub parted : form.parted ≡ true
  pub pair : IndexPair
  pub row : slice_get pairs i ≡ Some pair
  pub fails : SomeBlockFails (Index form.user_key form.delta) file (footer_start file) pair.handle fault

-- the row of a number in the part to which the row of another number in the top block leads
pub record InnerRow (parted : Bool) (file : List ℕ) (form : IndexForm) (pairs : List IndexPair) (i j : ℕ) : Type 0 where
  pub pair : IndexPair
  pub row : slice_get pairs i ≡ Some pair
  pub inner : List IndexPair
  pub says : SaysWithin parted file form pair inner
  pub inner_pair : IndexPair
  pub inner_row : slice_get inner j ≡ Some inner_pair

-- the data block of that row fails
pub record DataRow (file : List ℕ) (form : IndexForm) (pairs : List IndexPair) (i j : ℕ) (fault : BbtFault) : Type 0 where
  pub at : InnerRow form.parted file form pairs i j
  pub fails : SomeBlockFails Entries file (footer_start file) at.inner_pair.handle fault

-- ---- a step that fails, by its rows

-- the form and the top block are those that the file says
has-top : (file : List ℕ) (said : Said file) → HasTop file (form_of file said) (top_of file said)
has-top file said = record { loaded = said.loaded; meta = said.meta; form_is = refl; handle_is = refl }

one-form : (file : List ℕ) (said : Said file) (form : IndexForm) (h : Handle) → HasTop file form h → form ≡ form_of file said
one-form file said form h has =
    has.form_is ∙ ap (λ (l : Loaded). index_form l.props) (load-one file has.loaded said.loaded has.meta said.meta)

one-top : (file : List ℕ) (said : Said file) (form : IndexForm) (h : Handle) → HasTop file form h → h ≡ top_of file said
one-top file said form h has =
    has.handle_is ∙ ap (λ (l : Loaded). l.footer.index) (load-one file has.loaded said.loaded has.meta said.meta)

-- the top block fails
pub top-fails : (file : List ℕ) (said : Said file) (fault : BbtFault) → OpeningFailsAt file top_block fault
    → BlockFails (Index (form_of file said).user_key (form_of file said).delta) file (footer_start file) (top_of file said) fault
top-fails file said fault (form, h, has, fails) =
    subst (λ (f : IndexForm). BlockFails (Index f.user_key f.delta) file (footer_start file) (top_of file said) fault) (one-form file said form h has)
    (subst (λ (k : Handle). BlockFails (Index form.user_key form.delta) file (footer_start file) k fault) (one-top file said form h has) fails)

pub fails-top : (file : List ℕ) (said : Said file) (fault : BbtFault)
    → BlockFails (Index (form_of file said).user_key (form_of file said).delta) file (footer_start file) (top_of file said) fault
    → OpeningFailsAt file top_block fault
fails-top file said fault fails = (form_of file said, top_of file said, has-top file said, fails)

-- a row that some pairs of the top block have
row-moved : (file : List ℕ) (said : Said file) (pairs : List IndexPair) (top : Handle) (i : ℕ) (h : Handle)
    → SaysPairs file (footer_start file) (form_of file said) (top_of file said) pairs → HasTop file (form_of file said) top
    → LeadsOn file (form_of file said) top i h → (pair : IndexPair) × (slice_get pairs i ≡ Some pair) × (pair.handle ≡ h)
row-moved file said pairs top i h says has on =
    let end = footer_start file in
    let form = form_of file said in
    let there : SaysPairs file end form (top_of file said) on.pairs =
    subst (λ (k : Handle). SaysPairs file end form k on.pairs) (one-top file said form top has) on.says in
    let same = says-one file end form (top_of file said) pairs on.pairs says there in
    (on.pair, ap (λ (all : List IndexPair). slice_get all i) same ∙ on.row, on.handle_is)

-- a part fails by its row
part-row-of : (file : List ℕ) (said : Said file) (pairs : List IndexPair) (i : ℕ) (h : Handle) (fault : BbtFault)
    → SaysPairs file (footer_start file) (form_of file said) (top_of file said) pairs → LeadsToPart file (form_of file said) i h
    → SomeBlockFails (Index (form_of file said).user_key (form_of file said).delta) file (footer_start file) h fault
    → PartRow file (form_of file said) pairs i fault
part-row-of file said pairs i h fault says (parted, top, has, on) fails =
    let form = form_of file said in
    let moved = row-moved file said pairs top i h says has on in
    record {
      parted = parted;
      pair = moved.0;
      row = moved.1;
      fails = subst (λ (k : Handle). SomeBlockFails (Index form.user_key form.delta) file (footer_start file) k fault) (sym moved.2) fails;
    }

-- the form of the index of a step
abbrev PartAt : List ℕ → ℕ → BbtFault → IndexForm → Type 0
PartAt file i fault form =
    (h : Handle) × LeadsToPart file form i h × SomeBlockFails (Index form.user_key form.delta) file (footer_start file) h fault

pub part-row : (file : List ℕ) (said : Said file) (pairs : List IndexPair) (i : ℕ) (fault : BbtFault)
    → SaysPairs file (footer_start file) (form_of file said) (top_of file said) pairs → OpeningFailsAt file (part_block i) fault
    → PartRow file (form_of file said) pairs i fault
part-row file said pairs i fault says (form, h, leads, fails) =
    let at = subst (PartAt file i fault) (one-form file said form leads.1 leads.2) (h, leads, fails) in
    part-row-of file said pairs i at.0 fault says at.1 at.2

-- a row of the top block leads on, and in an index of parts to a part
row-leads : (file : List ℕ) (said : Said file) (pairs : List IndexPair) (i : ℕ) (pair : IndexPair)
    → SaysPairs file (footer_start file) (form_of file said) (top_of file said) pairs → slice_get pairs i ≡ Some pair
    → LeadsOn file (form_of file said) (top_of file said) i pair.handle
row-leads file said pairs i pair says row = record { pairs = pairs; says = says; pair = pair; row = row; handle_is = refl }

row-to_part : (file : List ℕ) (said : Said file) (pairs : List IndexPair) (i : ℕ) (pair : IndexPair)
    → SaysPairs file (footer_start file) (form_of file said) (top_of file said) pairs → slice_get pairs i ≡ Some pair → (form_of file said).parted ≡ true
    → LeadsToPart file (form_of file said) i pair.handle
row-to_part file said pairs i pair says row parted = (parted, top_of file said, has-top file said, row-leads file said pairs i pair says row)

pub row-part : (file : List ℕ) (said : Said file) (pairs : List IndexPair) (i : ℕ) (fault : BbtFault)
    → SaysPairs file (footer_start file) (form_of file said) (top_of file said) pairs → PartRow file (form_of file said) pairs i fault
    → OpeningFailsAt file (part_block i) fault
row-part file said pairs i fault says at =
    let leads = row-to_part file said pairs i at.pair says at.row at.parted in
    (form_of file said, at.pair.handle, leads, at.fails)

-- a data block fails by its rows
inner-row : (parted : Bool) (file : List ℕ) (said : Said file) (pairs : List IndexPair) (i j : ℕ) (h : Handle)
    → SaysPairs file (footer_start file) (form_of file said) (top_of file said) pairs → LeadsInside parted file (form_of file said) i j h
    → (at : InnerRow parted file (form_of file said) pairs i j) × (at.inner_pair.handle ≡ h)
inner-row true file said pairs i j h says (part, leads, on) =
    let form = form_of file said in
    let moved = row-moved file said pairs leads.1 i part says leads.2 leads.3 in
    let there = subst (λ (k : Handle). SaysPairs file (footer_start file) form k on.pairs) (sym moved.2) on.says in
    (record { pair = moved.0; row = moved.1; inner = on.pairs; says = there; inner_pair = on.pair; inner_row = on.row }, on.handle_is)
inner-row false file said pairs i j h says (first, top, has, on) =
    let moved = row-moved file said pairs top i h says has on in
    let pair = moved.0 in
    (record { pair = pair; row = moved.1; inner = pair ∷ []; says = refl; inner_pair = pair; inner_row = ap (slice_get (pair ∷ [])) first }, moved.2)

-- the one row of a whole index's part
only-by : (pair inner_pair : IndexPair) (j : ℕ) → slice_get (pair ∷ []) j ≡ Some inner_pair → (j ≡ 0) × (pair ≡ inner_pair)
only-by pair inner_pair zero row = let same : pair ≡ inner_pair = cc in (refl, same)
only-by pair inner_pair (suc j) row = cc

only-row : (pair inner_pair : IndexPair) (inner : List IndexPair) (j : ℕ) → inner ≡ pair ∷ [] → slice_get inner j ≡ Some inner_pair
    → (j ≡ 0) × (pair ≡ inner_pair)
only-row pair inner_pair inner j one row = only-by pair inner_pair j (ap (λ (all : List IndexPair). slice_get all j) (sym one) ∙ row)

row-inner : (parted : Bool) (file : List ℕ) (said : Said file) (pairs : List IndexPair) (i j : ℕ) → (form_of file said).parted ≡ parted
    → SaysPairs file (footer_start file) (form_of file said) (top_of file said) pairs → (at : InnerRow parted file (form_of file said) pairs i j)
    → LeadsInside parted file (form_of file said) i j at.inner_pair.handle
row-inner true file said pairs i j parted says at =
    let leads = row-to_part file said pairs i at.pair says at.row parted in
    (at.pair.handle, leads, record { pairs = at.inner; says = at.says; pair = at.inner_pair; row = at.inner_row; handle_is = refl })
row-inner false file said pairs i j parted says at =
    let only = only-row at.pair at.inner_pair at.inner j at.says at.inner_row in
    let row = at.row ∙ ap Some only.1 in
    (only.0, top_of file said, has-top file said, row-leads file said pairs i at.inner_pair says row)

-- the form of the index of a step
abbrev DataAt : List ℕ → ℕ → ℕ → BbtFault → IndexForm → Type 0
DataAt file i j fault form = (h : Handle) × LeadsInside form.parted file form i j h × SomeBlockFails Entries file (footer_start file) h fault

-- whatever the form is, a data block is reached from the top block
inside-top : (parted : Bool) (file : List ℕ) (form : IndexForm) (i j : ℕ) (h : Handle) → LeadsInside parted file form i j h
    → (top : Handle) × HasTop file form top
inside-top true file form i j h (part, leads, on) = (leads.1, leads.2)
inside-top false file form i j h (first, top, has, on) = (top, has)

pub data-row : (file : List ℕ) (said : Said file) (pairs : List IndexPair) (i j : ℕ) (fault : BbtFault)
    → SaysPairs file (footer_start file) (form_of file said) (top_of file said) pairs → OpeningFailsAt file (data_block i j) fault
    → DataRow file (form_of file said) pairs i j fault
data-row file said pairs i j fault says (form, h, leads, fails) =
    let top = inside-top form.parted file form i j h leads in
    let at = subst (DataAt file i j fault) (one-form file said form top.0 top.1) (h, leads, fails) in
    let row = inner-row (form_of file said).parted file said pairs i j at.0 says at.1 in
    record { at = row.0; fails = subst (λ (k : Handle). SomeBlockFails Entries file (footer_start file) k fault) (sym row.1) at.2 }

pub row-data : (file : List ℕ) (said : Said file) (pairs : List IndexPair) (i j : ℕ) (fault : BbtFault)
    → SaysPairs file (footer_start file) (form_of file said) (top_of file said) pairs → DataRow file (form_of file said) pairs i j fault
    → OpeningFailsAt file (data_block i j) fault
row-data file said pairs i j fault says data_row =
    let at = data_row.at in
    let leads = row-inner (form_of file said).parted file said pairs i j refl says at in
    (form_of file said, at.inner_pair.handle, leads, data_row.fails)

-- ---- what is known where a step fails

-- where the top block stands is said
abbrev pub top-said : (file : List ℕ) (form : IndexForm) (h : Handle) → HasTop file form h → Said file
top-said file form h has = record { loaded = has.loaded; meta = has.meta }

-- a row of the top block is one of a top block that is known
known-row : (file : List ℕ) (form : IndexForm) (top : Handle) (i : ℕ) (h : Handle) → HasTop file form top → LeadsOn file form top i h → Known file
known-row file form top i h has on =
    let end = footer_start file in
    let said = top-said file form top has in
    let there : SaysPairs file end form (top_of file said) on.pairs = subst (λ (k : Handle). SaysPairs file end form k on.pairs) has.handle_is on.says in
    record { said = said; pairs = on.pairs; says = subst (λ (f : IndexForm). SaysPairs file end f (top_of file said) on.pairs) has.form_is there }

pub known-part : (file : List ℕ) (i : ℕ) (form : IndexForm) (h : Handle) → LeadsToPart file form i h → Known file
known-part file i form h leads = known-row file form leads.1 i h leads.2 leads.3

pub known-data : (parted : Bool) (file : List ℕ) (i j : ℕ) (form : IndexForm) (h : Handle) → LeadsInside parted file form i j h → Known file
known-data true file i j form h leads = known-part file i form leads.0 leads.1
known-data false file i j form h leads = known-row file form leads.1 i h leads.2 leads.3
