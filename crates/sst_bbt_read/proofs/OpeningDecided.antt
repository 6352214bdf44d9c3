-- Each file opens or fails to open, and not both, and it fails with one fault: the first thing in it that isn't good.
use Rattle.std.proofs.Common.{◌≡◌, ◌⊎◌, inl, inr, ℕ, Bool, true, false, List, [], ◌∷◌, Result, Ok, Err, refl, sym, ap, ◌∙◌, subst}
use Rattle.sst_num.specs.declared.block_handle.Handle.{Handle}
use Rattle.sst_block.specs.declared.row_form.RowForm.TheVariants.{Entries, Index}
use Rattle.sst_block.specs.IndexRows.{IndexPair}
use Rattle.sst_meta.specs.BlockFooter.{footer_start}
use Rattle.sst_meta.specs.IndexForms.{index_form}
use Rattle.sst_meta.specs.LoadReading.{load_read}
use Rattle.sst_meta.specs.Meta.{Meta}
use Rattle.sst_meta.specs.declared.index_form.IndexForm.{IndexForm}
use Rattle.sst_meta.specs.declared.loading.Loaded.{Loaded}
use Rattle.sst_meta.specs.declared.meta_fault.MetaFault.{MetaFault}
use Rattle.sst_meta.proofs.LoadsRead.{load-complete, load-sound, load-one}
use Rattle.sst_bbt_spec.specs.BlockBased.{Opens}
use Rattle.sst_bbt_spec.specs.IndexLeads.{LeadToBlocks, SaysPairs, LeadsWithin, LeadToParts}
use Rattle.sst_bbt_spec.specs.Parts.{Part, separator_of}
use Rattle.sst_bbt_spec.specs.Way.{IndexedBlock}
use Rattle.sst_bbt_spec.proofs.PartsLead.{says-one}
use Rattle.sst_bbt_read.specs.OpeningFaults.{BlocksFail, WithinFails, PartsFail, TreeFails, IndexFails, FailsToOpen}
use Rattle.sst_bbt_read.specs.declared.bbt_fault.BbtFault.{BbtFault}
use Rattle.sst_bbt_read.specs.declared.bbt_fault.BbtFault.TheVariants as bbt
use Rattle.sst_bbt_read.proofs.BlockDecided.{block-one, some-one}
use Rattle.sst_bbt_read.proofs.HeldDecided.{entries-either, entries-apart, says-either, says-apart, pairs-either, pairs-apart}

-- ---- the data blocks of a part

blocks-either : (file : List ℕ) (end : ℕ) (user_key : Bool) (pairs : List IndexPair)
    → ((blocks : List IndexedBlock) × LeadToBlocks file end user_key pairs blocks) ⊎ ((fault : BbtFault) × BlocksFail file end pairs fault)
blocks-either file end user_key [] = inl ([], refl)
blocks-either file end user_key (pair ∷ pairs) =
    elim (entries-either file end pair.handle) [
      | inr bad ↦ inr (bad.0, inl bad.1)
      | inl good ↦
          elim (blocks-either file end user_key pairs) [
            | inr bad ↦ inr (bad.0, inr (good.0, good.1, bad.1))
            | inl rest ↦
                inl (record { separator = separator_of user_key pair.separator; entries = good.0 } ∷ rest.0, (refl, good.1, rest.1))
          ]
    ]

blocks-apart : (file : List ℕ) (end : ℕ) (user_key : Bool) (pairs : List IndexPair) (blocks : List IndexedBlock) (fault : BbtFault)
    → LeadToBlocks file end user_key pairs blocks → BlocksFail file end pairs fault → ⊥
blocks-apart file end user_key [] blocks fault lead fails = fails
blocks-apart file end user_key (pair ∷ pairs) [] fault lead fails = lead
blocks-apart file end user_key (pair ∷ pairs) (block ∷ blocks) fault lead (inl bad) = entries-apart file end pair.handle block.entries fault lead.1 bad
blocks-apart file end user_key (pair ∷ pairs) (block ∷ blocks) fault lead (inr later) = blocks-apart file end user_key pairs blocks fault lead.2 later.2

blocks-one : (file : List ℕ) (end : ℕ) (pairs : List IndexPair) (a b : BbtFault) → BlocksFail file end pairs a → BlocksFail file end pairs b → a ≡ b
blocks-one file end [] a b left right = absurd left
blocks-one file end (pair ∷ pairs) a b (inl left) (inl right) = some-one Entries file end pair.handle a b left right
blocks-one file end (pair ∷ pairs) a b (inl left) (inr right) = absurd (entries-apart file end pair.handle right.0 a right.1 left)
blocks-one file end (pair ∷ pairs) a b (inr left) (inl right) = absurd (entries-apart file end pair.handle left.0 b left.1 right)
blocks-one file end (pair ∷ pairs) a b (inr left) (inr right) = blocks-one file end pairs a b left.2 right.2

-- ---- what a row of the top block leads to

within-either : (parted : Bool) (file : List ℕ) (end : ℕ) (form : IndexForm) (pair : IndexPair)
    → ((blocks : List IndexedBlock) × LeadsWithin parted file end form pair blocks) ⊎ ((fault : BbtFault) × WithinFails parted file end form pair fault)
within-either false file end form pair = blocks-either file end form.user_key (pair ∷ [])
within-either true file end form pair =
    elim (pairs-either file end form pair.handle) [
      | inr bad ↦ inr (bad.0, inl bad.1)
      | inl good ↦
          elim (blocks-either file end form.user_key good.0) [
            | inr bad ↦ inr (bad.0, inr (good.0, good.1, bad.1))
            | inl rest ↦ inl (rest.0, record { pairs = good.0; holds = good.1; lead = rest.1 })
          ]
    ]

within-apart : (parted : Bool) (file : List ℕ) (end : ℕ) (form : IndexForm) (pair : IndexPair) (blocks : List IndexedBlock) (fault : BbtFault)
    → LeadsWithin parted file end form pair blocks → WithinFails parted file end form pair fault → ⊥
within-apart false file end form pair blocks fault lead fails = blocks-apart file end form.user_key (pair ∷ []) blocks fault lead fails
within-apart true file end form pair blocks fault part (inl bad) = pairs-apart file end form pair.handle part.pairs fault part.holds bad
within-apart true file end form pair blocks fault part (inr later) =
    let same = says-one file end form pair.handle later.0 part.pairs later.1.says part.holds.says in
    blocks-apart file end form.user_key part.pairs blocks fault part.lead (subst (λ (all : List IndexPair). BlocksFail file end all fault) same later.2)

within-one : (parted : Bool) (file : List ℕ) (end : ℕ) (form : IndexForm) (pair : IndexPair) (a b : BbtFault) → WithinFails parted file end form pair a
    → WithinFails parted file end form pair b → a ≡ b
within-one false file end form pair a b left right = blocks-one file end (pair ∷ []) a b left right
within-one true file end form pair a b (inl left) (inl right) = some-one (Index form.user_key form.delta) file end pair.handle a b left right
within-one true file end form pair a b (inl left) (inr right) = absurd (pairs-apart file end form pair.handle right.0 a right.1 left)
within-one true file end form pair a b (inr left) (inl right) = absurd (pairs-apart file end form pair.handle left.0 b left.1 right)
within-one true file end form pair a b (inr left) (inr right) =
    let same = says-one file end form pair.handle left.0 right.0 left.1.says right.1.says in
    blocks-one file end right.0 a b (subst (λ (all : List IndexPair). BlocksFail file end all a) same left.2) right.2

-- ---- the parts

parts-either : (file : List ℕ) (end : ℕ) (form : IndexForm) (pairs : List IndexPair)
    → ((parts : List Part) × LeadToParts file end form pairs parts) ⊎ ((fault : BbtFault) × PartsFail file end form pairs fault)
parts-either file end form [] = inl ([], refl)
parts-either file end form (pair ∷ pairs) =
    elim (within-either form.parted file end form pair) [
      | inr bad ↦ inr (bad.0, inl bad.1)
      | inl good ↦
          elim (parts-either file end form pairs) [
            | inr bad ↦ inr (bad.0, inr (good.0, good.1, bad.1))
            | inl rest ↦
                inl (record { separator = separator_of form.user_key pair.separator; blocks = good.0 } ∷ rest.0, (refl, good.1, rest.1))
          ]
    ]

parts-apart : (file : List ℕ) (end : ℕ) (form : IndexForm) (pairs : List IndexPair) (parts : List Part) (fault : BbtFault)
    → LeadToParts file end form pairs parts → PartsFail file end form pairs fault → ⊥
parts-apart file end form [] parts fault lead fails = fails
parts-apart file end form (pair ∷ pairs) [] fault lead fails = lead
parts-apart file end form (pair ∷ pairs) (part ∷ parts) fault lead (inl bad) = within-apart form.parted file end form pair part.blocks fault lead.1 bad
parts-apart file end form (pair ∷ pairs) (part ∷ parts) fault lead (inr later) = parts-apart file end form pairs parts fault lead.2 later.2

parts-one : (file : List ℕ) (end : ℕ) (form : IndexForm) (pairs : List IndexPair) (a b : BbtFault) → PartsFail file end form pairs a
    → PartsFail file end form pairs b → a ≡ b
parts-one file end form [] a b left right = absurd left
parts-one file end form (pair ∷ pairs) a b (inl left) (inl right) = within-one form.parted file end form pair a b left right
parts-one file end form (pair ∷ pairs) a b (inl left) (inr right) = absurd (within-apart form.parted file end form pair right.0 a right.1 left)
parts-one file end form (pair ∷ pairs) a b (inr left) (inl right) = absurd (within-apart form.parted file end form pair left.0 b left.1 right)
parts-one file end form (pair ∷ pairs) a b (inr left) (inr right) = parts-one file end form pairs a b left.2 right.2

-- ---- the tree

-- the tree of the index with its top block at the handle
record Tree (file : List ℕ) (end : ℕ) (form : IndexForm) (h : Handle) : Type 0 where
  pairs : List IndexPair
  top : SaysPairs file end form h pairs
  parts : List Part
  lead : LeadToParts file end form pairs parts

tree-either : (file : List ℕ) (end : ℕ) (form : IndexForm) (h : Handle) → Tree file end form h ⊎ ((fault : BbtFault) × TreeFails file end form h fault)
tree-either file end form h =
    elim (says-either file end form h) [
      | inr bad ↦ inr (bad.0, inl bad.1)
      | inl good ↦
          elim (parts-either file end form good.0) [
            | inr bad ↦ inr (bad.0, inr (good.0, good.1, bad.1))
            | inl rest ↦ inl (record { pairs = good.0; top = good.1; parts = rest.0; lead = rest.1 })
          ]
    ]

tree-apart : (file : List ℕ) (end : ℕ) (form : IndexForm) (h : Handle) (fault : BbtFault) → Tree file end form h → TreeFails file end form h fault → ⊥
tree-apart file end form h fault tree (inl bad) = says-apart file end form h tree.pairs fault tree.top bad
tree-apart file end form h fault tree (inr later) =
    let same = says-one file end form h later.0 tree.pairs later.1 tree.top in
    parts-apart file end form tree.pairs tree.parts fault tree.lead (subst (λ (all : List IndexPair). PartsFail file end form all fault) same later.2)

tree-one : (file : List ℕ) (end : ℕ) (form : IndexForm) (h : Handle) (a b : BbtFault) → TreeFails file end form h a → TreeFails file end form h b → a ≡ b
tree-one file end form h a b (inl left) (inl right) = block-one (Index form.user_key form.delta) file end h a b left right
tree-one file end form h a b (inl left) (inr right) = absurd (says-apart file end form h right.0 a right.1 left)
tree-one file end form h a b (inr left) (inl right) = absurd (says-apart file end form h left.0 b left.1 right)
tree-one file end form h a b (inr left) (inr right) =
    let same = says-one file end form h left.0 right.0 left.1 right.1 in
    parts-one file end form right.0 a b (subst (λ (all : List IndexPair). PartsFail file end form all a) same left.2) right.2

-- ---- the file

-- the fault of the index, under what the file says of itself
tree-of : (file : List ℕ) (loaded : Loaded) (fault : BbtFault) → Meta file loaded → IndexFails file fault
    → TreeFails file (footer_start file) (index_form loaded.props) loaded.footer.index fault
tree-of file loaded fault meta fails =
    subst (λ (l : Loaded). TreeFails file (footer_start file) (index_form l.props) l.footer.index fault) (load-one file fails.0 loaded fails.1 meta) fails.2

-- a file that says of itself what it must is loaded
no-loading : (file : List ℕ) (loaded : Loaded) (wrong : MetaFault) → Meta file loaded → load_read file ≡ Err wrong → ⊥
no-loading file loaded wrong meta e = cc (load-complete file loaded meta, e)

-- each file opens or fails
pub opens-or_fails : (file : List ℕ) → ((parts : List Part) × Opens file parts) ⊎ ((fault : BbtFault) × FailsToOpen file fault)
opens-or_fails file =
    elim (load_read file) as (λ (read : Result Loaded MetaFault). load_read file ≡ read
    → ((parts : List Part) × Opens file parts) ⊎ ((fault : BbtFault) × FailsToOpen file fault)) [
      | Err wrong ↦ λ is. inr (bbt.Meta wrong, inl (wrong, refl, is))
      | Ok loaded ↦ λ is.
          let meta = load-sound file loaded is in
          elim (tree-either file (footer_start file) (index_form loaded.props) loaded.footer.index) [
            | inl tree ↦
                inl (tree.parts, record { loaded = loaded; meta = meta; pairs = tree.pairs; top = tree.top; lead = tree.lead })
            | inr bad ↦ inr (bad.0, inr (loaded, meta, bad.1))
          ]
    ] refl

-- none does both
pub opens-apart_fails : (file : List ℕ) (parts : List Part) (fault : BbtFault) → Opens file parts → FailsToOpen file fault → ⊥
opens-apart_fails file parts fault o (inl loading) = no-loading file o.loaded loading.0 o.meta loading.2
opens-apart_fails file parts fault o (inr index) =
    tree-apart file (footer_start file) (index_form o.loaded.props) o.loaded.footer.index fault
    (record { pairs = o.pairs; top = o.top; parts = parts; lead = o.lead }) (tree-of file o.loaded fault o.meta index)

-- it fails with one fault
pub fails-one : (file : List ℕ) (a b : BbtFault) → FailsToOpen file a → FailsToOpen file b → a ≡ b
fails-one file a b (inl left) (inl right) =
    let same : left.0 ≡ right.0 = cc (left.2, right.2) in
    left.1 ∙ ap bbt.Meta same ∙ sym right.1
fails-one file a b (inl left) (inr right) = absurd (no-loading file right.0 left.0 right.1 left.2)
fails-one file a b (inr left) (inl right) = absurd (no-loading file left.0 right.0 left.1 right.2)
fails-one file a b (inr left) (inr right) =
    tree-one file (footer_start file) (index_form right.0.props) right.0.footer.index a b (tree-of file right.0 a right.1 left) right.2
