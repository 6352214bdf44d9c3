-- What the rows of an index lead to: the blocks are sound, and they and the parts are told by the bytes.
use Rattle.std.proofs.Common.{◌≡◌, ℕ, ◌<◌, Bool, true, false, List, [], ◌∷◌, length, refl, sym, ap, ◌∙◌, subst, arith}
use Rattle.sst_num.specs.declared.block_handle.Handle.{Handle}
use Rattle.sst_key.specs.declared.entries.Entry.{Entry}
use Rattle.sst_block.specs.declared.row_form.RowForm.TheVariants.{Entries}
use Rattle.sst_block.specs.IndexRows.{IndexPair, IndexRows}
use Rattle.sst_block.proofs.OneReading.{one-pairs}
use Rattle.sst_meta.specs.BlockFooter.{footer_start}
use Rattle.sst_meta.specs.IndexForms.{index_form}
use Rattle.sst_meta.specs.declared.index_form.IndexForm.{IndexForm}
use Rattle.sst_meta.specs.declared.loading.Loaded.{Loaded}
use Rattle.sst_meta.proofs.LoadsRead.{load-one}
use Rattle.sst_bbt_spec.specs.Rows.{rows_of}
use Rattle.sst_bbt_spec.specs.Way.{IndexedBlock}
use Rattle.sst_bbt_spec.specs.Parts.{Part, stored_in}
use Rattle.sst_bbt_spec.specs.BlockBased.{BlockBased, Opens}
use Rattle.sst_bbt_spec.specs.IndexLeads.{HoldsEntries, SaysPairs, LeadToBlocks, LeadsWithin, LeadToParts}
use Rattle.sst_bbt_spec.proofs.EntriesOfRows.{rows_of-one, entries-ordered}
use Rattle.sst_bbt_spec.proofs.OneList.{framed-one, block-made}
use Rattle.sst_bbt_spec.proofs.PartOrder.{IsSoundPart, AreSoundParts}
use Rattle.sst_bbt_spec.proofs.SeparatedBlocks.{IsSound, AreSound}

-- ---- sound

held-sound : (file : List ℕ) (end : ℕ) (handle : Handle) (block : IndexedBlock) → HoldsEntries file end handle block.entries → IsSound block
held-sound file end handle block held =
    record { some = held.some; ordered = entries-ordered block.entries held.seqs held.rows.ordered; seqs = held.seqs }

blocks-sound : (file : List ℕ) (end : ℕ) (user_keys : Bool) (pairs : List IndexPair) (blocks : List IndexedBlock)
    → LeadToBlocks file end user_keys pairs blocks → AreSound blocks
blocks-sound file end user_keys [] [] lead = tt
blocks-sound file end user_keys [] (block ∷ blocks) lead = cc
blocks-sound file end user_keys (pair ∷ pairs) [] lead = absurd lead
blocks-sound file end user_keys (pair ∷ pairs) (block ∷ blocks) lead =
    (held-sound file end pair.handle block lead.1, blocks-sound file end user_keys pairs blocks lead.2)

blocks-some : (file : List ℕ) (end : ℕ) (user_keys : Bool) (pairs : List IndexPair) (blocks : List IndexedBlock)
    → LeadToBlocks file end user_keys pairs blocks → 0 < length pairs → 0 < length blocks
blocks-some file end user_keys [] blocks lead some = absurd (omega (arith, some))
blocks-some file end user_keys (pair ∷ pairs) [] lead some = absurd lead
blocks-some file end user_keys (pair ∷ pairs) (block ∷ blocks) lead some = omega arith

part-led : (parted : Bool) (file : List ℕ) (end : ℕ) (form : IndexForm) (pair : IndexPair) (part : Part)
    → LeadsWithin parted file end form pair part.blocks → IsSoundPart part
part-led true file end form pair part held =
    record {
      some = blocks-some file end form.user_key held.pairs part.blocks held.lead held.holds.some;
      blocks = blocks-sound file end form.user_key held.pairs part.blocks held.lead;
    }
part-led false file end form pair part lead =
    record {
      some = blocks-some file end form.user_key (pair ∷ []) part.blocks lead (omega arith);
      blocks = blocks-sound file end form.user_key (pair ∷ []) part.blocks lead;
    }

pub parts-sound : (file : List ℕ) (end : ℕ) (form : IndexForm) (pairs : List IndexPair) (parts : List Part)
    → LeadToParts file end form pairs parts → AreSoundParts parts
parts-sound file end form [] [] lead = tt
parts-sound file end form [] (part ∷ parts) lead = cc
parts-sound file end form (pair ∷ pairs) [] lead = absurd lead
parts-sound file end form (pair ∷ pairs) (part ∷ parts) lead =
    (part-led form.parted file end form pair part lead.1, parts-sound file end form pairs parts lead.2)

-- ---- one

held-one : (file : List ℕ) (end : ℕ) (handle : Handle) (a b : List Entry) → HoldsEntries file end handle a → HoldsEntries file end handle b → a ≡ b
held-one file end handle a b left right =
    let rows = framed-one Entries file end handle handle left.block right.block (rows_of a) (rows_of b) refl left.framed right.framed left.rows right.rows in
    rows_of-one a b left.seqs right.seqs rows

blocks-one : (file : List ℕ) (end : ℕ) (user_keys : Bool) (pairs : List IndexPair) (a b : List IndexedBlock)
    → LeadToBlocks file end user_keys pairs a → LeadToBlocks file end user_keys pairs b → a ≡ b
blocks-one file end user_keys [] a b left right = left ∙ sym right
blocks-one file end user_keys (pair ∷ pairs) [] b left right = absurd left
blocks-one file end user_keys (pair ∷ pairs) (x ∷ a) [] left right = absurd right
blocks-one file end user_keys (pair ∷ pairs) (x ∷ a) (y ∷ b) left right =
    let entries = held-one file end pair.handle x.entries y.entries left.1 right.1 in
    let head : x ≡ y = block-made x.separator y.separator x.entries y.entries (sym left.0 ∙ right.0) entries in
    let tail = blocks-one file end user_keys pairs a b left.2 right.2 in
    ap (λ (e : IndexedBlock). e ∷ a) head ∙ ap (λ (l : List IndexedBlock). y ∷ l) tail

-- the pairs of the index block at a handle
pub says-one : (file : List ℕ) (end : ℕ) (form : IndexForm) (handle : Handle) (a b : List IndexPair) → SaysPairs file end form handle a
    → SaysPairs file end form handle b → a ≡ b
says-one file end form handle a b left right =
    let bytes : right.block ≡ left.block = sym right.framed.stands ∙ left.framed.stands in
    one-pairs form.user_key form.delta left.block a b left.rows (subst (λ (l : List ℕ). IndexRows form.user_key form.delta l b) bytes right.rows)

within-one : (parted : Bool) (file : List ℕ) (end : ℕ) (form : IndexForm) (pair : IndexPair) (a b : List IndexedBlock)
    → LeadsWithin parted file end form pair a → LeadsWithin parted file end form pair b → a ≡ b
within-one true file end form pair a b left right =
    let pairs = says-one file end form pair.handle left.pairs right.pairs left.holds.says right.holds.says in
    blocks-one file end form.user_key left.pairs a b left.lead
    (subst (λ (all : List IndexPair). LeadToBlocks file end form.user_key all b) (sym pairs) right.lead)
within-one false file end form pair a b left right = blocks-one file end form.user_key (pair ∷ []) a b left right

pub part-made : (a b : List ℕ) (xs ys : List IndexedBlock) → a ≡ b → xs ≡ ys
    → ◌≡◌ {A = Part} (record { separator = a; blocks = xs }) (record { separator = b; blocks = ys })
part-made a b xs ys same are = rw (same, are) refl

parts-one : (file : List ℕ) (end : ℕ) (form : IndexForm) (pairs : List IndexPair) (a b : List Part)
    → LeadToParts file end form pairs a → LeadToParts file end form pairs b → a ≡ b
parts-one file end form [] a b left right = left ∙ sym right
parts-one file end form (pair ∷ pairs) [] b left right = absurd left
parts-one file end form (pair ∷ pairs) (x ∷ a) [] left right = absurd right
parts-one file end form (pair ∷ pairs) (x ∷ a) (y ∷ b) left right =
    let blocks = within-one form.parted file end form pair x.blocks y.blocks left.1 right.1 in
    let head : x ≡ y = part-made x.separator y.separator x.blocks y.blocks (sym left.0 ∙ right.0) blocks in
    let tail = parts-one file end form pairs a b left.2 right.2 in
    ap (λ (p : Part). p ∷ a) head ∙ ap (λ (l : List Part). y ∷ l) tail

-- ---- the file opens to one list of parts, and stands for one list of entries

-- the index as some loaded properties and footer tell it
abbrev pub SaysAll : List ℕ → List IndexPair → Loaded → Type 0
SaysAll file pairs loaded = SaysPairs file (footer_start file) (index_form loaded.props) loaded.footer.index pairs

abbrev pub LeadAll : List ℕ → List Part → List IndexPair → Loaded → Type 0
LeadAll file parts pairs loaded = LeadToParts file (footer_start file) (index_form loaded.props) pairs parts

pub opens-one : (file : List ℕ) (a b : List Part) → Opens file a → Opens file b → a ≡ b
opens-one file a b left right =
    let loaded = load-one file left.loaded right.loaded left.meta right.meta in
    let there : SaysAll file right.pairs left.loaded = subst (SaysAll file right.pairs) (sym loaded) right.top in
    let pairs = says-one file (footer_start file) (index_form left.loaded.props) left.loaded.footer.index left.pairs right.pairs left.top there in
    let lead : LeadAll file b right.pairs left.loaded = subst (LeadAll file b right.pairs) (sym loaded) right.lead in
    parts-one file (footer_start file) (index_form left.loaded.props) left.pairs a b left.lead
    (subst (λ (all : List IndexPair). LeadAll file b all left.loaded) (sym pairs) lead)

pub stands-one : (file : List ℕ) (a b : List Entry) → BlockBased file a → BlockBased file b → a ≡ b
stands-one file a b left right =
    let parts = opens-one file left.parts right.parts left.opens right.opens in
    sym left.runs.joined_is ∙ ap stored_in parts ∙ right.runs.joined_is
