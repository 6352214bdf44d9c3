-- The rows of the top block lead to the parts of the index, where the pairs of all parts lead to the data blocks.
use Rattle.std.proofs.Common.{◌≡◌, ℕ, zero, suc, ◌<◌, Bool, true, false, List, [], ◌∷◌, length, take, drop, map, refl, ap, ◌∙◌, sym, subst, arith}
use Rattle.sst_block.specs.IndexRows.{IndexPair}
use Rattle.sst_index.specs.declared.flags.IndexFlags.{IndexFlags}
use Rattle.sst_index.specs.IndexBlock.{index_block}
use Rattle.sst_index.specs.IndexBytes as index
use Rattle.sst_index.specs.IndexBytes.{in_parts, parts_of, top_pairs}
use Rattle.sst_index.specs.Partitions.{LeadsToPartition, LeadToPartitions}
use Rattle.sst_meta.specs.declared.index_form.IndexForm.{IndexForm}
use Rattle.sst_bbt_spec.specs.IndexLeads.{HoldsPart, LeadToBlocks, LeadToParts}
use Rattle.sst_bbt_spec.specs.Parts.{alone, separator_of}
use Rattle.sst_bbt_spec.specs.PartRuns.{last_separator}
use Rattle.sst_bbt_spec.specs.Way.{IndexedBlock}
use Rattle.sst_bbt_write.proofs.CutParts.{parts_in, parts_for}

-- the form of an index with these flags, whole or in parts of so many rows
abbrev pub is_parted : ℕ → Bool
is_parted zero = false
is_parted (suc k) = true

abbrev pub form_with : ℕ → IndexFlags → IndexForm
form_with parts flags = record { parted = is_parted parts; user_key = flags.user_key; delta = flags.delta }

-- fronts and backs of pairs lead to those of the blocks
lead-take : (file : List ℕ) (end : ℕ) (u : Bool) (n : ℕ) (pairs : List IndexPair) (blocks : List IndexedBlock) → LeadToBlocks file end u pairs blocks
    → LeadToBlocks file end u (take n pairs) (take n blocks)
lead-take file end u zero pairs blocks lead = refl
lead-take file end u (suc n) [] blocks lead = ap (take (suc n)) lead
lead-take file end u (suc n) (pair ∷ pairs) [] lead = absurd lead
lead-take file end u (suc n) (pair ∷ pairs) (block ∷ blocks) lead = (lead.0, lead.1, lead-take file end u n pairs blocks lead.2)

lead-drop : (file : List ℕ) (end : ℕ) (u : Bool) (n : ℕ) (pairs : List IndexPair) (blocks : List IndexedBlock) → LeadToBlocks file end u pairs blocks
    → LeadToBlocks file end u (drop n pairs) (drop n blocks)
lead-drop file end u zero pairs blocks lead = lead
lead-drop file end u (suc n) [] blocks lead = ap (drop (suc n)) lead
lead-drop file end u (suc n) (pair ∷ pairs) [] lead = absurd lead
lead-drop file end u (suc n) (pair ∷ pairs) (block ∷ blocks) lead = lead-drop file end u n pairs blocks lead.2

lead-long : (file : List ℕ) (end : ℕ) (u : Bool) (pairs : List IndexPair) (blocks : List IndexedBlock) → LeadToBlocks file end u pairs blocks → length pairs ≡ length blocks
lead-long file end u [] blocks lead = ap length (sym lead)
lead-long file end u (pair ∷ pairs) [] lead = absurd lead
lead-long file end u (pair ∷ pairs) (block ∷ blocks) lead = ap suc (lead-long file end u pairs blocks lead.2)

-- the last separators are the same
lead-last : (file : List ℕ) (end : ℕ) (u : Bool) (before after : List ℕ) (pairs : List IndexPair) (blocks : List IndexedBlock) → separator_of u before ≡ after
    → LeadToBlocks file end u pairs blocks → separator_of u (index.last_separator before pairs) ≡ last_separator after blocks
lead-last file end u before after [] blocks same lead = same ∙ ap (last_separator after) (sym lead)
lead-last file end u before after (pair ∷ pairs) [] same lead = absurd lead
lead-last file end u before after (pair ∷ pairs) (block ∷ blocks) same lead = lead-last file end u pair.separator block.separator pairs blocks lead.0 lead.2

-- a whole index
whole-leads : (file : List ℕ) (end : ℕ) (flags : IndexFlags) (pairs : List IndexPair) (blocks : List IndexedBlock) → LeadToBlocks file end flags.user_key pairs blocks
    → LeadToParts file end (form_with zero flags) pairs (map alone blocks)
whole-leads file end flags [] blocks lead = ap (map alone) lead
whole-leads file end flags (pair ∷ pairs) [] lead = absurd lead
whole-leads file end flags (pair ∷ pairs) (block ∷ blocks) lead = (lead.0, (lead.0, lead.1, refl), whole-leads file end flags pairs blocks lead.2)

-- a part that stands at its handle
part-held : (file : List ℕ) (end interval : ℕ) (flags : IndexFlags) (parts : ℕ) (top : IndexPair) (pairs : List IndexPair) (blocks : List IndexedBlock)
    → LeadsToPartition file end flags interval top pairs → LeadToBlocks file end flags.user_key pairs blocks → HoldsPart file end (form_with parts flags) top.handle blocks
part-held file end interval flags parts top pairs blocks part lead =
    record {
      pairs = pairs;
      holds = record { says = record { block = index_block flags interval pairs; framed = part.framed; rows = part.says }; some = part.some };
      lead = lead;
    }

-- an index in parts
in-leads : (file : List ℕ) (end interval : ℕ) (flags : IndexFlags) (most k : ℕ) (tops pairs : List IndexPair) (blocks : List IndexedBlock)
    → LeadToPartitions file end flags interval tops (in_parts most (suc k) pairs) → LeadToBlocks file end flags.user_key pairs blocks
    → LeadToParts file end (form_with (suc k) flags) tops (parts_in most (suc k) blocks)
in-leads file end interval flags zero k [] pairs blocks parts lead = refl
in-leads file end interval flags zero k (top ∷ tops) pairs blocks parts lead = absurd parts
in-leads file end interval flags (suc most) k [] [] [] parts lead = refl
in-leads file end interval flags (suc most) k [] [] (block ∷ blocks) parts lead = cc
in-leads file end interval flags (suc most) k (top ∷ tops) [] blocks parts lead = absurd parts
in-leads file end interval flags (suc most) k tops (pair ∷ pairs) [] parts lead = absurd lead
in-leads file end interval flags (suc most) k [] (pair ∷ pairs) (block ∷ blocks) parts lead = cc
in-leads file end interval flags (suc most) k (top ∷ tops) (pair ∷ pairs) (block ∷ blocks) parts lead =
    let u = flags.user_key in
    let last = lead-last file end u pair.separator block.separator (take k pairs) (take k blocks) lead.0 (lead-take file end u k pairs blocks lead.2) in (
      ap (separator_of u) parts.0.separator ∙ last,
      part-held file end interval flags (suc k) top (pair ∷ take k pairs) (block ∷ take k blocks) parts.0 (lead.0, lead.1, lead-take file end u k pairs blocks lead.2),
      in-leads file end interval flags most k tops (drop k pairs) (drop k blocks) parts.1 (lead-drop file end u k pairs blocks lead.2),
    )

-- an index of either form
pub parts-lead : (file : List ℕ) (end interval base : ℕ) (flags : IndexFlags) (parts : ℕ) (pairs : List IndexPair) (blocks : List IndexedBlock)
    → (0 < parts → LeadToPartitions file end flags interval (top_pairs flags interval parts base pairs) (parts_of parts pairs))
    → LeadToBlocks file end flags.user_key pairs blocks → LeadToParts file end (form_with parts flags) (top_pairs flags interval parts base pairs) (parts_for parts blocks)
parts-lead file end interval base flags zero pairs blocks stand lead = whole-leads file end flags pairs blocks lead
parts-lead file end interval base flags (suc k) pairs blocks stand lead =
    let tops = top_pairs flags interval (suc k) base pairs in
    subst (λ (most : ℕ). LeadToParts file end (form_with (suc k) flags) tops (parts_in most (suc k) blocks)) (lead-long file end flags.user_key pairs blocks lead)
    (in-leads file end interval flags (length pairs) k tops pairs blocks (stand (omega arith)) lead)
