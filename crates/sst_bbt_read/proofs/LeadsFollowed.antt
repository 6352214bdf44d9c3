-- Where the rows of an index block lead, one after the other: to good data blocks, or to the first that isn't good. So do the
-- rows of the top block.
use Rattle.std.proofs.Common.{◌≡◌, ℕ, Bool, false, List, [], ◌∷◌, ◌++◌, refl, sym, subst, inl, inr}
use Rattle.sst_block.specs.declared.row_form.RowForm.TheVariants.{Entries}
use Rattle.sst_block.specs.IndexRows.{IndexPair}
use Rattle.sst_meta.specs.declared.index_form.IndexForm.{IndexForm}
use Rattle.sst_bbt_spec.specs.IndexLeads.{HoldsEntries, LeadToBlocks, LeadsWithin, LeadToParts}
use Rattle.sst_bbt_spec.specs.Parts.{Part, separator_of}
use Rattle.sst_bbt_spec.specs.Way.{IndexedBlock}
use Rattle.sst_bbt_read.specs.KeptLeads.{leads_of, pairs_of}
use Rattle.sst_bbt_read.specs.OpeningFaults.{SomeBlockFails, BlocksFail, WithinFails, PartsFail}
use Rattle.sst_bbt_read.specs.declared.bbt_fault.BbtFault.{BbtFault}

-- ---- data blocks

-- one row more
pub blocks_lead-push : (file : List ℕ) (end : ℕ) (user_key : Bool) (front : List IndexPair) (pair : IndexPair) (blocks : List IndexedBlock) (block : IndexedBlock)
    → LeadToBlocks file end user_key front blocks → separator_of user_key pair.separator ≡ block.separator → HoldsEntries file end pair.handle block.entries
    → LeadToBlocks file end user_key (front ++ pair ∷ []) (blocks ++ block ∷ [])
blocks_lead-push file end user_key [] pair blocks block lead key holds =
    subst (λ (bs : List IndexedBlock). LeadToBlocks file end user_key (pair ∷ []) (bs ++ block ∷ [])) (sym lead) (key, holds, refl)
blocks_lead-push file end user_key (first ∷ front) pair [] block lead key holds = absurd lead
blocks_lead-push file end user_key (first ∷ front) pair (head ∷ blocks) block lead key holds =
    (lead.0, lead.1, blocks_lead-push file end user_key front pair blocks block lead.2 key holds)

-- a row that leads to a block which isn't good, behind good ones
pub blocks_fail-behind : (file : List ℕ) (end : ℕ) (user_key : Bool) (front : List IndexPair) (pair : IndexPair) (back : List IndexPair) (blocks : List IndexedBlock) (fault : BbtFault)
    → LeadToBlocks file end user_key front blocks → SomeBlockFails Entries file end pair.handle fault → BlocksFail file end (front ++ pair ∷ back) fault
blocks_fail-behind file end user_key [] pair back blocks fault lead fails = inl fails
blocks_fail-behind file end user_key (first ∷ front) pair back [] fault lead fails = absurd lead
blocks_fail-behind file end user_key (first ∷ front) pair back (head ∷ blocks) fault lead fails =
    inr (head.entries, lead.1, blocks_fail-behind file end user_key front pair back blocks fault lead.2 fails)

-- the rows as they are kept lead where the rows do
pub kept_lead : (file : List ℕ) (end : ℕ) (user_key : Bool) (pairs : List IndexPair) (blocks : List IndexedBlock)
    → LeadToBlocks file end false (pairs_of (leads_of user_key pairs)) blocks → LeadToBlocks file end user_key pairs blocks
kept_lead file end user_key [] blocks lead = lead
kept_lead file end user_key (pair ∷ pairs) [] lead = absurd lead
kept_lead file end user_key (pair ∷ pairs) (block ∷ blocks) lead = (lead.0, lead.1, kept_lead file end user_key pairs blocks lead.2)

pub kept_fail : (file : List ℕ) (end : ℕ) (user_key : Bool) (pairs : List IndexPair) (fault : BbtFault)
    → BlocksFail file end (pairs_of (leads_of user_key pairs)) fault → BlocksFail file end pairs fault
kept_fail file end user_key [] fault fails = fails
kept_fail file end user_key (pair ∷ pairs) fault (inl here) = inl here
kept_fail file end user_key (pair ∷ pairs) fault (inr (entries, holds, fails)) = inr (entries, holds, kept_fail file end user_key pairs fault fails)

-- ---- parts

-- one row more
pub parts_lead-push : (file : List ℕ) (end : ℕ) (form : IndexForm) (front : List IndexPair) (pair : IndexPair) (parts : List Part) (part : Part)
    → LeadToParts file end form front parts → separator_of form.user_key pair.separator ≡ part.separator → LeadsWithin form.parted file end form pair part.blocks
    → LeadToParts file end form (front ++ pair ∷ []) (parts ++ part ∷ [])
parts_lead-push file end form [] pair parts part lead key within =
    subst (λ (ps : List Part). LeadToParts file end form (pair ∷ []) (ps ++ part ∷ [])) (sym lead) (key, within, refl)
parts_lead-push file end form (first ∷ front) pair [] part lead key within = absurd lead
parts_lead-push file end form (first ∷ front) pair (head ∷ parts) part lead key within =
    (lead.0, lead.1, parts_lead-push file end form front pair parts part lead.2 key within)

-- a row that leads to a part which isn't good, behind good ones
pub parts_fail-behind : (file : List ℕ) (end : ℕ) (form : IndexForm) (front : List IndexPair) (pair : IndexPair) (back : List IndexPair) (parts : List Part) (fault : BbtFault)
    → LeadToParts file end form front parts → WithinFails form.parted file end form pair fault → PartsFail file end form (front ++ pair ∷ back) fault
parts_fail-behind file end form [] pair back parts fault lead fails = inl fails
parts_fail-behind file end form (first ∷ front) pair back [] fault lead fails = absurd lead
parts_fail-behind file end form (first ∷ front) pair back (head ∷ parts) fault lead fails =
    inr (head.blocks, lead.1, parts_fail-behind file end form front pair back parts fault lead.2 fails)
