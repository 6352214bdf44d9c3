-- Where reading is exact, the parts of an index are found without a fault exactly where its rows lead to them.
use Rattle.std.proofs.Common.{◌≡◌, ℕ, suc, Bool, true, false, List, [], ◌∷◌, None, Option, Result, Ok, Err, refl, sym, subst}
use Rattle.sst_num.specs.declared.block_handle.Handle.{Handle}
use Rattle.sst_key.specs.declared.entries.Entry.{Entry}
use Rattle.sst_key.specs.declared.calls.Call.{Call}
use Rattle.sst_key.specs.declared.calls.Format.TheVariants.{Block}
use Rattle.sst_key.specs.ListMachine.{answer_of}
use Rattle.sst_block.specs.IndexRows.{IndexPair}
use Rattle.sst_meta.specs.BlockFooter.{footer_start}
use Rattle.sst_meta.specs.IndexForms.{index_form}
use Rattle.sst_meta.specs.declared.index_form.IndexForm.{IndexForm}
use Rattle.sst_bbt_spec.specs.Way.{IndexedBlock}
use Rattle.sst_bbt_spec.specs.Parts.{Part}
use Rattle.sst_bbt_spec.specs.BlockBased.{BlockBased}
use Rattle.sst_bbt_spec.specs.IndexLeads.{HoldsPart, LeadToBlocks, LeadsWithin, LeadToParts}
use Rattle.sst_bbt_spec.specs.FoundParts.{FoundBlock, Place, then_open, AreFound, AllFound, AreNumbered, LandsAt}
use Rattle.sst_bbt_spec.specs.FoundTree.{Reading, IsExact, found_blocks, found_within, found_parts}
use Rattle.sst_bbt_spec.specs.Landings.{landing_of}
use Rattle.sst_bbt_spec.proofs.FoundForward.{opens-found}
use Rattle.sst_bbt_spec.proofs.FoundWays.{way-lands_in_file}

-- ---- what rows lead to is found

blocks-found : {F : Type 0} (reading : Reading F) (file : List ℕ) (end : ℕ) (form : IndexForm) (user_keys : Bool) (index : Handle) (row : ℕ)
    (pairs : List IndexPair) (blocks : List IndexedBlock) → IsExact reading file end form
    → LeadToBlocks file end user_keys pairs blocks → AreFound (found_blocks reading user_keys index row pairs) blocks
blocks-found reading file end form user_keys index row [] blocks exact lead = lead
blocks-found reading file end form user_keys index row (pair ∷ pairs) [] exact lead = lead
blocks-found reading file end form user_keys index row (pair ∷ pairs) (block ∷ blocks) exact lead =
    (lead.0, exact.finds_entries pair.handle block.entries lead.1, blocks-found reading file end form user_keys index (suc row) pairs blocks exact lead.2)

within-found : {F : Type 0} (parted : Bool) (reading : Reading F) (file : List ℕ) (end : ℕ) (form : IndexForm) (top : Handle) (row : ℕ)
    (pair : IndexPair) (blocks : List IndexedBlock) → IsExact reading file end form → LeadsWithin parted file end form pair blocks
    → (inside : List (FoundBlock F)) × (found_within parted reading form.user_key top row pair ≡ Ok inside) × AreFound inside blocks
within-found true reading file end form top row pair blocks exact held = (
  found_blocks reading form.user_key pair.handle 0 held.pairs,
  opens-found (reading.pairs pair.handle) held.pairs _ (exact.finds_pairs pair.handle held.pairs held.holds),
  blocks-found reading file end form form.user_key pair.handle 0 held.pairs blocks exact held.lead,
)
within-found false reading file end form top row pair blocks exact lead = (
  found_blocks reading form.user_key top row (pair ∷ []),
  refl,
  blocks-found reading file end form form.user_key top row (pair ∷ []) blocks exact lead,
)

pub parts-found : {F : Type 0} (reading : Reading F) (file : List ℕ) (end : ℕ) (form : IndexForm) (top : Handle) (row : ℕ)
    (pairs : List IndexPair) (parts : List Part) → IsExact reading file end form
    → LeadToParts file end form pairs parts → AllFound (found_parts reading form top row pairs) parts
parts-found reading file end form top row [] parts exact lead = lead
parts-found reading file end form top row (pair ∷ pairs) [] exact lead = lead
parts-found reading file end form top row (pair ∷ pairs) (part ∷ parts) exact lead =
    let within = within-found form.parted reading file end form top row pair part.blocks exact lead.1 in
    (record { separator = lead.0; inside = within.0; is = within.1; blocks = within.2 }, parts-found reading file end form top (suc row) pairs parts exact lead.2)

-- ---- and back

found-blocks : {F : Type 0} (reading : Reading F) (file : List ℕ) (end : ℕ) (form : IndexForm) (user_keys : Bool) (index : Handle) (row : ℕ)
    (pairs : List IndexPair) (blocks : List IndexedBlock) → IsExact reading file end form
    → AreFound (found_blocks reading user_keys index row pairs) blocks → LeadToBlocks file end user_keys pairs blocks
found-blocks reading file end form user_keys index row [] blocks exact found = found
found-blocks reading file end form user_keys index row (pair ∷ pairs) [] exact found = found
found-blocks reading file end form user_keys index row (pair ∷ pairs) (block ∷ blocks) exact found =
    (found.0, exact.has_entries pair.handle block.entries found.1, found-blocks reading file end form user_keys index (suc row) pairs blocks exact found.2)

same-inside : {F : Type 0} (a b : List (FoundBlock F)) (blocks : List IndexedBlock) → ◌≡◌ {A = Result (List (FoundBlock F)) F} (Ok a) (Ok b) → AreFound b blocks → AreFound a blocks
same-inside a b blocks same found = let eq : a ≡ b = cc in subst (λ (l : List (FoundBlock _)). AreFound l blocks) (sym eq) found

read-part : {F : Type 0} (read : Result (List IndexPair) F) (reading : Reading F) (file : List ℕ) (end : ℕ) (form : IndexForm) (pair : IndexPair)
    (inside : List (FoundBlock F)) (blocks : List IndexedBlock) → reading.pairs pair.handle ≡ read → IsExact reading file end form
    → then_open read (λ pairs. Ok (found_blocks reading form.user_key pair.handle 0 pairs)) ≡ Ok inside → AreFound inside blocks
    → HoldsPart file end form pair.handle blocks
read-part (Ok pairs) reading file end form pair inside blocks is exact opens found =
    let here = same-inside (found_blocks reading form.user_key pair.handle 0 pairs) inside blocks opens found in
    record {
      pairs = pairs;
      holds = exact.has_pairs pair.handle pairs is;
      lead = found-blocks reading file end form form.user_key pair.handle 0 pairs blocks exact here;
    }
read-part (Err fault) reading file end form pair inside blocks is exact opens found = cc

found-within : {F : Type 0} (parted : Bool) (reading : Reading F) (file : List ℕ) (end : ℕ) (form : IndexForm) (top : Handle) (row : ℕ)
    (pair : IndexPair) (inside : List (FoundBlock F)) (blocks : List IndexedBlock) → IsExact reading file end form
    → found_within parted reading form.user_key top row pair ≡ Ok inside → AreFound inside blocks → LeadsWithin parted file end form pair blocks
found-within true reading file end form top row pair inside blocks exact is found =
    read-part (reading.pairs pair.handle) reading file end form pair inside blocks refl exact is found
found-within false reading file end form top row pair inside blocks exact is found =
    found-blocks reading file end form form.user_key top row (pair ∷ []) blocks exact
    (same-inside (found_blocks reading form.user_key top row (pair ∷ [])) inside blocks is found)

pub found-lead : {F : Type 0} (reading : Reading F) (file : List ℕ) (end : ℕ) (form : IndexForm) (top : Handle) (row : ℕ)
    (pairs : List IndexPair) (parts : List Part) → IsExact reading file end form
    → AllFound (found_parts reading form top row pairs) parts → LeadToParts file end form pairs parts
found-lead reading file end form top row [] parts exact found = found
found-lead reading file end form top row (pair ∷ pairs) [] exact found = found
found-lead reading file end form top row (pair ∷ pairs) (part ∷ parts) exact found =
    let is = found.0 in
    (is.separator, found-within form.parted reading file end form top row pair is.inside part.blocks exact is.is is.blocks, found-lead reading file end form top (suc row) pairs parts exact found.1)

-- ---- so on a file that stands for a list, the way ends at the list's entry

pub read-way_lands : {F : Type 0} (reading : Reading F) (file : List ℕ) (entries : List Entry) (stands : BlockBased file entries)
    (position : Option Place) (number : Option ℕ) (call : Call) → IsExact reading file (footer_start file) (index_form stands.opens.loaded.props)
    → AreNumbered stands.parts position number
    → LandsAt stands.parts (landing_of None (found_parts reading (index_form stands.opens.loaded.props) stands.opens.loaded.footer.index 0 stands.opens.pairs) position call)
    (answer_of Block 0 entries number call).shown
read-way_lands reading file entries stands position number call exact at =
    way-lands_in_file file entries stands _ position number call
    (parts-found reading file (footer_start file) (index_form stands.opens.loaded.props) stands.opens.loaded.footer.index 0 stands.opens.pairs stands.parts exact stands.opens.lead) at
