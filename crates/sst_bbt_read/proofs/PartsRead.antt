-- The parts of an index, read one behind the other, as the rows of its top block lead to them.
use Rattle.std.proofs.Common.{◌≡◌, ◌⊎◌, ℕ, zero, suc, ◌+◌, ◌==◌, ◌<◌, ◌≤◌, Bool, true, false, not, List, [], ◌∷◌, ◌++◌, length, length-append, map, take, drop, All, Option, Some, slice_get, refl, sym, ap, ◌∙◌, subst, inl, inr, arith}
use Rattle.std.proofs.lemmas.Bool.{eqb-true}
use Rattle.std.proofs.lemmas.List.{map-append, length-map, take_all, nil_from_length}
use Rattle.std.proofs.lemmas.List.Elements.{All-nil, All-cons, All-append, All-get_or}
use Rattle.std.proofs.lemmas.Option.{slice_get_within, get_or_from_slice_get}
use Rattle.sst_num.specs.declared.block_handle.Handle.{Handle}
use Rattle.sst_key.specs.declared.entries.Entry.{Entry}
use Rattle.sst_block.specs.declared.row_form.RowForm.TheVariants.{Entries, Index}
use Rattle.sst_block.specs.Block.{Row, Spelled, Block, no_handle}
use Rattle.sst_block.specs.IndexRows.{IndexPair, SayPairs}
use Rattle.sst_device.specs.Folder.{Files, file_of}
use Rattle.sst_meta.specs.declared.index_form.IndexForm.{IndexForm}
use Rattle.sst_bbt_spec.specs.IndexLeads.{SaysPairs, HoldsPairs, HoldsPart, LeadToBlocks, LeadsWithin, LeadToParts}
use Rattle.sst_bbt_spec.specs.Parts.{Part}
use Rattle.sst_bbt_spec.specs.Way.{IndexedBlock}
use Rattle.sst_bbt_read.specs.GrownTable.{BlocksAdded, PartAdded, lead_separators}
use Rattle.sst_bbt_read.specs.KeptLeads.{AreLeads, lead_of, leads_of, pairs_of}
use Rattle.sst_bbt_read.specs.OpeningFaults.{BlockFails, SomeBlockFails, BlocksFail, WithinFails, PartsFail}
use Rattle.sst_bbt_read.specs.TableBlocks.{IsOpenTable, IsAlone, IsSeparated, AreEnds, AreEntries, EachPart, separators_of, blocks_from, parts_from}
use Rattle.sst_bbt_read.specs.declared.bbt_fault.BbtFault.{BbtFault}
use Rattle.sst_bbt_read.specs.declared.bbt_fault.BbtFault.TheVariants as bbt
use Rattle.sst_bbt_read.specs.declared.kept_table.RunEnd.{RunEnd}
use Rattle.sst_bbt_read.specs.declared.kept_table.data_blocks.DataBlocks.{DataBlocks}
use Rattle.sst_bbt_read.specs.declared.kept_table.index_leads.IndexLead.{IndexLead}
use Rattle.sst_bbt_read.proofs.BlocksRead.{lead_fails}
use Rattle.sst_bbt_read.proofs.ListFront.{first_more, split_at_one}
use Rattle.sst_bbt_read.proofs.LeadsFollowed.{kept_lead, kept_fail, parts_lead-push, parts_fail-behind}
use Rattle.sst_bbt_read.proofs.TableGrown.{ends-append, ends-one, blocks-append, blocks-count, parts-push, each-push, separators-append, separators-are}

-- ---- a part

-- its block isn't good
pub part_fails : (file : List ℕ) (end : ℕ) (form : IndexForm) (h : Handle) (pair : IndexPair) (fault : BbtFault) → pair.handle ≡ h
    → BlockFails (Index form.user_key form.delta) file end h fault → WithinFails true file end form pair fault
part_fails file end form h pair fault same fails =
    inl (inl (subst (λ (g : Handle). BlockFails (Index form.user_key form.delta) file end g fault) (sym same) fails))

no_pairs : (user_key : Bool) (pairs : List IndexPair) (leads : List IndexLead) → leads ≡ leads_of user_key pairs → leads ≡ [] → pairs ≡ []
no_pairs user_key [] leads are none = refl
no_pairs user_key (pair ∷ pairs) leads are none = let both = sym are ∙ none in absurd (cc)

no_spelled : (delta : Bool) (before : Handle) (spelled : List Spelled) (pairs : List IndexPair) → SayPairs delta before spelled pairs → pairs ≡ [] → spelled ≡ []
no_spelled delta before [] pairs says none = refl
no_spelled delta before (s ∷ rest) [] says none = absurd says
no_spelled delta before (s ∷ rest) (pair ∷ pairs) says none = absurd (cc)

-- or it has no row
pub part_empty : (file : List ℕ) (end : ℕ) (form : IndexForm) (h : Handle) (pairs : List IndexPair) (leads : List IndexLead) (pair : IndexPair)
    → SaysPairs file end form h pairs → leads ≡ leads_of form.user_key pairs → leads ≡ [] → pair.handle ≡ h
    → WithinFails true file end form pair (bbt.EmptyBlock h)
part_empty file end form h pairs leads pair says are none same =
    let spelled = no_spelled form.delta no_handle says.rows.block.spelled pairs says.rows.says (no_pairs form.user_key pairs leads are none) in
    let rows : says.rows.rows ≡ [] = sym says.rows.block.are_rows ∙ ap (λ (ss : List Spelled). map (λ (s : Spelled). s.row) ss) spelled in
    let bare : Block (Index form.user_key form.delta) says.block [] = subst (λ (rs : List Row). Block (Index form.user_key form.delta) says.block rs) rows says.rows.block in
    subst (λ (g : Handle). SomeBlockFails (Index form.user_key form.delta) file end g (bbt.EmptyBlock h) ⊎ ((ps : List IndexPair) × HoldsPairs file end form g ps × BlocksFail file end ps (bbt.EmptyBlock h)))
    (sym same) (inl (inr (says.block, refl, says.framed, bare)))

some_pairs : (user_key : Bool) (pairs : List IndexPair) (leads : List IndexLead) → leads ≡ leads_of user_key pairs → 0 < length leads → 0 < length pairs
some_pairs user_key pairs leads are some = omega (arith, some, ap length are, length-map pairs (lead_of user_key))

-- its rows lead to data blocks
pub part_held : (file : List ℕ) (end : ℕ) (form : IndexForm) (h : Handle) (pairs : List IndexPair) (leads : List IndexLead) (pair : IndexPair) (blocks : List IndexedBlock)
    → SaysPairs file end form h pairs → leads ≡ leads_of form.user_key pairs → 0 < length leads → LeadToBlocks file end false (pairs_of leads) blocks → pair.handle ≡ h
    → LeadsWithin true file end form pair blocks
part_held file end form h pairs leads pair blocks says are some lead same =
    let led = kept_lead file end form.user_key pairs blocks (subst (λ (ls : List IndexLead). LeadToBlocks file end false (pairs_of ls) blocks) are lead) in
    let holds : HoldsPart file end form h blocks =
    record { pairs = pairs; holds = record { says = says; some = some_pairs form.user_key pairs leads are some }; lead = led } in
    subst (λ (g : Handle). HoldsPart file end form g blocks) (sym same) holds

-- or to one that isn't good
pub part_blocks_fail : (file : List ℕ) (end : ℕ) (form : IndexForm) (h : Handle) (pairs : List IndexPair) (leads : List IndexLead) (pair : IndexPair) (fault : BbtFault)
    → SaysPairs file end form h pairs → leads ≡ leads_of form.user_key pairs → 0 < length leads → pair.handle ≡ h → BlocksFail file end (pairs_of leads) fault
    → WithinFails true file end form pair fault
part_blocks_fail file end form h pairs leads pair fault says are some same fails =
    let led = kept_fail file end form.user_key pairs fault (subst (λ (ls : List IndexLead). BlocksFail file end (pairs_of ls) fault) are fails) in
    let holds : HoldsPairs file end form h pairs = record { says = says; some = some_pairs form.user_key pairs leads are some } in
    inr (pairs, subst (λ (g : Handle). HoldsPairs file end form g pairs) (sym same) holds, led)

-- ---- a row of a whole index

-- the one row as it is kept
pub one_lead : (lead : IndexLead) → 8 ≤ length lead.separator → AreLeads (lead ∷ [])
one_lead lead long = record { long = All-cons (λ (l : IndexLead). 8 ≤ length l.separator) lead [] long (All-nil (λ (l : IndexLead). 8 ≤ length l.separator)); ordered = tt }

pub whole_held : (file : List ℕ) (end : ℕ) (form : IndexForm) (leads : List IndexLead) (lead : IndexLead) (pair : IndexPair) (blocks : List IndexedBlock)
    → leads ≡ lead ∷ [] → lead ≡ lead_of form.user_key pair → LeadToBlocks file end false (pairs_of leads) blocks → LeadsWithin false file end form pair blocks
whole_held file end form leads lead pair blocks one are lead_to =
    let same : leads ≡ leads_of form.user_key (pair ∷ []) = one ∙ ap (λ (l : IndexLead). l ∷ []) are in
    kept_lead file end form.user_key (pair ∷ []) blocks (subst (λ (ls : List IndexLead). LeadToBlocks file end false (pairs_of ls) blocks) same lead_to)

pub whole_fails : (file : List ℕ) (end : ℕ) (form : IndexForm) (lead : IndexLead) (pair : IndexPair) (fault : BbtFault)
    → lead ≡ lead_of form.user_key pair → SomeBlockFails Entries file end lead.handle fault → WithinFails false file end form pair fault
whole_fails file end form lead pair fault are fails =
    let same : lead ∷ [] ≡ leads_of form.user_key (pair ∷ []) = ap (λ (l : IndexLead). l ∷ []) are in
    kept_fail file end form.user_key (pair ∷ []) fault
    (subst (λ (ls : List IndexLead). BlocksFail file end (pairs_of ls) fault) same (lead_fails file end (lead ∷ []) 0 lead [] fault refl refl fails))

-- ---- one part more

pub ends_count : (ends : List RunEnd) (leads : List IndexLead) → separators_of ends ≡ lead_separators leads → length ends ≡ length leads
ends_count ends leads same =
    sym (length-map ends (λ (b : RunEnd). b.separator)) ∙ ap length same ∙ length-map leads (λ (l : IndexLead). l.separator)

-- the pair of a row that is kept
pub pair_of_lead : (user_key : Bool) (pairs : List IndexPair) (n : ℕ) (lead : IndexLead) → slice_get (leads_of user_key pairs) n ≡ Some lead
    → (pair : IndexPair) × (slice_get pairs n ≡ Some pair) × (lead ≡ lead_of user_key pair)
pair_of_lead user_key [] n lead at = absurd (cc)
pair_of_lead user_key (pair ∷ pairs) zero lead at = let same : lead_of user_key pair ≡ lead = cc in (pair, refl, sym same)
pair_of_lead user_key (pair ∷ pairs) (suc n) lead at = pair_of_lead user_key pairs n lead at

-- the parts to which the first n rows lead were read, and the folder is as it was
pub record PartsRead (held now : Option Files) (before faults : ℕ) (name : List ℕ) (end : ℕ) (form : IndexForm) (leads : List IndexLead) (n : ℕ) (tops : List RunEnd) (blocks : DataBlocks) : Type 0 where
  pub same_files : now ≡ held
  pub counts : faults ≡ before
  pub ends : AreEnds 0 blocks.ends.items (length blocks.entries.items)
  pub are_tops : AreEnds 0 tops (length blocks.ends.items)
  pub separators : separators_of tops ≡ lead_separators (take n leads)
  pub within : EachPart IsSeparated 0 tops blocks.ends.items
  pub alone : form.parted ≡ false → EachPart IsAlone 0 tops blocks.ends.items
  pub are : All (λ (block : IndexedBlock). AreEntries block.entries) (blocks_from 0 blocks.ends.items blocks.entries.items)
  pub read : (file : List ℕ) → file_of held name ≡ Some file → (pairs : List IndexPair) → leads ≡ leads_of form.user_key pairs
      → LeadToParts file end form (take n pairs) (parts_from 0 tops (blocks_from 0 blocks.ends.items blocks.entries.items))

-- the data blocks with those of one part more
grown_blocks : (leads : List IndexLead) (blocks new : DataBlocks) (a : BlocksAdded leads blocks new) → AreEnds 0 blocks.ends.items (length blocks.entries.items)
    → blocks_from 0 new.ends.items new.entries.items ≡ blocks_from 0 blocks.ends.items blocks.entries.items ++ a.blocks
grown_blocks leads blocks new a ends =
    let old = blocks_from 0 blocks.ends.items blocks.entries.items in
    ap (λ (es : List RunEnd). blocks_from 0 es new.entries.items) a.ends_are
    ∙ ap (blocks_from 0 (blocks.ends.items ++ a.ends)) a.entries_are
    ∙ blocks-append 0 blocks.ends.items a.ends blocks.entries.items a.entries ends
    ∙ ap (λ (es : List Entry). old ++ blocks_from (length blocks.entries.items) a.ends es) (sym a.entries_are)
    ∙ ap (λ (bs : List IndexedBlock). old ++ bs) (sym a.blocks_are)

added_count : (leads : List IndexLead) (blocks new : DataBlocks) (a : BlocksAdded leads blocks new) → length a.blocks ≡ length a.ends
added_count leads blocks new a = ap length a.blocks_are ∙ blocks-count (length blocks.entries.items) a.ends new.entries.items

grown_ends : (leads : List IndexLead) (blocks new : DataBlocks) (a : BlocksAdded leads blocks new) → length new.ends.items ≡ length blocks.ends.items + length a.ends
grown_ends leads blocks new a = ap length a.ends_are ∙ length-append blocks.ends.items a.ends

-- and its part behind those before
grown_parts : (tops now : List RunEnd) (key : List ℕ) (leads : List IndexLead) (blocks new : DataBlocks) (a : BlocksAdded leads blocks new)
    → AreEnds 0 blocks.ends.items (length blocks.entries.items) → AreEnds 0 tops (length blocks.ends.items)
    → now ≡ tops ++ record { separator = key; end = length new.ends.items } ∷ []
    → parts_from 0 now (blocks_from 0 new.ends.items new.entries.items)
    ≡ parts_from 0 tops (blocks_from 0 blocks.ends.items blocks.entries.items) ++ record { separator = key; blocks = a.blocks } ∷ []
grown_parts tops now key leads blocks new a ends are is =
    let last : RunEnd = record { separator = key; end = length new.ends.items } in
    let old = blocks_from 0 blocks.ends.items blocks.entries.items in
    let count : length old ≡ length blocks.ends.items = blocks-count 0 blocks.ends.items blocks.entries.items in
    let added = added_count leads blocks new a in
    let all = grown_ends leads blocks new a in
    ap (λ (ts : List RunEnd). parts_from 0 ts (blocks_from 0 new.ends.items new.entries.items)) is
    ∙ ap (parts_from 0 (tops ++ last ∷ [])) (grown_blocks leads blocks new a ends)
    ∙ parts-push 0 tops old a.blocks last (subst (λ (m : ℕ). AreEnds 0 tops m) (sym count) are) (omega (arith, count, added, all))

-- the rows lead to one part more
parts_led : (file : List ℕ) (end : ℕ) (form : IndexForm) (pairs : List IndexPair) (n : ℕ) (lead : IndexLead) (parts : List Part) (blocks : List IndexedBlock)
    → slice_get (leads_of form.user_key pairs) n ≡ Some lead → LeadToParts file end form (take n pairs) parts
    → ((pair : IndexPair) → lead ≡ lead_of form.user_key pair → LeadsWithin form.parted file end form pair blocks)
    → LeadToParts file end form (take (n + 1) pairs) (parts ++ record { separator = lead.separator; blocks = blocks } ∷ [])
parts_led file end form pairs n lead parts blocks at front within =
    let p = pair_of_lead form.user_key pairs n lead at in
    let part : Part = record { separator = lead.separator; blocks = blocks } in
    subst (λ (ps : List IndexPair). LeadToParts file end form ps (parts ++ part ∷ [])) (first_more pairs n p.0 p.1)
    (parts_lead-push file end form (take n pairs) p.0 parts part front (sym (ap (λ (l : IndexLead). l.separator) p.2)) (within p.0 p.2))

-- what holds of each part holds with one more
each_grown : (P : RunEnd → List RunEnd → Type 0) (tops tops_now : List RunEnd) (last : RunEnd) (blocks new : DataBlocks) {leads : List IndexLead} (a : BlocksAdded leads blocks new)
    → AreEnds 0 tops (length blocks.ends.items) → tops_now ≡ tops ++ last ∷ [] → last.end ≡ length blocks.ends.items + length a.ends
    → EachPart P 0 tops blocks.ends.items → P last a.ends → EachPart P 0 tops_now new.ends.items
each_grown P tops tops_now last blocks new a are is more each added =
    subst (λ (ts : List RunEnd). EachPart P 0 ts new.ends.items) (sym is)
    (subst (λ (es : List RunEnd). EachPart P 0 (tops ++ last ∷ []) es) (sym a.ends_are) (each-push P 0 tops blocks.ends.items a.ends last are more each added))

pub parts_read-more : (held mid now : Option Files) (before faults later : ℕ) (name : List ℕ) (end : ℕ) (form : IndexForm) (leads : List IndexLead) (n : ℕ) (lead : IndexLead)
    (tops tops_now : List RunEnd) (blocks new : DataBlocks) → slice_get leads n ≡ Some lead
    → PartsRead held mid before faults name end form leads n tops blocks → (part : PartAdded blocks new)
    → tops_now ≡ tops ++ record { separator = lead.separator; end = length new.ends.items } ∷ []
    → ((file : List ℕ) → file_of mid name ≡ Some file → (pair : IndexPair) → lead ≡ lead_of form.user_key pair → LeadsWithin form.parted file end form pair part.added.blocks)
    → (form.parted ≡ false → part.leads ≡ lead ∷ []) → now ≡ mid → later ≡ faults
    → PartsRead held now before later name end form leads (n + 1) tops_now new
parts_read-more held mid now before faults later name end form leads n lead tops tops_now blocks new at so part is within one same counts =
    let a = part.added in
    let last : RunEnd = record { separator = lead.separator; end = length new.ends.items } in
    let all = grown_blocks part.leads blocks new a so.ends in
    let more = grown_ends part.leads blocks new a in
    let some = ends_count a.ends part.leads a.separators in
    record {
      same_files = same ∙ so.same_files;
      counts = counts ∙ so.counts;
      ends = subst (λ (es : List RunEnd). AreEnds 0 es (length new.entries.items)) (sym a.ends_are)
          (ends-append 0 blocks.ends.items a.ends (length blocks.entries.items) (length new.entries.items) so.ends a.are_ends);
      are_tops = subst (λ (ts : List RunEnd). AreEnds 0 ts (length new.ends.items)) (sym is)
          (ends-append 0 tops (last ∷ []) (length blocks.ends.items) (length new.ends.items) so.are_tops
          (ends-one (length blocks.ends.items) last (omega (arith, more, some, part.some))));
      separators = ap separators_of is ∙ separators-append tops (last ∷ []) ∙ ap (λ (ks : List (List ℕ)). ks ++ lead.separator ∷ []) so.separators
          ∙ sym (map-append (λ (l : IndexLead). l.separator) (take n leads) (lead ∷ [])) ∙ ap lead_separators (first_more leads n lead at);
      within = each_grown IsSeparated tops tops_now last blocks new a so.are_tops is more so.within (separators-are a.ends part.leads a.separators part.are);
      alone = λ whole.
          each_grown IsAlone tops tops_now last blocks new a so.are_tops is more (so.alone whole) (a.separators ∙ ap lead_separators (one whole));
      are = subst (All (λ (block : IndexedBlock). AreEntries block.entries)) (sym all)
          (All-append (λ (block : IndexedBlock). AreEntries block.entries) (blocks_from 0 blocks.ends.items blocks.entries.items) a.blocks so.are a.are);
      read = λ file told pairs kept.
          subst (LeadToParts file end form (take (n + 1) pairs)) (sym (grown_parts tops tops_now lead.separator part.leads blocks new a so.ends so.are_tops is))
          (parts_led file end form pairs n lead (parts_from 0 tops (blocks_from 0 blocks.ends.items blocks.entries.items)) a.blocks
          (ap (λ (ls : List IndexLead). slice_get ls n) (sym kept) ∙ at) (so.read file told pairs kept)
          (within file (ap (λ (h : Option Files). file_of h name) so.same_files ∙ told)));
    }

-- a row leads to a part that isn't good
pub row_fails : (file : List ℕ) (end : ℕ) (form : IndexForm) (leads : List IndexLead) (pairs : List IndexPair) (n : ℕ) (lead : IndexLead) (parts : List Part) (fault : BbtFault)
    (pair : IndexPair) → slice_get pairs n ≡ Some pair → LeadToParts file end form (take n pairs) parts → WithinFails form.parted file end form pair fault
    → PartsFail file end form pairs fault
row_fails file end form leads pairs n lead parts fault pair at front fails =
    subst (λ (ps : List IndexPair). PartsFail file end form ps fault) (sym (split_at_one pairs n pair at))
    (parts_fail-behind file end form (take n pairs) pair (drop (n + 1) pairs) parts fault front fails)

-- ---- all parts

not_parted : (parted : Bool) → not parted ≡ true → parted ≡ false
not_parted true whole = absurd (cc)
not_parted false whole = refl

pub parts_table : (held now : Option Files) (before faults : ℕ) (name : List ℕ) (end : ℕ) (form : IndexForm) (leads : List IndexLead) (n : ℕ) (tops : List RunEnd) (blocks : DataBlocks)
    → PartsRead held now before faults name end form leads n tops blocks → AreLeads leads → length leads ≤ n
    → IsOpenTable (record { whole = not form.parted; tops = tops; ends = blocks.ends.items; entries = blocks.entries.items })
parts_table held now before faults name end form leads n tops blocks so are all = record {
  ends = so.ends;
  tops = so.are_tops;
  separators = separators-are tops leads (so.separators ∙ ap lead_separators (take_all n leads all)) are;
  within = so.within;
  alone = λ whole. so.alone (not_parted form.parted whole);
  blocks = so.are;
}

pub all_led : (file : List ℕ) (end : ℕ) (form : IndexForm) (leads : List IndexLead) (pairs : List IndexPair) (n : ℕ) (parts : List Part)
    → leads ≡ leads_of form.user_key pairs → length leads ≤ n → LeadToParts file end form (take n pairs) parts → LeadToParts file end form pairs parts
all_led file end form leads pairs n parts kept all lead =
    subst (λ (ps : List IndexPair). LeadToParts file end form ps parts)
    (take_all n pairs (omega (arith, all, ap length kept, length-map pairs (lead_of form.user_key)))) lead

-- ---- a test for a list without an element

pub none_from : {A : Type 0} (xs : List A) (n : ℕ) → true ≡ (n == 0) → n ≡ length xs → xs ≡ []
none_from xs n test count = nil_from_length xs (sym count ∙ eqb-true n 0 (sym test))

pub some_from : {A : Type 0} (xs : List A) (n : ℕ) → false ≡ (n == 0) → n ≡ length xs → 0 < length xs
some_from xs zero test count = absurd (cc)
some_from xs (suc n) test count = omega (arith, count)

-- ---- the loop

-- no part so far
pub parts_none : (held : Option Files) (before : ℕ) (name : List ℕ) (end : ℕ) (form : IndexForm) (leads : List IndexLead) (tops : List RunEnd) (blocks : DataBlocks)
    → tops ≡ [] → blocks.ends.items ≡ [] → blocks.entries.items ≡ [] → PartsRead held held before before name end form leads 0 tops blocks
parts_none held before name end form leads tops blocks no_tops no_ends no_entries = record {
  same_files = refl;
  counts = refl;
  ends = rw (no_ends, no_entries) refl;
  are_tops = rw (no_tops, no_ends) refl;
  separators = ap separators_of no_tops;
  within = rw no_tops tt;
  alone = λ whole. rw no_tops tt;
  are = rw no_ends (All-nil (λ (block : IndexedBlock). AreEntries block.entries));
  read = λ file told pairs kept. ap (λ (ts : List RunEnd). parts_from 0 ts (blocks_from 0 blocks.ends.items blocks.entries.items)) no_tops;
}

-- each row that is kept has a stored key
pub lead_long : (leads : List IndexLead) (n : ℕ) (lead : IndexLead) → AreLeads leads → slice_get leads n ≡ Some lead → 8 ≤ length lead.separator
lead_long leads n lead are at =
    let within = slice_get_within leads n lead at in
    subst (λ (l : IndexLead). 8 ≤ length l.separator) (get_or_from_slice_get leads n lead lead at)
    (All-get_or (λ (l : IndexLead). 8 ≤ length l.separator) leads n lead within are.long)
