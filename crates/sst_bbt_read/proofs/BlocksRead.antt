-- Data blocks that are read one behind the other, as the rows of an index block lead to them.
use Rattle.std.proofs.Common.{◌≡◌, ℕ, ◌+◌, ◌≤◌, false, List, [], ◌∷◌, ◌++◌, length, length-append, take, drop, Option, Some, slice_get, refl, sym, ap, ◌∙◌, subst, arith}
use Rattle.std.proofs.lemmas.List.{map-append, take_all, append_assoc, append-nil}
use Rattle.std.proofs.lemmas.List.Elements.{All-nil, All-push}
use Rattle.sst_key.specs.declared.entries.Entry.{Entry}
use Rattle.sst_block.specs.declared.row_form.RowForm.TheVariants.{Entries}
use Rattle.sst_block.specs.IndexRows.{IndexPair}
use Rattle.sst_device.specs.Folder.{Files, file_of}
use Rattle.sst_bbt_spec.specs.IndexLeads.{HoldsEntries, LeadToBlocks}
use Rattle.sst_bbt_spec.specs.Way.{IndexedBlock}
use Rattle.sst_bbt_read.specs.GrownTable.{BlocksAdded}
use Rattle.sst_bbt_read.specs.KeptLeads.{pair_of, pairs_of}
use Rattle.sst_bbt_read.specs.OpeningFaults.{SomeBlockFails, BlocksFail}
use Rattle.sst_bbt_read.specs.Reader.{BlockAdded}
use Rattle.sst_bbt_read.specs.TableBlocks.{AreEntries, blocks_from}
use Rattle.sst_bbt_read.specs.declared.bbt_fault.BbtFault.{BbtFault}
use Rattle.sst_bbt_read.specs.declared.kept_table.RunEnd.{RunEnd}
use Rattle.sst_bbt_read.specs.declared.kept_table.data_blocks.DataBlocks.{DataBlocks}
use Rattle.sst_bbt_read.specs.declared.kept_table.index_leads.IndexLead.{IndexLead}
use Rattle.sst_bbt_read.proofs.ListFront.{first_more, split_at_one}
use Rattle.sst_bbt_read.proofs.LeadsFollowed.{blocks_lead-push, blocks_fail-behind}
use Rattle.sst_bbt_read.proofs.TableGrown.{ends-append, ends-one, blocks-append, blocks-one, separators-append}

-- ---- one block

-- its place is where the entries end
pub block_again : (before now : List Entry) (place : ℕ) (added : BlockAdded before now place)
    → (again : BlockAdded before now (length now)) × (again.entries ≡ added.entries)
block_again before now place added = (record { entries = added.entries; appended = added.appended; ends = refl; some = added.some; are = added.are }, refl)

pub end_again : {A : Type 0} (ends now : List RunEnd) (shown key : List ℕ) (place : ℕ) (entries : List A) → now ≡ ends ++ record { separator = shown; end = place } ∷ []
    → shown ≡ key → place ≡ length entries → now ≡ ends ++ record { separator = key; end = length entries } ∷ []
end_again ends now shown key place entries is same at =
    is ∙ ap (λ (l : List ℕ). ends ++ record { separator = l; end = place } ∷ []) same
    ∙ ap (λ (n : ℕ). ends ++ record { separator = key; end = n } ∷ []) at

-- ---- one block more

-- none so far
pub blocks_none : (blocks : DataBlocks) → (none : BlocksAdded [] blocks blocks) × (none.blocks ≡ [])
blocks_none blocks = (
  record {
    ends = [];
    entries = [];
    ends_are = sym (append-nil blocks.ends.items);
    entries_are = sym (append-nil blocks.entries.items);
    are_ends = refl;
    separators = refl;
    blocks = [];
    blocks_are = refl;
    are = All-nil (λ (block : IndexedBlock). AreEntries block.entries);
  },
  refl,
)

pub blocks_more : (front : List IndexLead) (lead : IndexLead) (old mid now : DataBlocks) (a : BlocksAdded front old mid)
    (block : BlockAdded mid.entries.items now.entries.items (length now.entries.items))
    → now.ends.items ≡ mid.ends.items ++ record { separator = lead.separator; end = length now.entries.items } ∷ []
    → (more : BlocksAdded (front ++ lead ∷ []) old now) × (more.blocks ≡ a.blocks ++ record { separator = lead.separator; entries = block.entries } ∷ [])
blocks_more front lead old mid now a block is =
    let start = length old.entries.items in
    let last : RunEnd = record { separator = lead.separator; end = length now.entries.items } in
    let one : IndexedBlock = record { separator = lead.separator; entries = block.entries } in
    let long : length now.entries.items ≡ length mid.entries.items + length block.entries =
    ap length block.appended ∙ length-append mid.entries.items block.entries in
    let all : blocks_from start (a.ends ++ last ∷ []) now.entries.items ≡ a.blocks ++ one ∷ [] =
    ap (blocks_from start (a.ends ++ last ∷ [])) block.appended
    ∙ blocks-append start a.ends (last ∷ []) mid.entries.items block.entries a.are_ends
    ∙ ap (λ (bs : List IndexedBlock). bs ++ blocks_from (length mid.entries.items) (last ∷ []) (mid.entries.items ++ block.entries)) (sym a.blocks_are)
    ∙ ap (λ (bs : List IndexedBlock). a.blocks ++ bs) (blocks-one mid.entries.items block.entries last long) in (
      record {
        ends = a.ends ++ last ∷ [];
        entries = a.entries ++ block.entries;
        ends_are = is ∙ ap (λ (es : List RunEnd). es ++ last ∷ []) a.ends_are ∙ append_assoc old.ends.items a.ends (last ∷ []);
        entries_are = block.appended ∙ ap (λ (es : List Entry). es ++ block.entries) a.entries_are ∙ append_assoc old.entries.items a.entries block.entries;
        are_ends = ends-append start a.ends (last ∷ []) (length mid.entries.items) (length now.entries.items) a.are_ends
            (ends-one (length mid.entries.items) last (omega (arith, long, block.some)));
        separators = separators-append a.ends (last ∷ []) ∙ ap (λ (ks : List (List ℕ)). ks ++ lead.separator ∷ []) a.separators
            ∙ sym (map-append (λ (l : IndexLead). l.separator) front (lead ∷ []));
        blocks = a.blocks ++ one ∷ [];
        blocks_are = sym all;
        are = All-push (λ (b : IndexedBlock). AreEntries b.entries) a.blocks one a.are block.are;
      },
      refl,
    )

-- ---- the loop

-- the data blocks of the first n rows were read, and the folder is as it was
pub record BlocksRead (held now : Option Files) (before faults : ℕ) (name : List ℕ) (end : ℕ) (leads : List IndexLead) (n : ℕ) (old new : DataBlocks) : Type 0 where
  pub same_files : now ≡ held
  pub counts : faults ≡ before
  pub added : BlocksAdded (take n leads) old new
  pub read : (file : List ℕ) → file_of held name ≡ Some file → LeadToBlocks file end false (pairs_of (take n leads)) added.blocks

-- one row more leads to a block
pub lead_more : (file : List ℕ) (end : ℕ) (leads : List IndexLead) (n : ℕ) (lead : IndexLead) (blocks : List IndexedBlock) (entries : List Entry)
    → slice_get leads n ≡ Some lead → LeadToBlocks file end false (pairs_of (take n leads)) blocks → HoldsEntries file end lead.handle entries
    → LeadToBlocks file end false (pairs_of (take n leads ++ lead ∷ [])) (blocks ++ record { separator = lead.separator; entries = entries } ∷ [])
lead_more file end leads n lead blocks entries at front holds =
    subst (λ (ps : List IndexPair). LeadToBlocks file end false ps (blocks ++ record { separator = lead.separator; entries = entries } ∷ []))
    (sym (map-append pair_of (take n leads) (lead ∷ [])))
    (blocks_lead-push file end false (pairs_of (take n leads)) (pair_of lead) blocks (record { separator = lead.separator; entries = entries }) front refl holds)

-- the one block of one row
pub block_alone : (lead : IndexLead) (old now : DataBlocks) (block : BlockAdded old.entries.items now.entries.items (length now.entries.items))
    → now.ends.items ≡ old.ends.items ++ record { separator = lead.separator; end = length now.entries.items } ∷ []
    → (one : BlocksAdded (lead ∷ []) old now)
    × ((file : List ℕ) (end : ℕ) → HoldsEntries file end lead.handle block.entries → LeadToBlocks file end false (pairs_of (lead ∷ [])) one.blocks)
block_alone lead old now block is =
    let none = blocks_none old in
    let more = blocks_more [] lead old old now none.0 block is in (
      more.0,
      λ file end holds.
          subst (LeadToBlocks file end false (pairs_of (lead ∷ []))) (sym more.1) (lead_more file end (lead ∷ []) 0 lead none.0.blocks block.entries refl none.1 holds),
    )

-- or to a block that isn't good
pub lead_fails : (file : List ℕ) (end : ℕ) (leads : List IndexLead) (n : ℕ) (lead : IndexLead) (blocks : List IndexedBlock) (fault : BbtFault)
    → slice_get leads n ≡ Some lead → LeadToBlocks file end false (pairs_of (take n leads)) blocks → SomeBlockFails Entries file end lead.handle fault
    → BlocksFail file end (pairs_of leads) fault
lead_fails file end leads n lead blocks fault at front fails =
    subst (λ (ls : List IndexLead). BlocksFail file end (pairs_of ls) fault) (sym (split_at_one leads n lead at))
    (subst (λ (ps : List IndexPair). BlocksFail file end ps fault) (sym (map-append pair_of (take n leads) (lead ∷ drop (n + 1) leads)))
    (blocks_fail-behind file end false (pairs_of (take n leads)) (pair_of lead) (pairs_of (drop (n + 1) leads)) blocks fault front fails))

pub blocks_read-more : (held mid now : Option Files) (before faults later : ℕ) (name : List ℕ) (end : ℕ) (leads : List IndexLead) (n : ℕ) (lead : IndexLead) (old blocks new : DataBlocks)
    → slice_get leads n ≡ Some lead → BlocksRead held mid before faults name end leads n old blocks
    → (block : BlockAdded blocks.entries.items new.entries.items (length new.entries.items))
    → new.ends.items ≡ blocks.ends.items ++ record { separator = lead.separator; end = length new.entries.items } ∷ []
    → ((file : List ℕ) → file_of mid name ≡ Some file → HoldsEntries file end lead.handle block.entries) → now ≡ mid → later ≡ faults
    → BlocksRead held now before later name end leads (n + 1) old new
blocks_read-more held mid now before faults later name end leads n lead old blocks new at so block is holds same counts =
    let more = blocks_more (take n leads) lead old blocks new so.added block is in
    let led : (file : List ℕ) → file_of held name ≡ Some file → LeadToBlocks file end false (pairs_of (take n leads ++ lead ∷ [])) more.0.blocks =
    λ file told.
    subst (LeadToBlocks file end false (pairs_of (take n leads ++ lead ∷ []))) (sym more.1)
    (lead_more file end leads n lead so.added.blocks block.entries at (so.read file told) (holds file (ap (λ (h : Option Files). file_of h name) so.same_files ∙ told))) in
    let all =
    subst (λ (ls : List IndexLead). (added : BlocksAdded ls old new) × ((file : List ℕ) → file_of held name ≡ Some file → LeadToBlocks file end false (pairs_of ls) added.blocks))
    (first_more leads n lead at) (more.0, led) in
    record { same_files = same ∙ so.same_files; counts = counts ∙ so.counts; added = all.0; read = all.1 }

-- all were read
pub blocks_read-all : (held now : Option Files) (before faults : ℕ) (name : List ℕ) (end : ℕ) (leads : List IndexLead) (n : ℕ) (old new : DataBlocks)
    → BlocksRead held now before faults name end leads n old new → length leads ≤ n
    → (added : BlocksAdded leads old new) × ((file : List ℕ) → file_of held name ≡ Some file → LeadToBlocks file end false (pairs_of leads) added.blocks)
blocks_read-all held now before faults name end leads n old new so all =
    subst (λ (ls : List IndexLead). (added : BlocksAdded ls old new) × ((file : List ℕ) → file_of held name ≡ Some file → LeadToBlocks file end false (pairs_of ls) added.blocks))
    (take_all n leads all) (so.added, so.read)
