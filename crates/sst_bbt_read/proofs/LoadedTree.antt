-- A file that says of itself what it must opens as the tree of its index does.
use Rattle.std.proofs.Common.{◌≡◌, ◌⊎◌, inl, inr, IsTrue, ℕ, ◌-◌, ◌≤◌, List, length, Option, None, Some, Result, Ok, Err, IfOk, refl, ap, ◌∙◌, subst, arith}
use Rattle.std.proofs.lemmas.Bool.{ltb-true}
use Rattle.std.specs.FinMap.{get}
use Rattle.sst_num.specs.declared.stops.Stop.{Stop}
use Rattle.sst_num.specs.declared.stops.Stop.TheVariants.{Damage, Device, Memory}
use Rattle.sst_block.specs.IndexRows.{IndexPair}
use Rattle.sst_device.specs.Faults.{Rose}
use Rattle.sst_device.specs.Folder.{Files, file_of, misses, ends_before}
use Rattle.sst_device.specs.Stops.{Answers, stop_as}
use Rattle.sst_meta.specs.BlockFooter.{footer_start}
use Rattle.sst_meta.specs.IndexForms.{index_form}
use Rattle.sst_meta.specs.LoadReading.{load_read}
use Rattle.sst_meta.specs.declared.index_form.IndexForm.{IndexForm}
use Rattle.sst_meta.specs.declared.loading.Loaded.{Loaded}
use Rattle.sst_meta.specs.declared.meta_fault.MetaFault.{MetaFault}
use Rattle.sst_meta.proofs.LoadsRead.{load-sound}
use Rattle.sst_bbt_spec.specs.IndexLeads.{SaysPairs, LeadToParts}
use Rattle.sst_bbt_read.specs.OpeningFaults.{TreeFails}
use Rattle.sst_bbt_read.specs.Reader.{Opened, Stopped}
use Rattle.sst_bbt_read.specs.TableBlocks.{OpenTable, parts_of}
use Rattle.sst_bbt_read.specs.declared.bbt_fault.BbtFault.{BbtFault}
use Rattle.sst_bbt_read.specs.declared.bbt_fault.BbtFault.TheVariants as bbt

-- a file that doesn't say of itself what it must
pub stopped : (stop : Stop MetaFault) (file : List ℕ) → Answers {A = Loaded} (Err stop) (load_read file) → Opened (Err (stop_as bbt.Meta stop)) file
stopped (Damage fault) file is = inl (fault, refl, is)
stopped Device file is = tt
stopped Memory file is = tt

-- the length that was found is the file's
pub loaded_length : (file : List ℕ) (loaded : Loaded) → load_read file ≡ Ok loaded → loaded.len ≡ length file
loaded_length file loaded is = let meta = load-sound file loaded is in meta.len

-- the tree at the top block is read
abbrev pub OpensTree : List ℕ → ℕ → IndexForm → Loaded → OpenTable → Type 0
OpensTree file end form loaded table =
    (pairs : List IndexPair) × SaysPairs file end form loaded.footer.index pairs × LeadToParts file end form pairs (parts_of table)

tree_opened : (result : Result OpenTable (Stop BbtFault)) (loaded : Loaded) (file : List ℕ) → load_read file ≡ Ok loaded
    → IfOk result (OpensTree file (footer_start file) (index_form loaded.props) loaded)
    → Stopped result (TreeFails file (footer_start file) (index_form loaded.props) loaded.footer.index) → Opened result file
tree_opened (Ok table) loaded file is opens fails =
    record { loaded = loaded; meta = load-sound file loaded is; pairs = opens.0; top = opens.1; lead = opens.2 }
tree_opened (Err (Damage fault)) loaded file is opens fails = inr (loaded, load-sound file loaded is, fails)
tree_opened (Err Device) loaded file is opens fails = tt
tree_opened (Err Memory) loaded file is opens fails = tt

-- a file that says of itself what it must
pub after_load : (result : Result OpenTable (Stop BbtFault)) (loaded : Loaded) (file : List ℕ) (end : ℕ) (form : IndexForm) → load_read file ≡ Ok loaded
    → end ≡ loaded.len - 53 → form ≡ index_form loaded.props → IfOk result (OpensTree file end form loaded)
    → Stopped result (TreeFails file end form loaded.footer.index) → Opened result file
after_load result loaded file end form is at tells opens fails =
    let start : end ≡ footer_start file = at ∙ ap (λ (n : ℕ). n - 53) (loaded_length file loaded is) in
    let so : IfOk result (OpensTree file (footer_start file) (index_form loaded.props) loaded) =
    subst (λ (f : IndexForm). IfOk result (OpensTree file (footer_start file) f loaded)) tells (subst (λ (n : ℕ). IfOk result (OpensTree file n form loaded)) start opens) in
    let not : Stopped result (TreeFails file (footer_start file) (index_form loaded.props) loaded.footer.index) =
    subst (λ (f : IndexForm). Stopped result (TreeFails file (footer_start file) f loaded.footer.index)) tells
    (subst (λ (n : ℕ). Stopped result (TreeFails file n form loaded.footer.index)) start fails) in
    tree_opened result loaded file is so not

-- a file that is there isn't shorter than its footer begins
ends-early : (found : Option (List ℕ)) (end : ℕ) → ((file : List ℕ) → found ≡ Some file → end ≤ length file) → IsTrue (ends_before found end)
    → IsTrue (ends_before found 0)
ends-early None end within early = early
ends-early (Some file) end within early = let short = ltb-true (length file) end early in absurd (omega (arith, short, within file refl))

missed-whole : (held : Option Files) (name : List ℕ) (end : ℕ) → ((file : List ℕ) → file_of held name ≡ Some file → end ≤ length file)
    → IsTrue (misses held name end) → IsTrue (misses held name 0)
missed-whole None name end within missed = missed
missed-whole (Some files) name end within missed = ends-early (get files name) end within missed

-- so that a block isn't missed where the file is there
pub whole_failed : (held now : Option Files) (name : List ℕ) (end first then_ last : ℕ) → now ≡ held → first ≤ then_
    → ((file : List ℕ) → file_of held name ≡ Some file → end ≤ length file) → IsTrue (misses now name end) ⊎ Rose then_ last
    → IsTrue (misses held name 0) ⊎ Rose first last
whole_failed held now name end first then_ last same counts within (inl missed) =
    inl (missed-whole held name end within (subst (λ (h : Option Files). IsTrue (misses h name end)) same missed))
whole_failed held now name end first then_ last same counts within (inr rose) = inr (omega (arith, counts, rose))
