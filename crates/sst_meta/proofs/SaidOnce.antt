-- What a file that says something of itself leads to: one footer, one metaindex, one list of properties.
use Rattle.std.proofs.Common.{◌≡◌, ℕ, ◌^◌, ◌<◌, ◌≤◌, List, ◌∷◌, ◌++◌, length, Option, None, Some, Ok, refl, sym, ap, ◌∙◌, subst, inl, inr, append_assoc, length-append, arith}
use Rattle.std.specs.Prelude.{IfSome}
use Rattle.sst_num.specs.Spelling.{fixed}
use Rattle.sst_num.specs.declared.block_handle.Handle.{Handle}
use Rattle.sst_num.proofs.Fixed.{length-fixed}
use Rattle.sst_block.specs.declared.row_form.RowForm.TheVariants.{Names}
use Rattle.sst_block.specs.Block.{Row}
use Rattle.sst_meta.specs.BlockFooter.{EndsWith, EndsIn, IsBuilt, FooterLeads, block_footer, footer_start}
use Rattle.sst_meta.specs.Footer.{block_based_magic, AreHandles}
use Rattle.sst_meta.specs.LoadReading.{handle_in}
use Rattle.sst_meta.specs.Meta.{LeadsToProps, AreGood, Meta}
use Rattle.sst_meta.specs.MetaFaults.{HasNames, PropsLead, HasProps, IsMetaReached}
use Rattle.sst_meta.specs.Names.{name_bytes}
use Rattle.sst_meta.specs.Pairs.{value_of}
use Rattle.sst_meta.specs.declared.footer.Footer.{Footer}
use Rattle.sst_meta.specs.declared.loading.Loaded.{Loaded}
use Rattle.sst_meta.specs.declared.name.Name.TheVariants as name
use Rattle.sst_meta.proofs.BlocksRead.{RowsAt, rows-once}
use Rattle.sst_meta.proofs.FooterLaws.{by_version-cases, fields-handles, footer_read-leads}
use Rattle.sst_meta.proofs.FootersRead.{number-of_end, end_read-ends}
use Rattle.sst_meta.proofs.LoadsRead.{pairs-rows, handle-fits}
use Rattle.sst_meta.proofs.ValuesRead.{handle_in-handle}

-- a footer that leads to two handles is the only one
pub leads-once : (file : List ℕ) (end : ℕ) (metaindex index : Handle) (other : ℕ) (m i : Handle) → FooterLeads file end metaindex index → FooterLeads file other m i
    → (end ≡ other) × (metaindex ≡ m) × (index ≡ i)
leads-once file end metaindex index other m i left right =
    let a = footer_read-leads file end metaindex index left in
    let b = footer_read-leads file other m i right in
    let same : ◌≡◌ {A = Footer} (block_footer left.version metaindex index) (block_footer right.version m i) = cc (a.1, b.1) in
    (a.0 ∙ sym b.0, ap (λ (f : Footer). f.meta) same, ap (λ (f : Footer). f.index) same)

-- it is good in each field
pub ends-good : (file : List ℕ) (start : ℕ) (metaindex index : Handle) (end kind version : ℕ) (between : List ℕ) → FooterLeads file start metaindex index
    → EndsIn file end kind version between → IsBuilt version × (kind ≡ 1) × AreHandles metaindex index between
ends-good file start metaindex index end kind version between leads ends =
    let footer : Footer = block_footer leads.version metaindex index in
    let own = footer_read-leads file start metaindex index leads in
    let read = end_read-ends file end kind version between ends in
    by_version-cases kind version between (Ok footer) (sym read.1 ∙ own.1) (λ _ e. cc) (λ _ _ e. cc)
    (λ built is e. (built, is, fields-handles version kind between footer e))

-- a file with a footer is as long as one
footer-long : (file : List ℕ) (end kind version : ℕ) (between : List ℕ) → EndsIn file end kind version between → 53 ≤ length file
footer-long file end kind version between ends =
    let magic = fixed 8 block_based_magic in
    omega (
      arith,
      ap length ends.ends,
      ends.long,
      length-append ends.front (kind ∷ (between ++ (fixed 4 version ++ magic))),
      length-append between (fixed 4 version ++ magic),
      length-append (fixed 4 version) magic,
      length-fixed 4 version,
      length-fixed 8 block_based_magic,
    )

-- it ends with the number of a block-based file, and so with no other
pub ends-magic : (file : List ℕ) (end kind version : ℕ) (between : List ℕ) → EndsIn file end kind version between → EndsWith block_based_magic 53 file
ends-magic file end kind version between ends =
    let magic = fixed 8 block_based_magic in
    let number = fixed 4 version in
    let front : List ℕ = ends.front ++ (kind ∷ (between ++ number)) in
    let joined : file ≡ front ++ magic =
    ends.ends ∙ ap (λ (l : List ℕ). ends.front ++ (kind ∷ l)) (sym (append_assoc between number magic)) ∙ sym (append_assoc ends.front (kind ∷ (between ++ number)) magic) in
    (footer-long file end kind version between ends, (front, joined))

pub ends-with : (file : List ℕ) (end : ℕ) (metaindex index : Handle) → FooterLeads file end metaindex index → EndsWith block_based_magic 53 file
ends-with file end metaindex index leads = ends-magic file end 1 leads.version leads.between leads.ends

pub no-other : (file : List ℕ) (end : ℕ) (metaindex index : Handle) (m n : ℕ) → FooterLeads file end metaindex index → m < 256 ^ 8 → 8 ≤ n → EndsWith m n file
    → block_based_magic ≡ m
no-other file end metaindex index m n leads fits least ends =
    let own = number-of_end file block_based_magic 53 (omega arith) (omega arith) (ends-with file end metaindex index leads) in
    let other = number-of_end file m n fits least ends in
    let same : Some block_based_magic ≡ Some m = sym own ∙ other in
    cc

-- at the handle that the footer leads to stands the metaindex
pub names-at : (file : List ℕ) (loaded : Loaded) (end : ℕ) (h index : Handle) → Meta file loaded → FooterLeads file end h index
    → (footer_start file ≡ end) × RowsAt Names file end h loaded.names
names-at file loaded end h index m leads =
    let footer = loaded.footer in
    let same = leads-once file (footer_start file) footer.meta footer.index end h index m.leads leads in
    let at = pairs-rows file (footer_start file) footer.meta loaded.names m.names in
    (same.0, subst (λ e. RowsAt Names file e h loaded.names) same.0 (subst (λ (k : Handle). RowsAt Names file (footer_start file) k loaded.names) same.1 at))

pub names-once : (file : List ℕ) (loaded : Loaded) (end : ℕ) (names : List Row) → Meta file loaded → HasNames file end names
    → (footer_start file ≡ end) × (loaded.names ≡ names)
names-once file loaded end names m has =
    let at = names-at file loaded end has.0 has.1 m has.2 in
    (at.0, rows-once Names file end has.0 loaded.names names has.3.block at.1 has.3.framed has.3.is)

-- at the handle of the properties stand good ones
pub record PropsAt (file : List ℕ) (end : ℕ) (h : Handle) (loaded : Loaded) : Type 0 where
  pub rows : List Row
  pub at : RowsAt Names file end h rows
  pub are : loaded.props ≡ Some rows
  pub good : AreGood rows

led-props : (file : List ℕ) (loaded : Loaded) (h : Handle) (value : List ℕ) (props : Option (List Row)) → loaded.props ≡ props → footer_start file < 2 ^ 40
    → LeadsToProps file (footer_start file) (Some value) props → IfSome props AreGood → handle_in value ≡ Some h → PropsAt file (footer_start file) h loaded
led-props file loaded h value None same short leads good read = absurd leads
led-props file loaded h value (Some rows) same short leads good read =
    let own = leads.0 in
    let fits = handle-fits file (footer_start file) own leads.2.block short leads.2.framed in
    let one : Some own ≡ Some h = sym (handle_in-handle own value (fits.0, fits.1, leads.1)) ∙ read in
    let is : own ≡ h = cc in
    let at = pairs-rows file (footer_start file) own rows leads.2 in
    record { rows = rows; at = subst (λ (k : Handle). RowsAt Names file (footer_start file) k rows) is at; are = same; good = good }

pub props-at : (file : List ℕ) (loaded : Loaded) (end : ℕ) (h : Handle) → Meta file loaded → PropsLead file end h → PropsAt file end h loaded
props-at file loaded end h m lead =
    let limited = m.limited in
    let same = names-once file loaded end lead.0 m lead.2 in
    let value : value_of (name_bytes name.Properties) loaded.names ≡ Some lead.1 = ap (value_of (name_bytes name.Properties)) same.1 ∙ lead.3 in
    let leads = subst (λ (o : Option (List ℕ)). LeadsToProps file (footer_start file) o loaded.props) value m.props in
    subst (λ e. PropsAt file e h loaded) same.0
    (led-props file loaded h lead.1 loaded.props refl (omega arith) leads m.good (handle_in-handle h lead.1 lead.4))

-- the properties of the file are good
pub props-good : (file : List ℕ) (loaded : Loaded) (props : List Row) → Meta file loaded → HasProps file props → AreGood props
props-good file loaded props m has =
    let found = props-at file loaded has.0 has.1 m has.2 in
    let same = rows-once Names file has.0 has.1 found.rows props has.3.block found.at has.3.framed has.3.is in
    subst AreGood same found.good

-- rows stand at each handle that is reached
pub reached-rows : (file : List ℕ) (loaded : Loaded) (end : ℕ) (h : Handle) → Meta file loaded → IsMetaReached file end h → (rows : List Row) × RowsAt Names file end h rows
reached-rows file loaded end h m (inl footer) = (loaded.names, (names-at file loaded end h footer.0 m footer.1).1)
reached-rows file loaded end h m (inr lead) = let found = props-at file loaded end h m lead in (found.rows, found.at)
