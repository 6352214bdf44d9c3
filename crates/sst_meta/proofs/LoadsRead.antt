-- What is loaded of a file is what it says of itself.
use Rattle.std.proofs.Common.{◌≡◌, ℕ, ◌^◌, ◌<◌, nat_lt, false, List, length, Option, None, Some, Result, Ok, Err, refl, sym, ap, subst, ◌∙◌, arith}
use Rattle.std.specs.Prelude.{IfSome}
use Rattle.std.specs.Option.{is_some}
use Rattle.std.proofs.lemmas.Bool.{lt-ltb, ltb-true}
use Rattle.sst_num.specs.declared.block_handle.Handle.{Handle}
use Rattle.sst_block.specs.declared.row_form.RowForm.TheVariants.{Names}
use Rattle.sst_block.specs.Block.{Row}
use Rattle.sst_device.specs.Framed.{Framed}
use Rattle.sst_device.proofs.Choices.{by_test}
use Rattle.sst_meta.specs.Blocks.{then_open, block_at}
use Rattle.sst_meta.specs.BlockFooter.{footer_start}
use Rattle.sst_meta.specs.FooterReading.{last_bytes}
use Rattle.sst_meta.specs.LoadReading.{end_read, handle_in, props_fault, unless_fault, sound_props, props_in, props_at, props_read, as_loaded, names_read, load_read}
use Rattle.sst_meta.specs.Meta.{HasPairs, LeadsToProps, AreGood, Meta}
use Rattle.sst_meta.specs.Names.{name_bytes, range_tombstones}
use Rattle.sst_meta.specs.Pairs.{value_of}
use Rattle.sst_meta.specs.declared.loading.Loaded.{Loaded}
use Rattle.sst_meta.specs.declared.name.Name.TheVariants as name
use Rattle.sst_meta.specs.declared.meta_fault.MetaFault.{MetaFault}
use Rattle.sst_meta.specs.declared.meta_fault.MetaFault.TheVariants as meta
use Rattle.sst_meta.proofs.BlocksRead.{RowsAt, block_at-rows, block_at-found}
use Rattle.sst_meta.proofs.FooterLaws.{footer_read-leads, leads-read}
use Rattle.sst_meta.proofs.PropsRules.{good-no_fault, no_fault-good}
use Rattle.sst_meta.proofs.ReadSteps.{then_open-ok}
use Rattle.sst_meta.proofs.ValuesRead.{handle_in-handle, handle_in-found}

-- the block of names and values at a handle, as rows that stand there
pub pairs-rows : (file : List ℕ) (end : ℕ) (h : Handle) (pairs : List Row) → HasPairs file end h pairs → RowsAt Names file end h pairs
pairs-rows file end h pairs has = record { bytes = has.block; framed = has.framed; block = has.is }

pub rows-pairs : (file : List ℕ) (end : ℕ) (h : Handle) (pairs : List Row) → RowsAt Names file end h pairs → HasPairs file end h pairs
rows-pairs file end h pairs at = record { block = at.bytes; framed = at.framed; is = at.block }

-- a handle that is framed before the end of a short file is spelled as a handle
pub handle-fits : (file : List ℕ) (end : ℕ) (h : Handle) (block : List ℕ) → end < 2 ^ 40 → Framed file end h block → (h.offset < 2 ^ 64) × (h.size < 2 ^ 64)
handle-fits file end h block short framed = let within = framed.within in (omega arith, omega arith)

-- the properties to which the metaindex leads are read
props-complete : (file : List ℕ) (end : ℕ) (o : Option (List ℕ)) (props : Option (List Row)) → end < 2 ^ 40 → LeadsToProps file end o props → IfSome props AreGood
    → props_at file end o ≡ Ok props
props-complete file end None props short leads good = ap Ok (sym leads)
props-complete file end (Some value) None short leads good = absurd leads
props-complete file end (Some value) (Some props) short leads good =
    let h = leads.0 in
    let fits = handle-fits file end h leads.2.block short leads.2.framed in
    let rows = block_at-rows meta.Frame (meta.Block h) Names file end h props (pairs-rows file end h props leads.2) in
    ap (props_in file end) (handle_in-handle h value (fits.0, fits.1, leads.1))
    ∙ ap (λ (r : Result (List Row) MetaFault). then_open r sound_props) rows ∙ ap (unless_fault props) (good-no_fault props good)

-- properties that are passed have no fault
unless-ok : (rows : List Row) (fault : Option MetaFault) (props : Option (List Row)) → unless_fault rows fault ≡ Ok props → (Some rows ≡ props) × (fault ≡ None)
unless-ok rows None props e = (cc, refl)
unless-ok rows (Some fault) props e = cc

pub unless-err : (rows : List Row) (o : Option MetaFault) (fault : MetaFault) → unless_fault rows o ≡ Err fault → o ≡ Some fault
unless-err rows None fault e = cc
unless-err rows (Some f) fault e = let same : f ≡ fault = cc in ap Some same

-- properties that are read are those to which the metaindex leads
props-sound : (file : List ℕ) (end : ℕ) (o : Option (List ℕ)) (props : Option (List Row)) → props_at file end o ≡ Ok props
    → LeadsToProps file end o props × IfSome props AreGood
props-sound file end None props e =
    let same : None ≡ props = cc in
    subst (λ (p : Option (List Row)). LeadsToProps file end None p × IfSome p AreGood) same (refl, tt)
props-sound file end (Some value) props e =
    elim (handle_in value) as (λ (q : Option Handle). handle_in value ≡ q → props_in file end q ≡ Ok props
    → LeadsToProps file end (Some value) props × IfSome props AreGood) [
      | None ↦ λ _ e. cc
      | Some h ↦ λ read e.
          then_open-ok (block_at meta.Frame (meta.Block h) Names file end h) sound_props props e
          (λ rows found last.
          let passed = unless-ok rows (props_fault rows) props last in
          let at = block_at-found meta.Frame (meta.Block h) Names file end h rows found in
          subst (λ (p : Option (List Row)). LeadsToProps file end (Some value) p × IfSome p AreGood) passed.0
          ((h, (handle_in-found h value read).2, rows-pairs file end h rows at), no_fault-good rows passed.1))
    ] refl e

-- range tombstones are seen before the properties
without : (o : Option (List ℕ)) → is_some o ≡ false → o ≡ None
without None e = refl
without (Some value) e = cc

read-none : (file : List ℕ) (end : ℕ) (names : List Row) (props : Option (List Row)) → value_of range_tombstones names ≡ None
    → props_at file end (value_of (name_bytes name.Properties) names) ≡ Ok props → props_read file end names ≡ Ok props
unfolding props_read
read-none file end names props none e = rw none e

-- what is said where the metaindex has range tombstones, or properties, or a fault of them
pub read-parts : {P : Type 0} (file : List ℕ) (end : ℕ) (names : List Row) (read : Result (Option (List Row)) MetaFault) → props_read file end names ≡ read
    → ((value : List ℕ) → value_of range_tombstones names ≡ Some value → Err meta.RangeTombstones ≡ read → P)
    → (value_of range_tombstones names ≡ None → props_at file end (value_of (name_bytes name.Properties) names) ≡ read → P) → P
unfolding props_read
read-parts {P = P} file end names read e some none =
    elim (value_of range_tombstones names) as (λ (q : Option (List ℕ)). value_of range_tombstones names ≡ q → P) [
      | None ↦ λ is. none is (rw is at e)
      | Some value ↦ λ is. some value is (rw is at e)
    ] refl

-- what a file says of itself is loaded
pub load-complete : (file : List ℕ) (loaded : Loaded) → Meta file loaded → load_read file ≡ Ok loaded
unfolding load_read
load-complete file loaded m =
    let footer = loaded.footer in
    let end = footer_start file in
    let limited = m.limited in
    let read : end_read (last_bytes 53 file) ≡ Ok footer = (footer_read-leads file end footer.meta footer.index m.leads).1 ∙ ap Ok (sym m.footer) in
    let names = block_at-rows meta.Frame (meta.Block footer.meta) Names file end footer.meta loaded.names (pairs-rows file end footer.meta loaded.names m.names) in
    let props = read-none file end loaded.names loaded.props m.no_tombstones
    (props-complete file end (value_of (name_bytes name.Properties) loaded.names) loaded.props (omega arith) m.props m.good) in
    rw (lt-ltb (length file) (2 ^ 40) m.limited)
    (ap (λ r. then_open r (names_read file end)) read
    ∙ ap (λ r. then_open r (λ names. then_open (props_read file end names) (λ props. Ok (as_loaded file footer names props)))) names
    ∙ ap (λ r. then_open r (λ props. Ok (as_loaded file footer loaded.names props))) props
    ∙ ap (λ (n : ℕ). Ok (record { len = n; footer = footer; names = loaded.names; props = loaded.props })) (sym m.len))

-- and what is loaded is what it says of itself
pub load-sound : (file : List ℕ) (loaded : Loaded) → load_read file ≡ Ok loaded → Meta file loaded
unfolding load_read
load-sound file loaded e =
    let end = footer_start file in
    by_test (nat_lt (length file) (2 ^ 40)) (then_open (end_read (last_bytes 53 file)) (names_read file end)) _ (Ok loaded) e
    (λ short e. then_open-ok (end_read (last_bytes 53 file)) _ loaded e
    (λ footer read e. then_open-ok (block_at meta.Frame (meta.Block footer.meta) Names file end footer.meta) _ loaded e
    (λ names found e. then_open-ok (props_read file end names) _ loaded e
    (λ props got last.
    let leads = leads-read file footer read in
    let at = block_at-found meta.Frame (meta.Block footer.meta) Names file end footer.meta names found in
    let same : ◌≡◌ {A = Loaded} (as_loaded file footer names props) loaded = cc in
    read-parts file end names (Ok props) got (λ _ _ wrong. cc)
    (λ none good.
    let parts = props-sound file end (value_of (name_bytes name.Properties) names) props good in
    subst (λ (l : Loaded). Meta file l) same (record {
      limited = ltb-true (length file) (2 ^ 40) short;
      len = refl;
      leads = leads.0;
      footer = leads.1;
      names = rows-pairs file end footer.meta names at;
      no_tombstones = none;
      props = parts.0;
      good = parts.1;
    }))))))
    (λ _ e. cc)

-- so it says one thing at most
pub load-one : (file : List ℕ) (a b : Loaded) → Meta file a → Meta file b → a ≡ b
load-one file a b left right =
    let same : Ok a ≡ Ok b = sym (load-complete file a left) ∙ load-complete file b right in
    cc
