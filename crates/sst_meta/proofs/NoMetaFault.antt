-- A file that says something of itself shows no fault.
use Rattle.std.proofs.Common.{◌≡◌, ◌⊎◌, ℕ, ◌^◌, ◌<◌, List, Option, None, Some, Result, Ok, Err, refl, sym, ap, ◌∙◌, subst, inl, inr, arith}
use Rattle.std.specs.Prelude.{IfSome}
use Rattle.sst_num.specs.Spelling.{fixed, varint}
use Rattle.sst_num.specs.declared.block_handle.Handle.{Handle}
use Rattle.sst_block.specs.declared.row_form.RowForm.TheVariants.{Names}
use Rattle.sst_block.specs.Block.{Row}
use Rattle.hex.specs.Hex.{IsBytes}
use Rattle.sst_meta.specs.BlockFooter.{IsOtherTable, FooterLeads, footer_start}
use Rattle.sst_meta.specs.Footer.{legacy_block_based_magic, plain_magic, legacy_plain_magic, cuckoo_magic}
use Rattle.sst_meta.specs.FooterReading.{last_bytes}
use Rattle.sst_meta.specs.LoadReading.{fixed_in, load_read}
use Rattle.sst_meta.specs.Meta.{LeadsToProps, IsIndexType, IsFlag, Meta}
use Rattle.sst_meta.specs.MetaFaults.{IsHandleOf, HasProps, HasValue, IsBadValue, IsMissing, IsNotYet, ShowsMeta}
use Rattle.sst_meta.specs.Names.{name_bytes, range_tombstones, comparator}
use Rattle.sst_meta.specs.Pairs.{value_of}
use Rattle.sst_meta.specs.declared.loading.Loaded.{Loaded}
use Rattle.sst_meta.specs.declared.name.Name.{Name}
use Rattle.sst_meta.specs.declared.name.Name.TheVariants as name
use Rattle.sst_meta.specs.declared.meta_fault.MetaFault.{MetaFault}
use Rattle.sst_meta.specs.declared.meta_fault.MetaFault.TheVariants as meta
use Rattle.sst_meta.proofs.BlocksRead.{no-frame_fault, no-block_fault}
use Rattle.sst_meta.proofs.FirstStep.{load-shown}
use Rattle.sst_meta.proofs.LoadsRead.{handle-fits, load-sound}
use Rattle.sst_meta.proofs.SaidOnce.{ends-good, ends-with, no-other, names-once, props-good, reached-rows}
use Rattle.sst_meta.proofs.ValuesRead.{fixed_in-fixed}

-- it isn't another kind of table
no-other_table : (file : List ℕ) (end : ℕ) (metaindex index : Handle) → FooterLeads file end metaindex index → IsOtherTable file → ⊥
no-other_table file end metaindex index leads (inl ends) =
    let same = no-other file end metaindex index plain_magic 53 leads (omega arith) (omega arith) ends in omega arith
no-other_table file end metaindex index leads (inr (inl ends)) =
    let same = no-other file end metaindex index legacy_plain_magic 48 leads (omega arith) (omega arith) ends in omega arith
no-other_table file end metaindex index leads (inr (inr ends)) =
    let same = no-other file end metaindex index cuckoo_magic 53 leads (omega arith) (omega arith) ends in omega arith

-- two numbers that are spelled alike are one
fixed-once : (m n : ℕ) → m < 256 ^ 4 → n < 256 ^ 4 → fixed 4 m ≡ fixed 4 n → m ≡ n
fixed-once m n fits_m fits_n same =
    let read : Some m ≡ Some n = sym (fixed_in-fixed 4 m fits_m) ∙ ap (fixed_in 4) same ∙ fixed_in-fixed 4 n fits_n in
    cc

-- what a good property says of its value
said : (P : List ℕ → Type 0) (o : Option (List ℕ)) (value : List ℕ) → IfSome o P → o ≡ Some value → P value
said P None value good is = cc
said P (Some v) value good is = let same : v ≡ value = cc in subst P same good

-- the value of a type of the index that is good
index_type-low : (n : ℕ) → 2 < n → n < 256 ^ 4 → IsIndexType (fixed 4 n) → ⊥
index_type-low n large fits (inl same) = let is = fixed-once n 0 fits (omega arith) same in omega arith
index_type-low n large fits (inr (inl same)) = let is = fixed-once n 1 fits (omega arith) same in omega arith
index_type-low n large fits (inr (inr same)) = let is = fixed-once n 2 fits (omega arith) same in omega arith

no-index_type : (file : List ℕ) (loaded : Loaded) (n : ℕ) → 2 < n → n < 256 ^ 4 → Meta file loaded → HasValue file (name_bytes name.IndexType) (fixed 4 n) → ⊥
no-index_type file loaded n large fits m has =
    let good = props-good file loaded has.0 m has.1 in
    index_type-low n large fits (said IsIndexType (value_of (name_bytes name.IndexType) has.0) (fixed 4 n) good.index_type has.2)

-- it isn't marked
no-mark : (file : List ℕ) (loaded : Loaded) (props : List Row) → Meta file loaded → HasProps file props
    → value_of (name_bytes name.ExternalVersion) props ≡ Some (fixed 4 2) → ⊥
no-mark file loaded props m has marked =
    let good = props-good file loaded props m has in
    let same = said _ (value_of (name_bytes name.ExternalVersion) props) (fixed 4 2) good.unmarked marked in
    let one = fixed-once 2 1 (omega arith) (omega arith) same in
    omega arith

-- no value has another form than it must have
no-bad_flag : (value : List ℕ) → IsFlag value → ((n : ℕ) → n < 2 ^ 64 → value ≡ varint n → ⊥) → ⊥
no-bad_flag value is not = not is.0 is.1 is.2

no-bad_type : (value : List ℕ) → IsIndexType value → ((type : ℕ) → type < 2 ^ 32 → value ≡ fixed 4 type → ⊥) → ⊥
no-bad_type value (inl same) not = not 0 (omega arith) same
no-bad_type value (inr (inl same)) not = not 1 (omega arith) same
no-bad_type value (inr (inr same)) not = not 2 (omega arith) same

no-bad_lead : (file : List ℕ) (end : ℕ) (value : List ℕ) (props : Option (List Row)) → end < 2 ^ 40 → LeadsToProps file end (Some value) props
    → ((handle : Handle) → IsHandleOf handle value → ⊥) → ⊥
no-bad_lead file end value None short leads not = leads
no-bad_lead file end value (Some props) short leads not =
    let fits = handle-fits file end leads.0 leads.2.block short leads.2.framed in
    not leads.0 (fits.0, fits.1, leads.1)

no-bad_value : (file : List ℕ) (loaded : Loaded) (n : Name) → Meta file loaded → IsBadValue file n → ⊥
no-bad_value file loaded name.Properties m bad =
    let limited = m.limited in
    let same = names-once file loaded bad.0 bad.1 m bad.3 in
    let value : value_of (name_bytes name.Properties) loaded.names ≡ Some bad.2 = ap (value_of (name_bytes name.Properties)) same.1 ∙ bad.4 in
    no-bad_lead file (footer_start file) bad.2 loaded.props (omega arith)
    (subst (λ (o : Option (List ℕ)). LeadsToProps file (footer_start file) o loaded.props) value m.props) bad.5
no-bad_value file loaded name.IndexType m bad =
    let good = props-good file loaded bad.1.0 m bad.1.1 in
    no-bad_type bad.0 (said IsIndexType (value_of (name_bytes name.IndexType) bad.1.0) bad.0 good.index_type bad.1.2) bad.2
no-bad_value file loaded name.GlobalSequence m bad = no-mark file loaded bad.0 m bad.2 bad.3
no-bad_value file loaded name.ExternalVersion m bad =
    let good = props-good file loaded bad.1.0 m bad.1.1 in
    bad.2 (said _ (value_of (name_bytes name.ExternalVersion) bad.1.0) bad.0 good.unmarked bad.1.2)
no-bad_value file loaded name.IndexKeyIsUserKey m bad =
    let good = props-good file loaded bad.1.0 m bad.1.1 in
    no-bad_flag bad.0 (said IsFlag (value_of (name_bytes name.IndexKeyIsUserKey) bad.1.0) bad.0 good.user_key_flag bad.1.2) bad.2
no-bad_value file loaded name.IndexValueIsDeltaEncoded m bad =
    let good = props-good file loaded bad.1.0 m bad.1.1 in
    no-bad_flag bad.0 (said IsFlag (value_of (name_bytes name.IndexValueIsDeltaEncoded) bad.1.0) bad.0 good.delta_flag bad.1.2) bad.2

-- none is missing
no-missing : (file : List ℕ) (loaded : Loaded) (n : Name) → Meta file loaded → IsMissing file n → ⊥
no-missing file loaded name.GlobalSequence m missing = no-mark file loaded missing.0 m missing.1 missing.2
no-missing file loaded name.Properties m missing = missing
no-missing file loaded name.IndexType m missing = missing
no-missing file loaded name.ExternalVersion m missing = missing
no-missing file loaded name.IndexKeyIsUserKey m missing = missing
no-missing file loaded name.IndexValueIsDeltaEncoded m missing = missing

-- it is of no kind and no form that isn't read yet
no-not_yet : (file : List ℕ) (loaded : Loaded) → Meta file loaded → IsNotYet file → ⊥
no-not_yet file loaded m (inl other) = no-other_table file _ loaded.footer.meta loaded.footer.index m.leads other
no-not_yet file loaded m (inr mark) = no-mark file loaded mark.0 m mark.1 mark.2

pub no-meta_fault : (file : List ℕ) (loaded : Loaded) (fault : MetaFault) → Meta file loaded → ShowsMeta file fault → ⊥
no-meta_fault file loaded meta.NotTable m shows = shows (inl (ends-with file _ loaded.footer.meta loaded.footer.index m.leads))
no-meta_fault file loaded (meta.Version version) m (inl old) =
    let same = no-other file _ loaded.footer.meta loaded.footer.index legacy_block_based_magic 48 m.leads (omega arith) (omega arith) old.0 in
    omega arith
no-meta_fault file loaded (meta.Version version) m (inr shows) =
    shows.4 (ends-good file _ loaded.footer.meta loaded.footer.index shows.0 shows.1 version shows.2 m.leads shows.3).0
no-meta_fault file loaded (meta.ChecksumType kind) m shows =
    shows.5 (ends-good file _ loaded.footer.meta loaded.footer.index shows.0 kind shows.1 shows.2 m.leads shows.3).1
no-meta_fault file loaded meta.BadFooter m shows =
    shows.5 loaded.footer.meta loaded.footer.index (ends-good file _ loaded.footer.meta loaded.footer.index shows.0 1 shows.1 shows.2 m.leads shows.3).2
no-meta_fault file loaded meta.FileLong m shows = let short = m.limited in omega arith
no-meta_fault file loaded (meta.Frame fault) m shows =
    let at = reached-rows file loaded shows.0 shows.1 m shows.2 in
    no-frame_fault Names file shows.0 shows.1 at.0 fault at.1 shows.3
no-meta_fault file loaded (meta.Block h fault) m shows =
    let at = reached-rows file loaded shows.0 h m shows.2 in
    no-block_fault Names file shows.0 h at.0 shows.1 fault at.1 shows.3 shows.4
no-meta_fault file loaded meta.RangeTombstones m shows =
    let same = names-once file loaded shows.0 shows.1 m shows.3 in
    cc (m.no_tombstones, ap (value_of range_tombstones) same.1, shows.4)
no-meta_fault file loaded meta.Comparator m shows =
    let good = props-good file loaded shows.1.0 m shows.1.1 in
    shows.2 (said _ (value_of comparator shows.1.0) shows.0 good.comparator_is shows.1.2)
no-meta_fault file loaded (meta.IndexType type) m shows =
    let large = shows.0 in
    let fits = shows.1 in
    no-index_type file loaded type (omega arith) (omega arith) m shows.2
no-meta_fault file loaded (meta.BadProperty n) m shows = no-bad_value file loaded n m shows
no-meta_fault file loaded (meta.MissingProperty n) m shows = no-missing file loaded n m shows
no-meta_fault file loaded meta.NotYet m shows = no-not_yet file loaded m shows

-- a file says something of itself, or shows a fault
either-by : (file : List ℕ) (read : Result Loaded MetaFault) → load_read file ≡ read → IsBytes (last_bytes 53 file)
    → ((loaded : Loaded) × Meta file loaded) ⊎ ((fault : MetaFault) × ShowsMeta file fault)
either-by file (Ok loaded) is bytes = inl (loaded, load-sound file loaded is)
either-by file (Err fault) is bytes = inr (fault, load-shown file fault bytes is)

pub either : (file : List ℕ) → IsBytes (last_bytes 53 file) → ((loaded : Loaded) × Meta file loaded) ⊎ ((fault : MetaFault) × ShowsMeta file fault)
either file bytes = either-by file (load_read file) refl bytes
