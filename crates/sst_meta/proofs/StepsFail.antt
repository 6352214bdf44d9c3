-- What fails at a step of loading: a file shows it, it is all that fails there, and each fault that a file shows fails at
-- a step.
use Rattle.std.proofs.Common.{◌≡◌, ℕ, ◌<◌, List, [], ◌∷◌, Option, None, Some, slice_get, Result, Err, refl, sym, ap, ◌∙◌, subst, inl, inr, arith}
use Rattle.sst_num.specs.Spelling.{fixed}
use Rattle.sst_num.specs.declared.block_handle.Handle.{Handle}
use Rattle.sst_block.specs.declared.row_form.RowForm.TheVariants.{Names}
use Rattle.sst_block.specs.Block.{Row}
use Rattle.hex.specs.Hex.{IsBytes}
use Rattle.sst_meta.specs.FooterReading.{last_bytes}
use Rattle.sst_meta.specs.LoadReading.{end_read, comparator_fault, index_type_fault, global_fault, external_fault, flag_fault}
use Rattle.sst_meta.specs.LoadSteps.{LoadStep, file_length, magic_number, kind_of_table, format_version, checksum_type, footer_handles, metaindex_frame, metaindex_rows, no_tombstones, props_handle, props_frame, props_rows, key_order, index_type, global_sequence, external_version, user_key_flag, delta_flag, form_is_read, number_of, FailsAt, IsShown}
use Rattle.sst_meta.specs.MetaFaults.{HasNames, HasProps, IsHandleOf, IsBadValue, IsMissing, ShowsMeta}
use Rattle.sst_meta.specs.Names.{name_bytes, range_tombstones, comparator}
use Rattle.sst_meta.specs.Pairs.{value_of}
use Rattle.sst_meta.specs.declared.footer.Footer.{Footer}
use Rattle.sst_meta.specs.declared.name.Name.TheVariants as name
use Rattle.sst_meta.specs.declared.meta_fault.MetaFault.{MetaFault}
use Rattle.sst_meta.specs.declared.meta_fault.MetaFault.TheVariants as meta
use Rattle.sst_meta.proofs.SaidOnce.{leads-once}
use Rattle.sst_meta.proofs.StepsRead.{no_table-read, other_table-read, legacy-read, version-read, checksum-read, handles-read, names-same, lead-same, props-same, value-same, frame-same, block-same, comparator-fails, index_type-bad, index_type-large, global-missing, global-bad, external-bad, flag-bad}

-- the steps in their order
abbrev load_steps : List LoadStep
load_steps =
    file_length ∷ magic_number ∷ kind_of_table ∷ format_version ∷ checksum_type ∷ footer_handles ∷ metaindex_frame ∷ metaindex_rows ∷ no_tombstones ∷ props_handle
    ∷ props_frame ∷ props_rows ∷ key_order ∷ index_type ∷ global_sequence ∷ external_version ∷ user_key_flag ∷ delta_flag ∷ form_is_read ∷ []

step-at : (step : LoadStep) → slice_get load_steps (number_of step) ≡ Some step
step-at file_length = refl
step-at magic_number = refl
step-at kind_of_table = refl
step-at format_version = refl
step-at checksum_type = refl
step-at footer_handles = refl
step-at metaindex_frame = refl
step-at metaindex_rows = refl
step-at no_tombstones = refl
step-at props_handle = refl
step-at props_frame = refl
step-at props_rows = refl
step-at key_order = refl
step-at index_type = refl
step-at global_sequence = refl
step-at external_version = refl
step-at user_key_flag = refl
step-at delta_flag = refl
step-at form_is_read = refl

-- so each has its own number
pub number-once : (a b : LoadStep) → number_of a ≡ number_of b → a ≡ b
number-once a b same =
    let is : Some a ≡ Some b = sym (step-at a) ∙ ap (slice_get load_steps) same ∙ step-at b in
    cc

-- a fault that fails at a step is one that the file shows
shown : (file : List ℕ) (fault other : MetaFault) → IsShown file fault other → ShowsMeta file fault
shown file fault other is = subst (λ f. ShowsMeta file f) (sym is.0) is.1

pub fails-shows : (file : List ℕ) (step : LoadStep) (fault : MetaFault) → FailsAt file step fault → ShowsMeta file fault
fails-shows file file_length fault fails = shown file fault meta.FileLong fails
fails-shows file magic_number fault fails = shown file fault meta.NotTable fails
fails-shows file kind_of_table fault fails = shown file fault meta.NotYet (fails.0, inl fails.1)
fails-shows file format_version fault fails = shown file fault (meta.Version fails.0) fails.1
fails-shows file checksum_type fault fails = shown file fault (meta.ChecksumType fails.0) fails.1
fails-shows file footer_handles fault fails = shown file fault meta.BadFooter fails
fails-shows file metaindex_frame fault fails =
    let w = fails.4 in shown file fault (meta.Frame w.0) (w.1, (fails.0, fails.1, inl (fails.2, fails.3), w.2))
fails-shows file metaindex_rows fault fails =
    let w = fails.4 in shown file fault (meta.Block fails.1 w.0) (w.2, (fails.0, w.1, inl (fails.2, fails.3), w.3, w.4))
fails-shows file no_tombstones fault fails = shown file fault meta.RangeTombstones fails
fails-shows file props_handle fault fails = shown file fault (meta.BadProperty name.Properties) fails
fails-shows file props_frame fault fails =
    let w = fails.3 in shown file fault (meta.Frame w.0) (w.1, (fails.0, fails.1, inr fails.2, w.2))
fails-shows file props_rows fault fails =
    let w = fails.3 in shown file fault (meta.Block fails.1 w.0) (w.2, (fails.0, w.1, inr fails.2, w.3, w.4))
fails-shows file key_order fault fails = shown file fault meta.Comparator fails
fails-shows file index_type fault (inl fails) = shown file fault (meta.BadProperty name.IndexType) fails
fails-shows file index_type fault (inr fails) = shown file fault (meta.IndexType fails.0) fails.1
fails-shows file global_sequence fault (inl fails) = shown file fault (meta.MissingProperty name.GlobalSequence) fails
fails-shows file global_sequence fault (inr fails) = shown file fault (meta.BadProperty name.GlobalSequence) fails
fails-shows file external_version fault fails = shown file fault (meta.BadProperty name.ExternalVersion) fails
fails-shows file user_key_flag fault fails = shown file fault (meta.BadProperty name.IndexKeyIsUserKey) fails
fails-shows file delta_flag fault fails = shown file fault (meta.BadProperty name.IndexValueIsDeltaEncoded) fails
fails-shows file form_is_read fault fails = shown file fault meta.NotYet (fails.0, inr fails.1)

-- and one that the file shows fails at a step
abbrev pub Fails : List ℕ → MetaFault → Type 0
Fails file fault = (step : LoadStep) × FailsAt file step fault

pub shows-fails : (file : List ℕ) (fault : MetaFault) → ShowsMeta file fault → Fails file fault
shows-fails file meta.NotTable shows = (magic_number, (refl, shows))
shows-fails file (meta.Version version) shows = (format_version, (version, (refl, shows)))
shows-fails file (meta.ChecksumType kind) shows = (checksum_type, (kind, (refl, shows)))
shows-fails file meta.Comparator shows = (key_order, (refl, shows))
shows-fails file (meta.IndexType type) shows = (index_type, inr (type, (refl, shows)))
shows-fails file meta.RangeTombstones shows = (no_tombstones, (refl, shows))
shows-fails file (meta.BadProperty name.Properties) shows = (props_handle, (refl, shows))
shows-fails file (meta.BadProperty name.IndexType) shows = (index_type, inl (refl, shows))
shows-fails file (meta.BadProperty name.GlobalSequence) shows = (global_sequence, inr (refl, shows))
shows-fails file (meta.BadProperty name.ExternalVersion) shows = (external_version, (refl, shows))
shows-fails file (meta.BadProperty name.IndexKeyIsUserKey) shows = (user_key_flag, (refl, shows))
shows-fails file (meta.BadProperty name.IndexValueIsDeltaEncoded) shows = (delta_flag, (refl, shows))
shows-fails file (meta.MissingProperty name.GlobalSequence) shows = (global_sequence, inl (refl, shows))
shows-fails file (meta.MissingProperty name.Properties) shows = absurd shows
shows-fails file (meta.MissingProperty name.IndexType) shows = absurd shows
shows-fails file (meta.MissingProperty name.ExternalVersion) shows = absurd shows
shows-fails file (meta.MissingProperty name.IndexKeyIsUserKey) shows = absurd shows
shows-fails file (meta.MissingProperty name.IndexValueIsDeltaEncoded) shows = absurd shows
shows-fails file meta.BadFooter shows = (footer_handles, (refl, shows))
shows-fails file meta.FileLong shows = (file_length, (refl, shows))
shows-fails file (meta.Frame wrong) shows =
    elim shows.2 as (λ _. Fails file (meta.Frame wrong)) [
      | inl footer ↦ (metaindex_frame, (shows.0, shows.1, footer.0, footer.1, (wrong, refl, shows.3)))
      | inr lead ↦ (props_frame, (shows.0, shows.1, lead, (wrong, refl, shows.3)))
    ]
shows-fails file (meta.Block h wrong) shows =
    elim shows.2 as (λ _. Fails file (meta.Block h wrong)) [
      | inl footer ↦ (metaindex_rows, (shows.0, h, footer.0, footer.1, (wrong, shows.1, refl, shows.3, shows.4)))
      | inr lead ↦ (props_rows, (shows.0, h, lead, (wrong, shows.1, refl, shows.3, shows.4)))
    ]
shows-fails file meta.NotYet (inl table) = (kind_of_table, (refl, table))
shows-fails file meta.NotYet (inr form) = (form_is_read, (refl, form))

-- what fails at the end of the file is what reading the end gives
version-shown : (file : List ℕ) (version : ℕ) → IsBytes (last_bytes 53 file) → ShowsMeta file (meta.Version version) → end_read (last_bytes 53 file) ≡ Err (meta.Version version)
version-shown file version bytes (inl old) = legacy-read file bytes old.0 ∙ ap (λ (v : ℕ). Err (meta.Version v)) (sym old.1)
version-shown file version bytes (inr shows) = version-read file shows.0 shows.1 version shows.2 shows.3 shows.4

pub end-step-read : (file : List ℕ) (step : LoadStep) (fault : MetaFault) → IsBytes (last_bytes 53 file) → 0 < number_of step → number_of step < 6
    → FailsAt file step fault → end_read (last_bytes 53 file) ≡ Err fault
end-step-read file file_length fault bytes some low fails = absurd (omega (arith, some))
end-step-read file magic_number fault bytes some low fails = no_table-read file fails.1 ∙ ap Err (sym fails.0)
end-step-read file kind_of_table fault bytes some low fails = other_table-read file bytes fails.1 ∙ ap Err (sym fails.0)
end-step-read file format_version fault bytes some low fails = version-shown file fails.0 bytes fails.1.1 ∙ ap Err (sym fails.1.0)
end-step-read file checksum_type fault bytes some low fails =
    let s : ShowsMeta file (meta.ChecksumType fails.0) = fails.1.1 in
    checksum-read file s.0 fails.0 s.1 s.2 s.3 s.4 s.5 ∙ ap Err (sym fails.1.0)
end-step-read file footer_handles fault bytes some low fails =
    let s : ShowsMeta file meta.BadFooter = fails.1 in
    handles-read file s.0 s.1 s.2 s.3 s.4 s.5 ∙ ap Err (sym fails.0)
end-step-read file metaindex_frame fault bytes some low fails = absurd (omega (arith, low))
end-step-read file metaindex_rows fault bytes some low fails = absurd (omega (arith, low))
end-step-read file no_tombstones fault bytes some low fails = absurd (omega (arith, low))
end-step-read file props_handle fault bytes some low fails = absurd (omega (arith, low))
end-step-read file props_frame fault bytes some low fails = absurd (omega (arith, low))
end-step-read file props_rows fault bytes some low fails = absurd (omega (arith, low))
end-step-read file key_order fault bytes some low fails = absurd (omega (arith, low))
end-step-read file index_type fault bytes some low fails = absurd (omega (arith, low))
end-step-read file global_sequence fault bytes some low fails = absurd (omega (arith, low))
end-step-read file external_version fault bytes some low fails = absurd (omega (arith, low))
end-step-read file user_key_flag fault bytes some low fails = absurd (omega (arith, low))
end-step-read file delta_flag fault bytes some low fails = absurd (omega (arith, low))
end-step-read file form_is_read fault bytes some low fails = absurd (omega (arith, low))

-- the number of the step at the end of the file that has the fault
abbrev pub end_number : MetaFault → ℕ
end_number meta.NotTable = 1
end_number meta.NotYet = 2
end_number (meta.Version version) = 3
end_number (meta.ChecksumType kind) = 4
end_number meta.BadFooter = 5
end_number fault = 0

pub end-number : (file : List ℕ) (step : LoadStep) (fault : MetaFault) → 0 < number_of step → number_of step < 6 → FailsAt file step fault → end_number fault ≡ number_of step
end-number file file_length fault some low fails = absurd (omega (arith, some))
end-number file magic_number fault some low fails = ap end_number fails.0
end-number file kind_of_table fault some low fails = ap end_number fails.0
end-number file format_version fault some low fails = ap end_number fails.1.0
end-number file checksum_type fault some low fails = ap end_number fails.1.0
end-number file footer_handles fault some low fails = ap end_number fails.0
end-number file metaindex_frame fault some low fails = absurd (omega (arith, low))
end-number file metaindex_rows fault some low fails = absurd (omega (arith, low))
end-number file no_tombstones fault some low fails = absurd (omega (arith, low))
end-number file props_handle fault some low fails = absurd (omega (arith, low))
end-number file props_frame fault some low fails = absurd (omega (arith, low))
end-number file props_rows fault some low fails = absurd (omega (arith, low))
end-number file key_order fault some low fails = absurd (omega (arith, low))
end-number file index_type fault some low fails = absurd (omega (arith, low))
end-number file global_sequence fault some low fails = absurd (omega (arith, low))
end-number file external_version fault some low fails = absurd (omega (arith, low))
end-number file user_key_flag fault some low fails = absurd (omega (arith, low))
end-number file delta_flag fault some low fails = absurd (omega (arith, low))
end-number file form_is_read fault some low fails = absurd (omega (arith, low))

-- what fails of the metaindex's names
pub tombstones-pass : (file : List ℕ) (end : ℕ) (names : List Row) → HasNames file end names → value_of range_tombstones names ≡ None → (other : MetaFault)
    → FailsAt file no_tombstones other → ⊥
tombstones-pass file end names has none other fails =
    let s : ShowsMeta file meta.RangeTombstones = fails.1 in
    let same = names-same file end s.0 names s.1 has s.3 in
    cc (sym none ∙ ap (value_of range_tombstones) same.1 ∙ s.4)

pub handle-passes : (file : List ℕ) (end : ℕ) (names : List Row) (value : List ℕ) (h : Handle) → HasNames file end names
    → value_of (name_bytes name.Properties) names ≡ Some value → IsHandleOf h value → (other : MetaFault) → FailsAt file props_handle other → ⊥
handle-passes file end names value h has at is other fails =
    let s : IsBadValue file name.Properties = fails.1 in
    let same = names-same file end s.0 names s.1 has s.3 in
    let values : Some value ≡ Some s.2 = sym at ∙ ap (value_of (name_bytes name.Properties)) same.1 ∙ s.4 in
    let one : value ≡ s.2 = cc in
    s.5 h (subst (λ (v : List ℕ). IsHandleOf h v) one is)

-- what fails of a property is what its rule gives
pub order-read : (file : List ℕ) (props : List Row) (other : MetaFault) → HasProps file props → FailsAt file key_order other
    → comparator_fault (value_of comparator props) ≡ Some other
order-read file props other has fails =
    let s : ShowsMeta file meta.Comparator = fails.1 in
    ap comparator_fault (value-same file props comparator s.0 has s.1) ∙ comparator-fails s.0 s.2 ∙ ap Some (sym fails.0)

pub type-read : (file : List ℕ) (props : List Row) (other : MetaFault) → HasProps file props → FailsAt file index_type other
    → index_type_fault (value_of (name_bytes name.IndexType) props) ≡ Some other
type-read file props other has (inl fails) =
    let s : IsBadValue file name.IndexType = fails.1 in
    ap index_type_fault (value-same file props (name_bytes name.IndexType) s.0 has s.1) ∙ index_type-bad s.0 s.2 ∙ ap Some (sym fails.0)
type-read file props other has (inr fails) =
    let s : ShowsMeta file (meta.IndexType fails.0) = fails.1.1 in
    ap index_type_fault (value-same file props (name_bytes name.IndexType) (fixed 4 fails.0) has s.2) ∙ index_type-large fails.0 s.0 s.1
    ∙ ap Some (sym fails.1.0)

pub global-read : (file : List ℕ) (props : List Row) (other : MetaFault) → HasProps file props → FailsAt file global_sequence other
    → global_fault (value_of (name_bytes name.ExternalVersion) props) (value_of (name_bytes name.GlobalSequence) props) ≡ Some other
global-read file props other has (inl fails) =
    let s : IsMissing file name.GlobalSequence = fails.1 in
    let same = props-same file props s.0 has s.1 in
    ap (λ (o : Option (List ℕ)). global_fault o (value_of (name_bytes name.GlobalSequence) props)) (ap (value_of (name_bytes name.ExternalVersion)) same ∙ s.2)
    ∙ ap (global_fault (Some (fixed 4 2))) (ap (value_of (name_bytes name.GlobalSequence)) same ∙ s.3) ∙ global-missing ∙ ap Some (sym fails.0)
global-read file props other has (inr fails) =
    let s : IsBadValue file name.GlobalSequence = fails.1 in
    let same = props-same file props s.0 has s.2 in
    ap (λ (o : Option (List ℕ)). global_fault o (value_of (name_bytes name.GlobalSequence) props)) (ap (value_of (name_bytes name.ExternalVersion)) same ∙ s.3)
    ∙ ap (global_fault (Some (fixed 4 2))) (ap (value_of (name_bytes name.GlobalSequence)) same ∙ s.4) ∙ global-bad s.1 s.5 ∙ ap Some (sym fails.0)

pub external-read : (file : List ℕ) (props : List Row) (other : MetaFault) → HasProps file props → FailsAt file external_version other
    → external_fault (value_of (name_bytes name.ExternalVersion) props) ≡ Some other
external-read file props other has fails =
    let s : IsBadValue file name.ExternalVersion = fails.1 in
    ap external_fault (value-same file props (name_bytes name.ExternalVersion) s.0 has s.1) ∙ external-bad s.0 s.2 s.3 ∙ ap Some (sym fails.0)

pub user-read : (file : List ℕ) (props : List Row) (other : MetaFault) → HasProps file props → FailsAt file user_key_flag other
    → flag_fault name.IndexKeyIsUserKey (value_of (name_bytes name.IndexKeyIsUserKey) props) ≡ Some other
user-read file props other has fails =
    let s : IsBadValue file name.IndexKeyIsUserKey = fails.1 in
    ap (flag_fault name.IndexKeyIsUserKey) (value-same file props (name_bytes name.IndexKeyIsUserKey) s.0 has s.1)
    ∙ flag-bad name.IndexKeyIsUserKey s.0 s.2 ∙ ap Some (sym fails.0)

pub delta-read : (file : List ℕ) (props : List Row) (other : MetaFault) → HasProps file props → FailsAt file delta_flag other
    → flag_fault name.IndexValueIsDeltaEncoded (value_of (name_bytes name.IndexValueIsDeltaEncoded) props) ≡ Some other
delta-read file props other has fails =
    let s : IsBadValue file name.IndexValueIsDeltaEncoded = fails.1 in
    ap (flag_fault name.IndexValueIsDeltaEncoded) (value-same file props (name_bytes name.IndexValueIsDeltaEncoded) s.0 has s.1)
    ∙ flag-bad name.IndexValueIsDeltaEncoded s.0 s.2 ∙ ap Some (sym fails.0)

-- so at a step fails one fault at most
same-read : (o : Option MetaFault) (a b : MetaFault) → o ≡ Some a → o ≡ Some b → a ≡ b
same-read o a b left right = let same : Some a ≡ Some b = sym left ∙ right in cc

end-once : (file : List ℕ) (step : LoadStep) (a b : MetaFault) → IsBytes (last_bytes 53 file) → 0 < number_of step → number_of step < 6 → FailsAt file step a → FailsAt file step b
    → a ≡ b
end-once file step a b bytes some low left right =
    let same : ◌≡◌ {A = Result Footer MetaFault} (Err a) (Err b) = sym (end-step-read file step a bytes some low left) ∙ end-step-read file step b bytes some low right in
    cc

-- the properties in which a type of the index, or a sequence number, is wrong
type-props : (file : List ℕ) (fault : MetaFault) → FailsAt file index_type fault → (props : List Row) × HasProps file props
type-props file fault (inl fails) = let s : IsBadValue file name.IndexType = fails.1 in (s.1.0, s.1.1)
type-props file fault (inr fails) = let s : ShowsMeta file (meta.IndexType fails.0) = fails.1.1 in (s.2.0, s.2.1)

global-props : (file : List ℕ) (fault : MetaFault) → FailsAt file global_sequence fault → (props : List Row) × HasProps file props
global-props file fault (inl fails) = let s : IsMissing file name.GlobalSequence = fails.1 in (s.0, s.1)
global-props file fault (inr fails) = let s : IsBadValue file name.GlobalSequence = fails.1 in (s.0, s.2)

pub fails-once : (file : List ℕ) (step : LoadStep) (a b : MetaFault) → IsBytes (last_bytes 53 file) → FailsAt file step a → FailsAt file step b → a ≡ b
fails-once file file_length a b bytes left right = left.0 ∙ sym right.0
fails-once file magic_number a b bytes left right = left.0 ∙ sym right.0
fails-once file kind_of_table a b bytes left right = left.0 ∙ sym right.0
fails-once file format_version a b bytes left right = end-once file format_version a b bytes (omega arith) (omega arith) left right
fails-once file checksum_type a b bytes left right = end-once file checksum_type a b bytes (omega arith) (omega arith) left right
fails-once file footer_handles a b bytes left right = left.0 ∙ sym right.0
fails-once file metaindex_frame a b bytes left right =
    let same = leads-once file left.0 left.1 left.2 right.0 right.1 right.2 left.3 right.3 in
    let w = left.4 in
    let x = right.4 in
    w.1 ∙ ap meta.Frame (frame-same file left.0 left.1 right.0 right.1 w.0 x.0 same.0 same.1 w.2 x.2) ∙ sym x.1
fails-once file metaindex_rows a b bytes left right =
    let same = leads-once file left.0 left.1 left.2 right.0 right.1 right.2 left.3 right.3 in
    let w = left.4 in
    let x = right.4 in
    w.2 ∙ ap (λ (k : Handle). meta.Block k w.0) same.1
    ∙ ap (meta.Block right.1) (block-same Names file left.0 left.1 right.0 right.1 w.1 x.1 w.0 x.0 same.0 same.1 w.3 x.3 w.4 x.4) ∙ sym x.2
fails-once file no_tombstones a b bytes left right = left.0 ∙ sym right.0
fails-once file props_handle a b bytes left right = left.0 ∙ sym right.0
fails-once file props_frame a b bytes left right =
    let same = lead-same file left.0 left.1 right.0 right.1 left.2 right.2 in
    let w = left.3 in
    let x = right.3 in
    w.1 ∙ ap meta.Frame (frame-same file left.0 left.1 right.0 right.1 w.0 x.0 same.0 same.1 w.2 x.2) ∙ sym x.1
fails-once file props_rows a b bytes left right =
    let same = lead-same file left.0 left.1 right.0 right.1 left.2 right.2 in
    let w = left.3 in
    let x = right.3 in
    w.2 ∙ ap (λ (k : Handle). meta.Block k w.0) same.1
    ∙ ap (meta.Block right.1) (block-same Names file left.0 left.1 right.0 right.1 w.1 x.1 w.0 x.0 same.0 same.1 w.3 x.3 w.4 x.4) ∙ sym x.2
fails-once file key_order a b bytes left right = left.0 ∙ sym right.0
fails-once file index_type a b bytes left right =
    let p = type-props file a left in
    same-read _ a b (type-read file p.0 a p.1 left) (type-read file p.0 b p.1 right)
fails-once file global_sequence a b bytes left right =
    let p = global-props file a left in
    same-read _ a b (global-read file p.0 a p.1 left) (global-read file p.0 b p.1 right)
fails-once file external_version a b bytes left right = left.0 ∙ sym right.0
fails-once file user_key_flag a b bytes left right = left.0 ∙ sym right.0
fails-once file delta_flag a b bytes left right = left.0 ∙ sym right.0
fails-once file form_is_read a b bytes left right = left.0 ∙ sym right.0
