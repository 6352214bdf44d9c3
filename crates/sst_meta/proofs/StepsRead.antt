-- What fails at a step of loading is what its part of the reading gives, so that a step has one fault at most.
use Rattle.std.proofs.Common.{◌≡◌, ◌≢◌, ℕ, ◌-◌, ◌^◌, ◌<◌, ◌≤◌, if◌then◌else◌, Bool, true, false, List, length, Option, None, Some, Result, Err, refl, sym, ap, ◌∙◌, subst, inl, inr, arith}
use Rattle.std.specs.Prelude.{bytes_eq}
use Rattle.std.proofs.lemmas.Bool.{lt-ltb, ltb-true}
use Rattle.std.proofs.lemmas.Slice.Eq.{bytes_eq-Decides}
use Rattle.sst_num.specs.Spelling.{fixed, varint}
use Rattle.sst_num.specs.declared.block_handle.Handle.{Handle}
use Rattle.sst_key.specs.declared.calls.Format.TheVariants as Format
use Rattle.sst_block.specs.declared.row_form.RowForm.{RowForm}
use Rattle.sst_block.specs.declared.row_form.RowForm.TheVariants.{Names}
use Rattle.sst_block.specs.declared.fault.BlockFault.{BlockFault}
use Rattle.sst_block.specs.Block.{Row, Spelled}
use Rattle.sst_block.specs.FirstFault.{IsFirstFault}
use Rattle.sst_device.specs.Framed.{Framed}
use Rattle.sst_device.specs.FrameFaults.{IsFrameFault}
use Rattle.sst_device.specs.FrameReading.{frame_read}
use Rattle.sst_device.specs.declared.frame.FrameFault.{FrameFault}
use Rattle.sst_device.proofs.Choices.{by_test}
use Rattle.sst_device.proofs.FramesRead.{frame_read-framed, frame_read-fault}
use Rattle.sst_block.proofs.FirstFaults.{first-read}
use Rattle.hex.specs.Hex.{IsBytes}
use Rattle.sst_meta.specs.BlockFooter.{EndsWith, EndsIn, IsTable, IsOtherTable, IsBuilt}
use Rattle.sst_meta.specs.Footer.{block_based_magic, legacy_block_based_magic, plain_magic, legacy_plain_magic, cuckoo_magic, AreHandles}
use Rattle.sst_meta.specs.FooterReading.{last_bytes, handles_read, as_footer, fields_read}
use Rattle.sst_meta.specs.LoadReading.{end_read, handle_in, varint_in, fixed_in, is_below, comparator_fault, index_type_by, index_type_fault, is_valued, global_in, global_fault, external_fault, flag_fault}
use Rattle.sst_meta.specs.MetaFaults.{HasNames, PropsLead, HasProps, HasValue}
use Rattle.sst_meta.specs.Meta.{HasPairs}
use Rattle.sst_meta.specs.Names.{name_bytes, bytewise}
use Rattle.sst_meta.specs.Pairs.{value_of}
use Rattle.sst_meta.specs.declared.name.Name.{Name}
use Rattle.sst_meta.specs.declared.name.Name.TheVariants as name
use Rattle.sst_meta.specs.declared.meta_fault.MetaFault.TheVariants as meta
use Rattle.sst_meta.proofs.BlocksRead.{RowsAt, rows-once, framed-once, framed-short, no-block_fault}
use Rattle.sst_meta.proofs.FooterLaws.{by_version-cases}
use Rattle.sst_meta.proofs.FootersRead.{fields, legacy, other, none, number-of_end, end_reads, end_read-ends}
use Rattle.sst_meta.proofs.HandlesRead.{handles_read-found}
use Rattle.sst_meta.proofs.LoadsRead.{pairs-rows}
use Rattle.sst_meta.proofs.SaidOnce.{leads-once, ends-magic}
use Rattle.sst_meta.proofs.ValueRules.{is_valued-same, is_valued-found}
use Rattle.sst_meta.proofs.ValuesRead.{fixed_in-fixed, fixed_in-found, varint_in-found, handle_in-handle}

-- a file ends with one magic number
one-number : (file : List ℕ) (m n k j : ℕ) → m < 256 ^ 8 → 8 ≤ n → k < 256 ^ 8 → 8 ≤ j → EndsWith m n file → EndsWith k j file → m ≡ k
one-number file m n k j fits_m least_n fits_k least_j left right =
    let same : Some m ≡ Some k = sym (number-of_end file m n fits_m least_n left) ∙ number-of_end file k j fits_k least_j right in
    cc

-- a block-based file is no other table
block-other : (file : List ℕ) → EndsWith block_based_magic 53 file → IsOtherTable file → ⊥
block-other file ends (inl table) =
    let same = one-number file block_based_magic 53 plain_magic 53 (omega arith) (omega arith) (omega arith) (omega arith) ends table in omega arith
block-other file ends (inr (inl table)) =
    let same = one-number file block_based_magic 53 legacy_plain_magic 48 (omega arith) (omega arith) (omega arith) (omega arith) ends table in omega arith
block-other file ends (inr (inr table)) =
    let same = one-number file block_based_magic 53 cuckoo_magic 53 (omega arith) (omega arith) (omega arith) (omega arith) ends table in omega arith

legacy-other : (file : List ℕ) → EndsWith legacy_block_based_magic 48 file → IsOtherTable file → ⊥
legacy-other file ends (inl table) =
    let same = one-number file legacy_block_based_magic 48 plain_magic 53 (omega arith) (omega arith) (omega arith) (omega arith) ends table in omega arith
legacy-other file ends (inr (inl table)) =
    let same = one-number file legacy_block_based_magic 48 legacy_plain_magic 48 (omega arith) (omega arith) (omega arith) (omega arith) ends table in omega arith
legacy-other file ends (inr (inr table)) =
    let same = one-number file legacy_block_based_magic 48 cuckoo_magic 53 (omega arith) (omega arith) (omega arith) (omega arith) ends table in omega arith

legacy-block : (file : List ℕ) → EndsWith legacy_block_based_magic 48 file → EndsWith block_based_magic 53 file → ⊥
legacy-block file ends table =
    let same = one-number file legacy_block_based_magic 48 block_based_magic 53 (omega arith) (omega arith) (omega arith) (omega arith) ends table in omega arith

-- what fails at the end of the file is what reading the end gives
pub no_table-read : (file : List ℕ) → (IsTable file → ⊥) → end_read (last_bytes 53 file) ≡ Err meta.NotTable
no_table-read file not =
    elim (end_reads file (end_read (last_bytes 53 file)) refl) [
      | fields kind version between ends e ↦ absurd (not (inl (ends-magic file (length file - 53) kind version between ends)))
      | legacy ends e ↦ absurd (not (inr (inl ends)))
      | other ends e ↦ absurd (not (inr (inr ends)))
      | none never e ↦ sym e
    ]

pub other_table-read : (file : List ℕ) → IsBytes (last_bytes 53 file) → IsOtherTable file → end_read (last_bytes 53 file) ≡ Err meta.NotYet
other_table-read file bytes is =
    elim (end_reads file (end_read (last_bytes 53 file)) refl) [
      | fields kind version between ends e ↦ absurd (block-other file (ends-magic file (length file - 53) kind version between ends) is)
      | legacy ends e ↦ absurd (legacy-other file ends is)
      | other ends e ↦ sym e
      | none never e ↦ absurd (never bytes (inr (inr is)))
    ]

pub legacy-read : (file : List ℕ) → IsBytes (last_bytes 53 file) → EndsWith legacy_block_based_magic 48 file → end_read (last_bytes 53 file) ≡ Err (meta.Version 0)
legacy-read file bytes is =
    elim (end_reads file (end_read (last_bytes 53 file)) refl) [
      | fields kind version between ends e ↦ absurd (legacy-block file is (ends-magic file (length file - 53) kind version between ends))
      | legacy ends e ↦ sym e
      | other ends e ↦ absurd (legacy-other file is ends)
      | none never e ↦ absurd (never bytes (inr (inl is)))
    ]

pub version-read : (file : List ℕ) (end kind version : ℕ) (between : List ℕ) → EndsIn file end kind version between → (IsBuilt version → ⊥)
    → end_read (last_bytes 53 file) ≡ Err (meta.Version version)
version-read file end kind version between ends old =
    (end_read-ends file end kind version between ends).1
    ∙ by_version-cases kind version between (fields_read Format.Block false version kind between) refl
    (λ _ e. sym e) (λ built _ _. absurd (old built)) (λ built _ _. absurd (old built))

pub checksum-read : (file : List ℕ) (end kind version : ℕ) (between : List ℕ) → EndsIn file end kind version between → IsBuilt version → kind ≢ 1
    → end_read (last_bytes 53 file) ≡ Err (meta.ChecksumType kind)
checksum-read file end kind version between ends built not =
    (end_read-ends file end kind version between ends).1
    ∙ by_version-cases kind version between (fields_read Format.Block false version kind between) refl
    (λ old _. absurd (old built)) (λ _ _ e. sym e) (λ _ is _. absurd (not is))

without_handles : (version kind : ℕ) (between : List ℕ) → ((metaindex index : Handle) → AreHandles metaindex index between → ⊥)
    → as_footer Format.Block false version kind (handles_read between) ≡ Err meta.BadFooter
without_handles version kind between not =
    elim (handles_read between) as (λ (o : Option (Handle × Handle)). handles_read between ≡ o → as_footer Format.Block false version kind o ≡ Err meta.BadFooter) [
      | None ↦ λ _. refl
      | Some handles ↦ λ read. absurd (not handles.0 handles.1 (handles_read-found handles between read))
    ] refl

pub handles-read : (file : List ℕ) (end version : ℕ) (between : List ℕ) → EndsIn file end 1 version between → IsBuilt version
    → ((metaindex index : Handle) → AreHandles metaindex index between → ⊥) → end_read (last_bytes 53 file) ≡ Err meta.BadFooter
handles-read file end version between ends built not =
    (end_read-ends file end 1 version between ends).1
    ∙ by_version-cases 1 version between (fields_read Format.Block false version 1 between) refl
    (λ old _. absurd (old built)) (λ _ not_one _. absurd (not_one refl)) (λ _ _ e. sym e ∙ without_handles version 1 between not)

-- at one handle stands one list of pairs
pairs-same : (file : List ℕ) (end : ℕ) (h : Handle) (a b : List Row) → HasPairs file end h a → HasPairs file end h b → a ≡ b
pairs-same file end h a b left right = rows-once Names file end h a b right.block (pairs-rows file end h a left) right.framed right.is

pairs-moved : (file : List ℕ) (end : ℕ) (h : Handle) (last : ℕ) (k : Handle) (rows : List Row) → end ≡ last → h ≡ k → HasPairs file end h rows → HasPairs file last k rows
pairs-moved file end h last k rows ends handles has =
    subst (λ e. HasPairs file e k rows) ends (subst (λ (x : Handle). HasPairs file end x rows) handles has)

-- so a file has one metaindex
pub names-same : (file : List ℕ) (end last : ℕ) (a b : List Row) → HasNames file end a → HasNames file last b → (end ≡ last) × (a ≡ b)
names-same file end last a b left right =
    let same = leads-once file end left.0 left.1 last right.0 right.1 left.2 right.2 in
    (same.0, pairs-same file last right.0 a b (pairs-moved file end left.0 last right.0 a same.0 same.1 left.3) right.3)

-- one place of the properties
pub lead-same : (file : List ℕ) (end : ℕ) (h : Handle) (last : ℕ) (k : Handle) → PropsLead file end h → PropsLead file last k → (end ≡ last) × (h ≡ k)
lead-same file end h last k left right =
    let same = names-same file end last left.0 right.0 left.2 right.2 in
    let values : Some left.1 ≡ Some right.1 = sym left.3 ∙ ap (value_of (name_bytes name.Properties)) same.1 ∙ right.3 in
    let value : left.1 ≡ right.1 = cc in
    let read : Some h ≡ Some k = sym (handle_in-handle h left.1 left.4) ∙ ap handle_in value ∙ handle_in-handle k right.1 right.4 in
    (same.0, cc)

-- one list of properties
pub props-same : (file : List ℕ) (a b : List Row) → HasProps file a → HasProps file b → a ≡ b
props-same file a b left right =
    let same = lead-same file left.0 left.1 right.0 right.1 left.2 right.2 in
    pairs-same file right.0 right.1 a b (pairs-moved file left.0 left.1 right.0 right.1 a same.0 same.1 left.3) right.3

-- and one value of a name
pub value-same : (file : List ℕ) (props : List Row) (name value : List ℕ) → HasProps file props → HasValue file name value → value_of name props ≡ Some value
value-same file props name value has is = ap (value_of name) (props-same file props is.0 has is.1) ∙ is.2

-- a frame has one fault or none
pub frame-same : (file : List ℕ) (end : ℕ) (h : Handle) (last : ℕ) (k : Handle) (a b : FrameFault) → end ≡ last → h ≡ k → IsFrameFault file end h a → IsFrameFault file last k b
    → a ≡ b
frame-same file end h last k a b ends handles left right =
    let moved : frame_read file end h ≡ frame_read file last k = ap (λ e. frame_read file e h) ends ∙ ap (frame_read file last) handles in
    let same : ◌≡◌ {A = Result (List ℕ) FrameFault} (Err a) (Err b) = sym (frame_read-fault file end h a left) ∙ moved ∙ frame_read-fault file last k b right in
    cc

pub frame-right : (file : List ℕ) (end : ℕ) (h : Handle) (last : ℕ) (k : Handle) (block : List ℕ) (wrong : FrameFault) → end ≡ last → h ≡ k → Framed file end h block
    → IsFrameFault file last k wrong → ⊥
frame-right file end h last k block wrong ends handles framed is =
    let moved : frame_read file end h ≡ frame_read file last k = ap (λ e. frame_read file e h) ends ∙ ap (frame_read file last) handles in
    cc (sym (frame_read-framed file end h block framed) ∙ moved ∙ frame_read-fault file last k wrong is)

framed-moved : (file : List ℕ) (end : ℕ) (h : Handle) (last : ℕ) (k : Handle) (block : List ℕ) → end ≡ last → h ≡ k → Framed file end h block → Framed file last k block
framed-moved file end h last k block ends handles framed =
    subst (λ e. Framed file e k block) ends (subst (λ (x : Handle). Framed file end x block) handles framed)

-- and so has a block
pub block-same : (form : RowForm) (file : List ℕ) (end : ℕ) (h : Handle) (last : ℕ) (k : Handle) (x y : List ℕ) (a b : BlockFault) → end ≡ last → h ≡ k
    → Framed file end h x → Framed file last k y → IsFirstFault form x a → IsFirstFault form y b → a ≡ b
block-same form file end h last k x y a b ends handles framed_x framed_y left right =
    let bytes = framed-once file last k x y (framed-moved file end h last k x ends handles framed_x) framed_y in
    let moved : IsFirstFault form y a = subst (λ (l : List ℕ). IsFirstFault form l a) bytes left in
    let short = framed-short file last k y framed_y in
    let same : ◌≡◌ {A = Result (List Spelled) BlockFault} (Err a) (Err b) = sym (first-read form y a short moved) ∙ first-read form y b short right in
    cc

pub rows-moved : (form : RowForm) (file : List ℕ) (end : ℕ) (h : Handle) (last : ℕ) (k : Handle) (rows : List Row) → end ≡ last → h ≡ k → RowsAt form file end h rows
    → RowsAt form file last k rows
rows-moved form file end h last k rows ends handles at =
    subst (λ e. RowsAt form file e k rows) ends (subst (λ (x : Handle). RowsAt form file end x rows) handles at)

pub block-right : (form : RowForm) (file : List ℕ) (end : ℕ) (h : Handle) (last : ℕ) (k : Handle) (rows : List Row) (block : List ℕ) (wrong : BlockFault)
    → end ≡ last → h ≡ k → RowsAt form file end h rows → Framed file last k block → IsFirstFault form block wrong → ⊥
block-right form file end h last k rows block wrong ends handles at framed is =
    no-block_fault form file last k rows block wrong (rows-moved form file end h last k rows ends handles at) framed is

-- what fails of a property is what its rule gives
pub comparator-fails : (value : List ℕ) → value ≢ bytewise → comparator_fault (Some value) ≡ Some meta.Comparator
comparator-fails value not =
    by_test (bytes_eq value bytewise) None (Some meta.Comparator) (comparator_fault (Some value)) refl
    (λ is _. absurd (not ((bytes_eq-Decides value bytewise).0 is))) (λ _ e. sym e)

pub index_type-bad : (value : List ℕ) → ((type : ℕ) → type < 2 ^ 32 → value ≡ fixed 4 type → ⊥) → index_type_fault (Some value) ≡ Some (meta.BadProperty name.IndexType)
index_type-bad value not =
    elim (fixed_in 4 value) as (λ (o : Option ℕ). fixed_in 4 value ≡ o → index_type_by o ≡ Some (meta.BadProperty name.IndexType)) [
      | None ↦ λ _. refl
      | Some type ↦ λ read. let found = fixed_in-found 4 type value read in absurd (not type (omega (arith, found.0)) found.1)
    ] refl

pub index_type-large : (type : ℕ) → 2 < type → type < 2 ^ 32 → index_type_fault (Some (fixed 4 type)) ≡ Some (meta.IndexType type)
index_type-large type large fits =
    ap index_type_by (fixed_in-fixed 4 type (omega (arith, fits))) ∙ rw (lt-ltb 2 type large) refl

pub global-missing : global_fault (Some (fixed 4 2)) None ≡ Some (meta.MissingProperty name.GlobalSequence)
global-missing = ap (λ (marked : Bool). if marked then global_in None else None) (is_valued-same 2 (omega arith))

below-found : (n : ℕ) (o : Option ℕ) → is_below n o ≡ true → (m : ℕ) × (o ≡ Some m) × (m < n)
below-found n None e = cc
below-found n (Some m) e = (m, refl, ltb-true m n e)

global_in-bad : (value : List ℕ) → ((sequence : ℕ) → sequence < 2 ^ 56 → value ≡ fixed 8 sequence → ⊥) → global_in (Some value) ≡ Some (meta.BadProperty name.GlobalSequence)
global_in-bad value not =
    by_test (is_below (2 ^ 56) (fixed_in 8 value)) None (Some (meta.BadProperty name.GlobalSequence)) (global_in (Some value)) refl
    (λ is _. let found = below-found (2 ^ 56) (fixed_in 8 value) is in absurd (not found.0 found.2 (fixed_in-found 8 found.0 value found.1).1))
    (λ _ e. sym e)

pub global-bad : (value : List ℕ) → ((sequence : ℕ) → sequence < 2 ^ 56 → value ≡ fixed 8 sequence → ⊥)
    → global_fault (Some (fixed 4 2)) (Some value) ≡ Some (meta.BadProperty name.GlobalSequence)
global-bad value not = ap (λ (marked : Bool). if marked then global_in (Some value) else None) (is_valued-same 2 (omega arith)) ∙ global_in-bad value not

pub external-bad : (value : List ℕ) → value ≢ fixed 4 1 → value ≢ fixed 4 2 → external_fault (Some value) ≡ Some (meta.BadProperty name.ExternalVersion)
external-bad value first second =
    by_test (is_valued 1 (Some value)) None _ (external_fault (Some value)) refl
    (λ is _. let same = is_valued-found 1 (Some value) is in let one : value ≡ fixed 4 1 = cc in absurd (first one))
    (λ _ e. by_test (is_valued 2 (Some value)) None (Some (meta.BadProperty name.ExternalVersion)) (external_fault (Some value)) e
    (λ is _. let same = is_valued-found 2 (Some value) is in let two : value ≡ fixed 4 2 = cc in absurd (second two))
    (λ _ e. sym e))

pub flag-bad : (n : Name) (value : List ℕ) → ((k : ℕ) → k < 2 ^ 64 → value ≡ varint k → ⊥) → flag_fault n (Some value) ≡ Some (meta.BadProperty n)
flag-bad n value not =
    elim (varint_in value) as (λ (o : Option ℕ). varint_in value ≡ o → flag_fault n (Some value) ≡ Some (meta.BadProperty n)) [
      | None ↦ λ none. rw none refl
      | Some k ↦ λ read. let found = varint_in-found k value read in absurd (not k found.0 found.1)
    ] refl
