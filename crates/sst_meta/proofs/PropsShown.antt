-- A fault of the properties is one that fails at the step of its rule.
use Rattle.std.proofs.Common.{◌≡◌, ℕ, ◌^◌, ◌<◌, nat_lt, false, List, Option, None, Some, refl, sym, ap, ◌∙◌, inl, inr, arith}
use Rattle.std.specs.Prelude.{bytes_eq}
use Rattle.std.proofs.lemmas.Bool.{both_ways, lt-ltb, ltb-true}
use Rattle.std.proofs.lemmas.Slice.Eq.{bytes_eq-Decides}
use Rattle.sst_num.specs.Spelling.{fixed, varint}
use Rattle.sst_block.specs.Block.{Row}
use Rattle.sst_device.proofs.Choices.{by_test}
use Rattle.sst_meta.specs.LoadReading.{fixed_in, varint_in, is_below, comparator_fault, index_type_by, index_type_fault, is_valued, global_fault, global_in, external_fault, flag_fault, form_fault}
use Rattle.sst_meta.specs.LoadSteps.{key_order, index_type, global_sequence, external_version, form_is_read, FailsAt, IsShown}
use Rattle.sst_meta.specs.MetaFaults.{HasProps, IsBadValue, ShowsMeta}
use Rattle.sst_meta.specs.Names.{name_bytes, comparator, bytewise}
use Rattle.sst_meta.specs.Pairs.{value_of}
use Rattle.sst_meta.specs.declared.name.Name.{Name}
use Rattle.sst_meta.specs.declared.name.Name.TheVariants as name
use Rattle.sst_meta.specs.declared.meta_fault.MetaFault.{MetaFault}
use Rattle.sst_meta.specs.declared.meta_fault.MetaFault.TheVariants as meta
use Rattle.sst_meta.proofs.ValuesRead.{fixed_in-fixed, fixed_in-found, varint_in-varint}
use Rattle.sst_meta.proofs.ValueRules.{is_valued-same, is_valued-found}

-- the order of user keys
pub comparator-at : (file : List ℕ) (props : List Row) (o : Option (List ℕ)) (fault : MetaFault) → HasProps file props → value_of comparator props ≡ o
    → comparator_fault o ≡ Some fault → FailsAt file key_order fault
comparator-at file props None fault has at e = cc
comparator-at file props (Some value) fault has at e =
    by_test (bytes_eq value bytewise) None (Some meta.Comparator) (Some fault) e (λ _ e. cc)
    (λ is e.
    let same : meta.Comparator ≡ fault = cc in
    (sym same, (value, (props, has, at), λ s. both_ways _ is ((bytes_eq-Decides value bytewise).1 s))))

-- the type of the index
pub index_type-at : (file : List ℕ) (props : List Row) (o : Option (List ℕ)) (fault : MetaFault) → HasProps file props → value_of (name_bytes name.IndexType) props ≡ o
    → index_type_fault o ≡ Some fault → FailsAt file index_type fault
index_type-at file props None fault has at e = cc
index_type-at file props (Some value) fault has at e =
    elim (fixed_in 4 value) as (λ (q : Option ℕ). fixed_in 4 value ≡ q → index_type_by q ≡ Some fault → FailsAt file index_type fault) [
      | None ↦ λ none e.
          let same : meta.BadProperty name.IndexType ≡ fault = cc in
          inl (sym same, (value, (props, has, at), λ type fits spelled. cc (none, ap (fixed_in 4) spelled ∙ fixed_in-fixed 4 type (omega (arith, fits)))))
      | Some type ↦ λ read e.
          by_test (nat_lt 2 type) (Some (meta.IndexType type)) None (Some fault) e
          (λ large e.
          let same : meta.IndexType type ≡ fault = cc in
          let found = fixed_in-found 4 type value read in
          inr (type, (sym same, (ltb-true 2 type large, omega (arith, found.0), (props, has, at ∙ ap Some found.1)))))
          (λ _ e. cc)
    ] refl e

-- the sequence number of a marked file
global_in-at : (file : List ℕ) (props : List Row) (o : Option (List ℕ)) (fault : MetaFault) → HasProps file props
    → value_of (name_bytes name.ExternalVersion) props ≡ Some (fixed 4 2) → value_of (name_bytes name.GlobalSequence) props ≡ o
    → global_in o ≡ Some fault → FailsAt file global_sequence fault
global_in-at file props None fault has marked at e =
    let same : meta.MissingProperty name.GlobalSequence ≡ fault = cc in
    inl (sym same, (props, has, marked, at))
global_in-at file props (Some value) fault has marked at e =
    by_test (is_below (2 ^ 56) (fixed_in 8 value)) None (Some (meta.BadProperty name.GlobalSequence)) (Some fault) e (λ _ e. cc)
    (λ wrong e.
    let same : meta.BadProperty name.GlobalSequence ≡ fault = cc in
    let shows : IsBadValue file name.GlobalSequence = (
      props,
      value,
      has,
      marked,
      at,
      λ sequence fits spelled.
          let read = ap (fixed_in 8) spelled ∙ fixed_in-fixed 8 sequence (omega (arith, fits)) in
          both_ways _ wrong (ap (is_below (2 ^ 56)) read ∙ lt-ltb sequence (2 ^ 56) fits),
    ) in
    inr (sym same, shows))

pub global-at : (file : List ℕ) (props : List Row) (external o : Option (List ℕ)) (fault : MetaFault) → HasProps file props
    → value_of (name_bytes name.ExternalVersion) props ≡ external → value_of (name_bytes name.GlobalSequence) props ≡ o
    → global_fault external o ≡ Some fault → FailsAt file global_sequence fault
global-at file props external o fault has version at e =
    by_test (is_valued 2 external) (global_in o) None (Some fault) e
    (λ marked e. global_in-at file props o fault has (version ∙ is_valued-found 2 external marked) at e)
    (λ _ e. cc)

-- the version of a file that was made outside a database
other-version : (n : ℕ) (value : List ℕ) → n < 256 ^ 4 → is_valued n (Some value) ≡ false → value ≡ fixed 4 n → ⊥
other-version n value fits other same =
    both_ways _ other (ap (λ (v : List ℕ). is_valued n (Some v)) same ∙ is_valued-same n fits)

pub external-at : (file : List ℕ) (props : List Row) (o : Option (List ℕ)) (fault : MetaFault) → HasProps file props → value_of (name_bytes name.ExternalVersion) props ≡ o
    → external_fault o ≡ Some fault → FailsAt file external_version fault
external-at file props None fault has at e = cc
external-at file props (Some value) fault has at e =
    by_test (is_valued 1 (Some value)) None _ (Some fault) e (λ _ e. cc)
    (λ first e. by_test (is_valued 2 (Some value)) None (Some (meta.BadProperty name.ExternalVersion)) (Some fault) e (λ _ e. cc)
    (λ second e.
    let same : meta.BadProperty name.ExternalVersion ≡ fault = cc in
    (sym same, (value, (props, has, at), other-version 1 value (omega arith) first, other-version 2 value (omega arith) second))))

-- a flag of the index
pub flag-at : (file : List ℕ) (name : Name) (o : Option (List ℕ)) (fault : MetaFault)
    → ((value : List ℕ) → o ≡ Some value → ((n : ℕ) → n < 2 ^ 64 → value ≡ varint n → ⊥) → ShowsMeta file (meta.BadProperty name))
    → flag_fault name o ≡ Some fault → IsShown file fault (meta.BadProperty name)
flag-at file name None fault shows e = cc
flag-at file name (Some value) fault shows e =
    elim (varint_in value) as (λ (q : Option ℕ). varint_in value ≡ q → flag_fault name (Some value) ≡ Some fault → IsShown file fault (meta.BadProperty name)) [
      | None ↦ λ none e.
          let f = rw none at e in
          let same : meta.BadProperty name ≡ fault = cc in
          (sym same, shows value refl (λ n fits spelled. cc (none, ap varint_in spelled ∙ varint_in-varint n fits)))
      | Some n ↦ λ read e. let f = rw read at e in cc
    ] refl e

-- a form that isn't read yet
pub form-at : (file : List ℕ) (props : List Row) (fault : MetaFault) → HasProps file props → form_fault props ≡ Some fault → FailsAt file form_is_read fault
form-at file props fault has e =
    by_test (is_valued 2 (value_of (name_bytes name.ExternalVersion) props)) (Some meta.NotYet) None (Some fault) e
    (λ on e.
    let same : meta.NotYet ≡ fault = cc in
    (sym same, (props, has, is_valued-found 2 (value_of (name_bytes name.ExternalVersion) props) on)))
    (λ _ e. cc)
