-- The values of the properties that are looked at: which are good, and which have a fault.
use Rattle.std.proofs.Common.{◌≡◌, ◌⊎◌, ℕ, zero, suc, ◌^◌, ◌<◌, ◌≤◌, nat_lt, true, false, List, Option, None, Some, refl, ap, ◌∙◌, inl, inr, arith}
use borrow.Author.Tests.{ltb-false}
use Rattle.std.specs.Prelude.{IfSome, bytes_eq}
use Rattle.std.proofs.lemmas.Bool.{eqb-true, eq-eqb}
use Rattle.std.proofs.lemmas.Slice.Eq.{bytes_eq-Decides}
use Rattle.sst_num.specs.Spelling.{fixed}
use Rattle.sst_device.proofs.Choices.{by_test}
use Rattle.sst_meta.specs.LoadReading.{fixed_in, varint_in, is_number, comparator_fault, index_type_by, index_type_fault, is_valued, global_fault, external_fault, flag_fault, or_else}
use Rattle.sst_meta.specs.Meta.{IsIndexType, IsFlag}
use Rattle.sst_meta.specs.Names.{bytewise}
use Rattle.sst_meta.specs.declared.name.Name.{Name}
use Rattle.sst_meta.specs.declared.meta_fault.MetaFault.{MetaFault}
use Rattle.sst_meta.specs.declared.meta_fault.MetaFault.TheVariants as meta
use Rattle.sst_meta.proofs.ValuesRead.{fixed_in-fixed, fixed_in-found, varint_in-varint, varint_in-found}

-- no fault comes of two where none comes of each
pub or_else-none : (a b : Option MetaFault) → or_else a b ≡ None → (a ≡ None) × (b ≡ None)
or_else-none None b e = (refl, e)
or_else-none (Some fault) b e = cc

-- a fault of two is one of the first, or else of the second
pub or_else-some : {P : Type 0} (a b : Option MetaFault) (fault : MetaFault) → or_else a b ≡ Some fault → (a ≡ Some fault → P) → (a ≡ None → b ≡ Some fault → P) → P
or_else-some None b fault e first second = second refl e
or_else-some (Some f) b fault e first second = first e

-- the number of four bytes that a value is
pub is_valued-same : (n : ℕ) → n < 256 ^ 4 → is_valued n (Some (fixed 4 n)) ≡ true
is_valued-same n fits = ap (is_number n) (fixed_in-fixed 4 n fits) ∙ eq-eqb n n refl

pub is_valued-found : (n : ℕ) (o : Option (List ℕ)) → is_valued n o ≡ true → o ≡ Some (fixed 4 n)
is_valued-found n None e = cc
is_valued-found n (Some value) e =
    elim (fixed_in 4 value) as (λ (q : Option ℕ). fixed_in 4 value ≡ q → is_number n q ≡ true → Some value ≡ Some (fixed 4 n)) [
      | None ↦ λ _ e. cc
      | Some m ↦ λ read e. ap Some (fixed_in-found 4 m value read).1 ∙ ap (λ (k : ℕ). Some (fixed 4 k)) (eqb-true m n e)
    ] refl e

-- the order of user keys
pub comparator-good : (o : Option (List ℕ)) → IfSome o (λ value. value ≡ bytewise) → comparator_fault o ≡ None
comparator-good None good = refl
comparator-good (Some value) good = rw ((bytes_eq-Decides value bytewise).1 good) refl

pub comparator-none : (o : Option (List ℕ)) → comparator_fault o ≡ None → IfSome o (λ value. value ≡ bytewise)
comparator-none None e = tt
comparator-none (Some value) e =
    by_test (bytes_eq value bytewise) None (Some meta.Comparator) None e (λ is _. (bytes_eq-Decides value bytewise).0 is) (λ _ e. cc)

-- the type of the index
index_type-fits : (n : ℕ) (value : List ℕ) → nat_lt 2 n ≡ false → n < 256 ^ 4 → value ≡ fixed 4 n → index_type_fault (Some value) ≡ None
index_type-fits n value small fits same =
    let read : fixed_in 4 value ≡ Some n = ap (fixed_in 4) same ∙ fixed_in-fixed 4 n fits in
    ap index_type_by read ∙ rw small refl

pub index_type-good : (o : Option (List ℕ)) → IfSome o IsIndexType → index_type_fault o ≡ None
index_type-good None good = refl
index_type-good (Some value) (inl same) = index_type-fits 0 value refl (omega arith) same
index_type-good (Some value) (inr (inl same)) = index_type-fits 1 value refl (omega arith) same
index_type-good (Some value) (inr (inr same)) = index_type-fits 2 value refl (omega arith) same

up-to-two : (n : ℕ) → n ≤ 2 → (n ≡ 0) ⊎ (n ≡ 1) ⊎ (n ≡ 2)
up-to-two zero most = inl refl
up-to-two (suc zero) most = inr (inl refl)
up-to-two (suc (suc n)) most = inr (inr (omega arith))

pub index_type-none : (o : Option (List ℕ)) → index_type_fault o ≡ None → IfSome o IsIndexType
index_type-none None e = tt
index_type-none (Some value) e =
    elim (fixed_in 4 value) as (λ (q : Option ℕ). fixed_in 4 value ≡ q → index_type_by q ≡ None → IsIndexType value) [
      | None ↦ λ _ e. cc
      | Some type ↦ λ read e.
          let is = (fixed_in-found 4 type value read).1 in
          by_test (nat_lt 2 type) (Some (meta.IndexType type)) None None e (λ _ e. cc)
          (λ small _.
          elim (up-to-two type (ltb-false 2 type small)) [
            | inl same ↦ inl (is ∙ ap (fixed 4) same)
            | inr (inl same) ↦ inr (inl (is ∙ ap (fixed 4) same))
            | inr (inr same) ↦ inr (inr (is ∙ ap (fixed 4) same))
          ])
    ] refl e

-- the sequence number of a file that isn't marked
pub global-good : (external global : Option (List ℕ)) → is_valued 2 external ≡ false → global_fault external global ≡ None
global-good external global e = rw e refl

-- the version of a file that was made outside a database
pub external-good : (o : Option (List ℕ)) → IfSome o (λ value. value ≡ fixed 4 1) → (external_fault o ≡ None) × (is_valued 2 o ≡ false)
external-good None good = (refl, refl)
external-good (Some value) good =
    let read : fixed_in 4 value ≡ Some 1 = ap (fixed_in 4) good ∙ fixed_in-fixed 4 1 (omega arith) in
    let one : is_valued 1 (Some value) ≡ true = ap (is_number 1) read in
    (rw one refl, ap (is_number 2) read)

pub external-none : (o : Option (List ℕ)) → external_fault o ≡ None → is_valued 2 o ≡ false → IfSome o (λ value. value ≡ fixed 4 1)
external-none None e unmarked = tt
external-none (Some value) e unmarked =
    by_test (is_valued 1 (Some value)) None _ None e
    (λ one _. let found = is_valued-found 1 (Some value) one in cc)
    (λ _ e. let f = rw unmarked at e in cc)

-- a flag of the index
pub flag-good : (name : Name) (o : Option (List ℕ)) → IfSome o IsFlag → flag_fault name o ≡ None
flag-good name None good = refl
flag-good name (Some value) good =
    let read : varint_in value ≡ Some good.0 = ap varint_in good.2 ∙ varint_in-varint good.0 good.1 in
    rw read refl

pub flag-none : (name : Name) (o : Option (List ℕ)) → flag_fault name o ≡ None → IfSome o IsFlag
flag-none name None e = tt
flag-none name (Some value) e =
    elim (varint_in value) as (λ (q : Option ℕ). varint_in value ≡ q → flag_fault name (Some value) ≡ None → IsFlag value) [
      | None ↦ λ read e. let f = rw read at e in cc
      | Some n ↦ λ read e. let found = varint_in-found n value read in (n, found.0, found.1)
    ] refl e
