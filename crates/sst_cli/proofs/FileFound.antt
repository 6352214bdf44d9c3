-- What a file may be found as, and that a told folder leaves one answer.
use Rattle.std.proofs.Common.{◌≡◌, ◌⊎◌, ℕ, List, Option, None, Some, Result, Ok, Err, IsTrue, length, inl, inr, refl, sym, ap, subst, ◌∙◌, arith}
use Rattle.std.specs.FinMap.{get}
use Rattle.std.proofs.lemmas.Bool.{false≢true, le-ltb}
use Rattle.sst_device.specs.Folder.{Files, file_of, misses, ends_before}
use Rattle.sst_bbt_spec.specs.BlockBased.{Opens}
use Rattle.sst_bbt_spec.specs.Parts.{Part}
use Rattle.sst_bbt_spec.proofs.PartsLead.{opens-one}
use Rattle.sst_bbt_spec.proofs.Stands.{opens-seqs}
use Rattle.sst_bbt_read.specs.OpeningFaults.{FailsToOpen}
use Rattle.sst_num.specs.declared.stops.Stop.{Stop}
use Rattle.sst_num.specs.declared.stops.Stop.TheVariants.{Damage, Device, Memory}
use Rattle.sst_bbt_read.specs.declared.bbt_fault.BbtFault.{BbtFault}
use Rattle.sst_bbt_read.proofs.OpeningDecided.{opens-apart_fails, fails-one, opens-or_fails}
use Rattle.sst_cli.specs.Behaviour.{Outcome, FileIs}
use Rattle.sst_cli.specs.OpenFile.{OpenFile, Absent, Damaged, Opened, IsOpenFile, file_outcome}
use Rattle.sst_cli.proofs.OneReading.{same_some, same_err, not_both}

-- a file that isn't missed, and is so where it is told
file_there : (files : Files) (name : List ℕ) (P : List ℕ → Type 0) (found : Option (List ℕ)) → get files name ≡ found
    → (IsTrue (ends_before found 0) → ⊥) → ((file : List ℕ) → found ≡ Some file → P file)
    → (file : List ℕ) × (get files name ≡ Some file) × P file
file_there files name P None is there told = absurd (there refl)
file_there files name P (Some file) is there told = (file, is, told file refl)

pub file_is : (held : Option Files) (name : List ℕ) (P : List ℕ → Type 0) → (IsTrue (misses held name 0) → ⊥)
    → ((file : List ℕ) → file_of held name ≡ Some file → P file) → FileIs held name P
file_is None name P there told = λ files is. absurd cc
file_is (Some all) name P there told = λ files is.
    let same : all ≡ files = cc in
    subst (λ (fs : Files). (file : List ℕ) × (get fs name ≡ Some file) × P file) same (file_there all name P (get all name) refl there told)

-- where the named file is told, it is the one that is so
pub file_told : (held : Option Files) (name file : List ℕ) (P : List ℕ → Type 0) → FileIs held name P → file_of held name ≡ Some file → P file
file_told None name file P is told = absurd cc
file_told (Some files) name file P is told =
    let some = is files refl in
    subst P (same_some (get files name) some.0 file some.1 told) some.2

-- a file that is told isn't missed
missed_is_not_told : (found : Option (List ℕ)) (file : List ℕ) → IsTrue (ends_before found 0) → found ≡ Some file → ⊥
missed_is_not_told None file missed told = cc
missed_is_not_told (Some bytes) file missed told = false≢true (sym (le-ltb (length bytes) 0 (omega arith)) ∙ missed)

pub not_missed : (held : Option Files) (name file : List ℕ) → IsTrue (misses held name 0) → file_of held name ≡ Some file → ⊥
not_missed None name file missed told = cc
not_missed (Some files) name file missed told = missed_is_not_told (get files name) file missed told

-- ---- what opening answered

-- the blocks of a file that was opened
pub file_opens : {T : Type 0} (held : Option Files) (name : List ℕ) (result : Result T (Stop BbtFault)) (reader : T) (parts : List Part) → result ≡ Ok reader
    → (IsTrue (misses held name 0) → (result ≡ Err Device) ⊎ (result ≡ Err Memory))
    → ((file : List ℕ) → file_of held name ≡ Some file → Opens file parts)
    → FileIs held name (λ file. Opens file parts)
file_opens held name result reader parts is absent told =
    file_is held name (λ file. Opens file parts)
    (λ missed. elim (absent missed) [ inl device ↦ not_both result reader Device is device | inr memory ↦ not_both result reader Memory is memory ])
    told

damage_apart : {T : Type 0} (result : Result T (Stop BbtFault)) (fault : BbtFault) → result ≡ Err (Damage fault) → (result ≡ Err Device) ⊎ (result ≡ Err Memory) → ⊥
damage_apart result fault is (inl device) = let both = same_err result (Damage fault) Device is device in cc
damage_apart result fault is (inr memory) = let both = same_err result (Damage fault) Memory is memory in cc

-- the fault of one that wasn't
pub file_damaged : {T : Type 0} (held : Option Files) (name : List ℕ) (result : Result T (Stop BbtFault)) (fault : BbtFault) → result ≡ Err (Damage fault)
    → (IsTrue (misses held name 0) → (result ≡ Err Device) ⊎ (result ≡ Err Memory))
    → ((file : List ℕ) → file_of held name ≡ Some file → FailsToOpen file fault)
    → FileIs held name (λ file. FailsToOpen file fault)
file_damaged held name result fault is absent told =
    file_is held name (λ file. FailsToOpen file fault) (λ missed. damage_apart result fault is (absent missed)) told

-- ---- a told folder leaves one answer

-- a file that is there isn't missed
pub there_not_missed : (held : Option Files) (name : List ℕ) (P : List ℕ → Type 0) → IsTrue (misses held name 0) → FileIs held name P → ⊥
there_not_missed None name P missed is = cc
there_not_missed (Some files) name P missed is =
    let some = is files refl in not_missed (Some files) name some.0 missed some.1

-- two things that are so of a file in a told folder are so of one file
both_of_one : (files : Files) (name : List ℕ) (P Q : List ℕ → Type 0) → FileIs (Some files) name P → FileIs (Some files) name Q
    → (file : List ℕ) × P file × Q file
both_of_one files name P Q p q =
    let some = p files refl in
    (some.0, some.2, file_told (Some files) name some.0 Q q some.1)

pub one_file_outcome : (answer : List Part → Outcome) (files : Files) (name : List ℕ) (some other : OpenFile)
    → IsOpenFile (Some files) name some → IsOpenFile (Some files) name other → file_outcome answer some ≡ file_outcome answer other
one_file_outcome answer files name Absent Absent a b = refl
one_file_outcome answer files name Absent (Damaged fault) a b = absurd (there_not_missed (Some files) name (λ file. FailsToOpen file fault) a b)
one_file_outcome answer files name Absent (Opened parts) a b = absurd (there_not_missed (Some files) name (λ file. Opens file parts) a b.1)
one_file_outcome answer files name (Damaged fault) Absent a b = absurd (there_not_missed (Some files) name (λ file. FailsToOpen file fault) b a)
one_file_outcome answer files name (Damaged fault) (Damaged other) a b =
    let one = both_of_one files name (λ file. FailsToOpen file fault) (λ file. FailsToOpen file other) a b in
    ap (λ (f : BbtFault). file_outcome answer (Damaged f)) (fails-one one.0 fault other one.1 one.2)
one_file_outcome answer files name (Damaged fault) (Opened parts) a b =
    let one = both_of_one files name (λ file. FailsToOpen file fault) (λ file. Opens file parts) a b.1 in
    absurd (opens-apart_fails one.0 parts fault one.2 one.1)
one_file_outcome answer files name (Opened parts) Absent a b = absurd (there_not_missed (Some files) name (λ file. Opens file parts) b a.1)
one_file_outcome answer files name (Opened parts) (Damaged fault) a b =
    let one = both_of_one files name (λ file. Opens file parts) (λ file. FailsToOpen file fault) a.1 b in
    absurd (opens-apart_fails one.0 parts fault one.1 one.2)
one_file_outcome answer files name (Opened parts) (Opened others) a b =
    let one = both_of_one files name (λ file. Opens file parts) (λ file. Opens file others) a.1 b.1 in
    ap answer (opens-one one.0 parts others one.1 one.2)

-- and there is always one
found_bytes : (files : Files) (name file : List ℕ) → get files name ≡ Some file
    → ((parts : List Part) × Opens file parts) ⊎ ((fault : BbtFault) × FailsToOpen file fault)
    → (found : OpenFile) × IsOpenFile (Some files) name found
found_bytes files name file there (inl opens) =
    (Opened opens.0, (opens-seqs file opens.0 opens.1, λ all is. (file, (let same : files ≡ all = cc in rw (← same) there), opens.1)))
found_bytes files name file there (inr fails) =
    (Damaged fails.0, λ all is. (file, (let same : files ≡ all = cc in rw (← same) there), fails.1))

found_some : (files : Files) (name : List ℕ) (bytes : Option (List ℕ)) → get files name ≡ bytes → (found : OpenFile) × IsOpenFile (Some files) name found
found_some files name None none = (Absent, ap (λ (o : Option (List ℕ)). ends_before o 0) none)
found_some files name (Some file) there = found_bytes files name file there (opens-or_fails file)

pub found_file : (files : Files) (name : List ℕ) → (found : OpenFile) × IsOpenFile (Some files) name found
found_file files name = found_some files name (get files name) refl
