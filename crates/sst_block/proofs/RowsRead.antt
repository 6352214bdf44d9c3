-- The rows that are read of some bytes are exactly the rows that are spelled there, each of which may follow the one
-- before it.
use Rattle.std.proofs.Common.{◌≡◌, ℕ, zero, suc, ◌+◌, ◌^◌, ◌<◌, ◌≤◌, true, List, [], ◌∷◌, ◌++◌, length, length-append, length-drop, drop, append_assoc, Option, Some, None, Result, Ok, Err, refl, sym, subst, ap, ◌∙◌, arith}
use Rattle.std.specs.List.{flat_map}
use Rattle.std.proofs.Math.Seq.{drop-append_seam}
use Rattle.sst_num.specs.declared.block_handle.Handle.{Handle}
use Rattle.sst_block.specs.declared.row_form.RowForm.{RowForm}
use Rattle.sst_block.specs.declared.fault.BlockFault.{BlockFault}
use Rattle.sst_block.specs.Block.{Spelled, common, row_spelling, IsRow, LeadsTo}
use Rattle.sst_block.specs.BlockReading.{Before, behind, is_after, row_fault, key_before, unless, then_read, sound_row, row_at, row_read, onto_rows, rows_from}
use Rattle.sst_block.proofs.BlockLaws.{row_spelling-some}
use Rattle.sst_block.proofs.Follows.{Follows, behind_all}
use Rattle.sst_block.proofs.RowAt.{value-within, row_at-spelled, row_at-found, RowStands}
use Rattle.sst_block.proofs.RowForms.{row-passes, row-from}

-- a row that may follow is read again, whatever comes after it
row_read-spelled : (form : RowForm) (at : ℕ) (before : Before) (after : List ℕ) (s : Spelled)
    → s.shared ≤ common (key_before before.key) s.row.key → IsRow form s.row → is_after form before.key s.row.key ≡ true → (h : Handle) → LeadsTo form before.handle s h
    → length s.row.value < 2 ^ 32 → row_read form at before (row_spelling form s ++ after) ≡ Ok (s, length (row_spelling form s))
unfolding row_read
row_read-spelled form at before after s shares is_row follows h leads fits =
    ap (sound_row form at before) (row_at-spelled form before.handle h (key_before before.key) after s leads shares is_row.0 fits)
    ∙ ap (unless (s, length (row_spelling form s))) (row-passes form at before s h is_row.1 leads follows)

-- one step of reading where bytes are left
rows_from-step : (n : ℕ) (form : RowForm) (at : ℕ) (before : Before) (bytes : List ℕ) → 0 < length bytes
    → rows_from (suc n) form at before bytes ≡ then_read (row_read form at before bytes)
    (λ read. onto_rows read.0 (rows_from n form (at + read.1) (behind form before read.0) (drop read.1 bytes)))
rows_from-step n form at before [] some = absurd (omega arith)
rows_from-step n form at before (b ∷ bytes) some = refl

rows_from-none : (n : ℕ) (form : RowForm) (at : ℕ) (before : Before) → rows_from n form at before [] ≡ Ok []
rows_from-none zero form at before = refl
rows_from-none (suc n) form at before = refl

-- rows that may follow one another are read again
pub rows_from-spelled : (form : RowForm) (spelled : List Spelled) (n at : ℕ) (before : Before)
    → Follows form before spelled → length (flat_map (row_spelling form) spelled) ≤ n → n < 2 ^ 32
    → rows_from n form at before (flat_map (row_spelling form) spelled) ≡ Ok spelled
rows_from-spelled form [] n at before follows within fits = rows_from-none n form at before
rows_from-spelled form (s ∷ rest) zero at before follows within fits =
    absurd (omega (arith, within, row_spelling-some form s, length-append (row_spelling form s) (flat_map (row_spelling form) rest)))
rows_from-spelled form (s ∷ rest) (suc n) at before follows within fits =
    let others = flat_map (row_spelling form) rest in
    let size = length-append (row_spelling form s) others in
    let one = row_spelling-some form s in
    let value = value-within form s in
    let here = row_read-spelled form at before others s follows.0 follows.1 follows.2 follows.3.0 follows.3.1 (omega arith) in
    let later = rows_from-spelled form rest n (at + length (row_spelling form s)) (behind form before s) follows.4 (omega arith) (omega arith) in
    rw (rows_from-step n form at before (row_spelling form s ++ others) (omega arith), here, drop-append_seam (row_spelling form s) others, later) refl

-- a value behind a step that found no fault
pub then_ok : {A B P : Type 0} (r : Result A BlockFault) (next : A → Result B BlockFault) (y : B) → then_read r next ≡ Ok y
    → ((x : A) → r ≡ Ok x → next x ≡ Ok y → P) → P
then_ok (Ok x) next y is use' = use' x refl is
then_ok (Err fault) next y is use' = cc

pub then_err : {A B P : Type 0} (r : Result A BlockFault) (next : A → Result B BlockFault) (fault : BlockFault) → then_read r next ≡ Err fault
    → (r ≡ Err fault → P) → ((x : A) → r ≡ Ok x → next x ≡ Err fault → P) → P
then_err (Ok x) next fault is here later = later x refl is
then_err (Err f) next fault is here later = here cc

pub unless_ok : {A : Type 0} (x y : A) (o : Option BlockFault) → unless x o ≡ Ok y → (o ≡ None) × (x ≡ y)
unless_ok x y None is = (refl, cc)
unless_ok x y (Some fault) is = cc

sound_row-ok : (form : RowForm) (at : ℕ) (before : Before) (read : Option (Spelled × ℕ)) (r : Spelled × ℕ)
    → sound_row form at before read ≡ Ok r → (read ≡ Some r) × (row_fault form at before r.0 ≡ None)
sound_row-ok form at before None r is = cc
sound_row-ok form at before (Some x) r is =
    let parts = unless_ok x r (row_fault form at before x.0) is in
    (ap Some parts.1, sym (ap (λ (p : Spelled × ℕ). row_fault form at before p.0) parts.1) ∙ parts.0)

-- a row that was read stands at the front of the bytes, and may follow
pub record RowFound (form : RowForm) (before : Before) (bytes : List ℕ) (read : Spelled × ℕ) : Type 0 where
  pub stands : RowStands form (key_before before.key) bytes read.0 read.1
  pub is_row : IsRow form read.0.row
  pub follows : is_after form before.key read.0.row.key ≡ true
  pub handle : Handle
  pub leads : LeadsTo form before.handle read.0 handle

pub row_read-found : (form : RowForm) (at : ℕ) (before : Before) (bytes : List ℕ) (read : Spelled × ℕ)
    → row_read form at before bytes ≡ Ok read → RowFound form before bytes read
unfolding row_read
row_read-found form at before bytes read is =
    let parts = sound_row-ok form at before (row_at form before.handle (key_before before.key) bytes) read is in
    let stands = row_at-found form before.handle (key_before before.key) bytes read.0 read.1 parts.0 in
    let good = row-from form at before read.0 parts.1 in
    record { stands = stands; is_row = (stands.short, good.has_form); follows = good.after; handle = good.handle; leads = good.leads }

-- rows that were read are spelled in the bytes, and may follow one another
pub rows_from-found : (n : ℕ) (form : RowForm) (at : ℕ) (before : Before) (bytes : List ℕ) (spelled : List Spelled)
    → length bytes ≤ n → rows_from n form at before bytes ≡ Ok spelled
    → (bytes ≡ flat_map (row_spelling form) spelled) × Follows form before spelled
rows_from-found zero form at before [] spelled within is = let none : [] ≡ spelled = cc in subst (λ (all : List Spelled). ([] ≡ flat_map (row_spelling form) all) × Follows form before all) none (refl, tt)
rows_from-found zero form at before (b ∷ bytes) spelled within is = absurd (omega arith)
rows_from-found (suc n) form at before [] spelled within is = let none : [] ≡ spelled = cc in subst (λ (all : List Spelled). ([] ≡ flat_map (row_spelling form) all) × Follows form before all) none (refl, tt)
rows_from-found (suc n) form at before (b ∷ bytes) spelled within is =
    then_ok (row_read form at before (b ∷ bytes))
    (λ read. onto_rows read.0 (rows_from n form (at + read.1) (behind form before read.0) (drop read.1 (b ∷ bytes)))) spelled is
    (λ read first later.
    then_ok (rows_from n form (at + read.1) (behind form before read.0) (drop read.1 (b ∷ bytes))) (λ (rows : List Spelled). Ok (read.0 ∷ rows)) spelled later
    (λ rows others joined.
    let found = row_read-found form at before (b ∷ bytes) read first in
    let less : length (drop read.1 (b ∷ bytes)) ≤ n = omega (arith, length-drop read.1 (b ∷ bytes), found.stands.some) in
    let rest = rows_from-found n form (at + read.1) (behind form before read.0) (drop read.1 (b ∷ bytes)) rows less others in
    let whole : b ∷ bytes ≡ row_spelling form read.0 ++ flat_map (row_spelling form) rows =
    found.stands.joined ∙ ap (λ (xs : List ℕ). row_spelling form read.0 ++ xs) rest.0 in
    let all : read.0 ∷ rows ≡ spelled = cc in
    subst (λ (xs : List Spelled). (b ∷ bytes ≡ flat_map (row_spelling form) xs) × Follows form before xs) all
    (whole, (found.stands.shares, found.is_row, found.follows, (found.handle, found.leads), rest.1))))

-- sound rows, and then one that was read as a fault
pub record RowsEnd (form : RowForm) (at : ℕ) (before : Before) (bytes : List ℕ) (fault : BlockFault) : Type 0 where
  pub good : List Spelled
  pub rest : List ℕ
  pub joined : bytes ≡ flat_map (row_spelling form) good ++ rest
  pub follows : Follows form before good
  pub some : 0 < length rest
  pub reads : row_read form (at + length (flat_map (row_spelling form) good)) (behind_all form before good) rest ≡ Err fault

-- the row that was read as a fault is the first
pub rows_from-fault : (n : ℕ) (form : RowForm) (at : ℕ) (before : Before) (bytes : List ℕ) (fault : BlockFault)
    → length bytes ≤ n → rows_from n form at before bytes ≡ Err fault → RowsEnd form at before bytes fault
rows_from-fault zero form at before bytes fault within is = cc
rows_from-fault (suc n) form at before [] fault within is = cc
rows_from-fault (suc n) form at before (b ∷ bytes) fault within is =
    then_err (row_read form at before (b ∷ bytes))
    (λ read. onto_rows read.0 (rows_from n form (at + read.1) (behind form before read.0) (drop read.1 (b ∷ bytes)))) fault is
    (λ here.
    let start : at ≡ at + 0 = omega arith in
    record {
      good = [];
      rest = b ∷ bytes;
      joined = refl;
      follows = tt;
      some = omega arith;
      reads = subst (λ (place : ℕ). row_read form place before (b ∷ bytes) ≡ Err fault) start here;
    })
    (λ read first later.
    then_err (rows_from n form (at + read.1) (behind form before read.0) (drop read.1 (b ∷ bytes))) (λ (rows : List Spelled). Ok (read.0 ∷ rows)) fault later
    (λ others.
    let found = row_read-found form at before (b ∷ bytes) read first in
    let less : length (drop read.1 (b ∷ bytes)) ≤ n = omega (arith, length-drop read.1 (b ∷ bytes), found.stands.some) in
    let more = rows_from-fault n form (at + read.1) (behind form before read.0) (drop read.1 (b ∷ bytes)) fault less others in
    let place : at + read.1 + length (flat_map (row_spelling form) more.good) ≡ at + length (flat_map (row_spelling form) (read.0 ∷ more.good)) =
    omega (arith, found.stands.takes, length-append (row_spelling form read.0) (flat_map (row_spelling form) more.good)) in
    record {
      good = read.0 ∷ more.good;
      rest = more.rest;
      joined = found.stands.joined ∙ ap (λ (xs : List ℕ). row_spelling form read.0 ++ xs) more.joined
          ∙ sym (append_assoc (row_spelling form read.0) (flat_map (row_spelling form) more.good) more.rest);
      follows = (found.stands.shares, found.is_row, found.follows, (found.handle, found.leads), more.follows);
      some = more.some;
      reads = subst (λ (p : ℕ). row_read form p (behind_all form (behind form before read.0) more.good) more.rest ≡ Err fault) place more.reads;
    })
    (λ rows others wrong. cc))

-- a fault behind rows that may follow one another is read
pub rows_from-faulty : (form : RowForm) (good : List Spelled) (n at : ℕ) (before : Before) (rest : List ℕ) (fault : BlockFault)
    → Follows form before good → length (flat_map (row_spelling form) good ++ rest) ≤ n → n < 2 ^ 32 → 0 < length rest
    → row_read form (at + length (flat_map (row_spelling form) good)) (behind_all form before good) rest ≡ Err fault
    → rows_from n form at before (flat_map (row_spelling form) good ++ rest) ≡ Err fault
rows_from-faulty form [] zero at before rest fault follows within fits some reads = absurd (omega arith)
rows_from-faulty form [] (suc n) at before rest fault follows within fits some reads =
    let start : at + 0 ≡ at = omega arith in
    let here : row_read form at before rest ≡ Err fault = subst (λ (place : ℕ). row_read form place before rest ≡ Err fault) start reads in
    rw (rows_from-step n form at before rest some, here) refl
rows_from-faulty form (s ∷ good) zero at before rest fault follows within fits some reads =
    absurd (omega (arith, within, some, length-append (row_spelling form s ++ flat_map (row_spelling form) good) rest))
rows_from-faulty form (s ∷ good) (suc n) at before rest fault follows within fits some reads =
    let others = flat_map (row_spelling form) good ++ rest in
    let joined : flat_map (row_spelling form) (s ∷ good) ++ rest ≡ row_spelling form s ++ others = append_assoc (row_spelling form s) (flat_map (row_spelling form) good) rest in
    let size : length (flat_map (row_spelling form) (s ∷ good) ++ rest) ≡ length (row_spelling form s) + length others = ap length joined ∙ length-append (row_spelling form s) others in
    let one = row_spelling-some form s in
    let value = value-within form s in
    let here = row_read-spelled form at before others s follows.0 follows.1 follows.2 follows.3.0 follows.3.1 (omega arith) in
    let place : at + length (flat_map (row_spelling form) (s ∷ good)) ≡ at + length (row_spelling form s) + length (flat_map (row_spelling form) good) =
    omega (arith, length-append (row_spelling form s) (flat_map (row_spelling form) good)) in
    let moved = subst (λ (p : ℕ). row_read form p (behind_all form (behind form before s) good) rest ≡ Err fault) place reads in
    let later = rows_from-faulty form good n (at + length (row_spelling form s)) (behind form before s) rest fault follows.4 (omega arith) (omega arith) some moved in
    ap (rows_from (suc n) form at before) joined
    ∙ rw (rows_from-step n form at before (row_spelling form s ++ others) (omega (arith, length-append (row_spelling form s) others)), here, drop-append_seam (row_spelling form s) others, later) refl
