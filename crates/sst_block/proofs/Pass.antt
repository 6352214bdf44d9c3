-- One way through the rows of a block, with what it keeps of them, says what the reading of the rows says.
use Rattle.std.proofs.Common.{◌≡◌, ℕ, zero, suc, ◌+◌, ◌-◌, ◌*◌, ◌<◌, ◌≤◌, Bool, true, false, List, [], ◌∷◌, length, take, drop, refl, sym, ap, ◌∙◌, subst, length-drop, arith}
use Rattle.std.specs.Prelude.{Result, Ok, Err}
use Rattle.sst_num.specs.declared.block_handle.Handle.{Handle}
use Rattle.sst_block.specs.declared.row_form.RowForm.{RowForm}
use Rattle.sst_block.specs.declared.fault.BlockFault.{BlockFault}
use Rattle.sst_block.specs.Block.{Spelled, row_spelling}
use Rattle.sst_block.specs.BlockReading.{Before, nothing_before, behind, handle_after, row_read, then_read, onto_rows, rows_from, rows_read}
use Rattle.sst_block.specs.declared.row.Lengths.{Lengths}
use Rattle.sst_block.specs.Rows.{key_held, row_lent, row_length, FitsIn, IsLongEnough}
use Rattle.sst_block.specs.Restarts.{Open, met_by, open_after, counted, rows_counted}
use Rattle.sst_block.proofs.Meeting.{row-some}
use Rattle.sst_block.proofs.RowsRead.{row_read-found}

-- a row that was read takes as many bytes as its spelling has
row_read-length : (form : RowForm) (at : ℕ) (before : Before) (bytes : List ℕ) (read : Spelled × ℕ) → row_read form at before bytes ≡ Ok read → read.1 ≡ length (row_spelling form read.0)
row_read-length form at before bytes read is = (row_read-found form at before bytes read is).stands.takes

-- what is kept between two rows: where the next begins, what is before it, how many rows there were, and the restarts that
-- aren't met
pub record Passed : Type 0 where
  pub at : ℕ
  pub before : Before
  pub count : ℕ
  pub unmet : Open

-- the same behind one more row
abbrev pub kept_by : RowForm → Passed → Spelled × ℕ → Passed
kept_by form k read =
    record { at = k.at + read.1; before = behind form k.before read.0; count = k.count + 1; unmet = met_by read.0.shared k.at k.unmet }

abbrev pub told : Passed → ℕ × ℕ
told k = (k.count, k.unmet.missing)

-- at most n rows
abbrev pub walk : ℕ → RowForm → Passed → List ℕ → Result (ℕ × ℕ) BlockFault
walk zero form k bytes = Ok (told k)
walk (suc n) form k [] = Ok (told k)
walk (suc n) form k (b ∷ bytes) =
    then_read (row_read form k.at k.before (b ∷ bytes)) (λ read. walk n form (kept_by form k read) (drop read.1 (b ∷ bytes)))

-- what is told of the rows that are read
abbrev pub told_of : RowForm → Passed → List Spelled → ℕ × ℕ
told_of form k rows = (k.count + length rows, (open_after form k.at k.unmet rows).missing)

told_of-onto : (form : RowForm) (k : Passed) (read : Spelled × ℕ) (rest : Result (List Spelled) BlockFault) → read.1 ≡ length (row_spelling form read.0)
    → then_read rest (λ rows. Ok (told_of form (kept_by form k read) rows)) ≡ then_read (onto_rows read.0 rest) (λ rows. Ok (told_of form k rows))
told_of-onto form k read (Err fault) long = refl
told_of-onto form k read (Ok rows) long =
    let more : k.count + 1 + length rows ≡ k.count + suc (length rows) = omega arith in
    rw (more, long) refl

told_of-none : (form : RowForm) (k : Passed) → (told k) ≡ (told_of form k [])
told_of-none form k = let none : k.count + 0 ≡ k.count = omega arith in rw none refl

walk-rows : (n : ℕ) (form : RowForm) (k : Passed) (bytes : List ℕ) → walk n form k bytes ≡ then_read (rows_from n form k.at k.before bytes) (λ rows. Ok (told_of form k rows))
walk-rows zero form k bytes = ap (λ (t : ℕ × ℕ). Ok t) (told_of-none form k)
walk-rows (suc n) form k [] = ap (λ (t : ℕ × ℕ). Ok t) (told_of-none form k)
walk-rows (suc n) form k (b ∷ bytes) =
    elim (row_read form k.at k.before (b ∷ bytes)) as (λ r. row_read form k.at k.before (b ∷ bytes) ≡ r
    → then_read r (λ read. walk n form (kept_by form k read) (drop read.1 (b ∷ bytes)))
    ≡ then_read (then_read r (λ read. onto_rows read.0 (rows_from n form (k.at + read.1) (behind form k.before read.0) (drop read.1 (b ∷ bytes))))) (λ rows. Ok (told_of form k rows))) [
      | Err fault ↦ λ same. refl
      | Ok read ↦ λ same.
          walk-rows n form (kept_by form k read) (drop read.1 (b ∷ bytes))
          ∙ told_of-onto form k read (rows_from n form (k.at + read.1) (behind form k.before read.0) (drop read.1 (b ∷ bytes))) (row_read-length form k.at k.before (b ∷ bytes) read same)
    ] refl

-- it doesn't matter how many rows there may be, if they are enough
walk-enough : (n m : ℕ) (form : RowForm) (k : Passed) (bytes : List ℕ) → length bytes ≤ n → length bytes ≤ m → walk n form k bytes ≡ walk m form k bytes
walk-enough zero zero form k bytes hn hm = refl
walk-enough zero (suc m) form k [] hn hm = refl
walk-enough zero (suc m) form k (b ∷ bytes) hn hm = absurd (omega arith)
walk-enough (suc n) zero form k [] hn hm = refl
walk-enough (suc n) zero form k (b ∷ bytes) hn hm = absurd (omega arith)
walk-enough (suc n) (suc m) form k [] hn hm = refl
walk-enough (suc n) (suc m) form k (b ∷ bytes) hn hm =
    elim (row_read form k.at k.before (b ∷ bytes)) as (λ r. row_read form k.at k.before (b ∷ bytes) ≡ r
    → then_read r (λ read. walk n form (kept_by form k read) (drop read.1 (b ∷ bytes)))
    ≡ then_read r (λ read. walk m form (kept_by form k read) (drop read.1 (b ∷ bytes)))) [
      | Err fault ↦ λ same. refl
      | Ok read ↦ λ same.
          let long = row_read-length form k.at k.before (b ∷ bytes) read same in
          let some = row-some form read.0 in
          let rest = length-drop read.1 (b ∷ bytes) in
          walk-enough n m form (kept_by form k read) (drop read.1 (b ∷ bytes)) (omega (arith, long, some, rest)) (omega (arith, long, some, rest))
    ] refl

-- one row on
pub walk-step : (form : RowForm) (k : Passed) (bytes : List ℕ) (read : Spelled × ℕ) → 0 < length bytes → row_read form k.at k.before bytes ≡ Ok read
    → walk (length bytes) form k bytes ≡ walk (length (drop read.1 bytes)) form (kept_by form k read) (drop read.1 bytes)
walk-step form k [] read h e = absurd (omega arith)
walk-step form k (b ∷ bytes) read h e =
    let long = row_read-length form k.at k.before (b ∷ bytes) read e in
    let some = row-some form read.0 in
    let rest = length-drop read.1 (b ∷ bytes) in
    rw e (walk-enough (length bytes) (length (drop read.1 (b ∷ bytes))) form (kept_by form k read) (drop read.1 (b ∷ bytes)) (omega (arith, long, some, rest)) (omega arith))

-- the first fault of a row ends it
pub walk-fault : (form : RowForm) (k : Passed) (bytes : List ℕ) (fault : BlockFault) → 0 < length bytes → row_read form k.at k.before bytes ≡ Err fault
    → walk (length bytes) form k bytes ≡ Err fault
walk-fault form k [] fault h e = absurd (omega arith)
walk-fault form k (b ∷ bytes) fault h e = rw e refl

-- no row is left
pub walk-end : (form : RowForm) (k : Passed) (bytes : List ℕ) → length bytes ≡ 0 → walk (length bytes) form k bytes ≡ Ok (told k)
walk-end form k [] h = refl
walk-end form k (b ∷ bytes) h = absurd (omega arith)

abbrev pub first_kept : Open → Passed
first_kept o = record { at = 0; before = nothing_before; count = 0; unmet = o }

first-told : (form : RowForm) (o : Open) (rest : Result (List Spelled) BlockFault) → then_read rest (λ rows. Ok (told_of form (first_kept o) rows)) ≡ then_read rest (λ rows. Ok (counted form o rows))
first-told form o (Err fault) = refl
first-told form o (Ok rows) = let none : 0 + length rows ≡ length rows = omega arith in rw none refl

-- the whole way says what the rows say
pub walk-counted : (form : RowForm) (o : Open) (bytes : List ℕ) → walk (length bytes) form (first_kept o) bytes ≡ rows_counted form o bytes
unfolding rows_read
walk-counted form o bytes =
    walk-rows (length bytes) form (first_kept o) bytes ∙ first-told form o (rows_from (length bytes) form 0 nothing_before bytes)

-- between two rows: what is left tells what the whole tells
pub record Along (form : RowForm) (o : Open) (rows left : List ℕ) (at count : ℕ) (first : Bool) (before : List ℕ) (handle : Handle) (unmet : Open) : Type 0 where
  pub same : walk (length left) form (record { at = at; before = record { key = key_held first before; handle = handle }; count = count; unmet = unmet }) left
      ≡ walk (length rows) form (first_kept o) rows
  pub place : at + length left ≡ length rows
  pub few : count ≤ at
  pub whole : 4 * unmet.missing ≤ length unmet.left
  pub none : first ≡ true → before ≡ []
  pub long : first ≡ false → IsLongEnough form before

Along-step : (form : RowForm) (k : Passed) (left after : List ℕ) (read : Spelled × ℕ) (at : ℕ) (unmet : Open) → 0 < length left
    → Ok read ≡ row_read form k.at k.before left → after ≡ drop read.1 left → at ≡ k.at + read.1 → unmet ≡ met_by read.0.shared k.at k.unmet
    → walk (length after) form (record { at = at; before = behind form k.before read.0; count = k.count + 1; unmet = unmet }) after ≡ walk (length left) form k left
Along-step form k left after read at unmet some exact rest place met_too =
    rw (rest, place, met_too) (sym (walk-step form k left read some (sym exact)))

-- one row more
pub Along-more : (form : RowForm) (o : Open) (rows left after : List ℕ) (at count : ℕ) (first : Bool) (before next swapped value : List ℕ) (handle next_handle : Handle) (unmet others : Open) (l : Lengths)
    → Along form o rows left at count first before handle unmet → 0 < length left
    → Ok (row_lent before left l) ≡ row_read form at (record { key = key_held first before; handle = handle }) left
    → FitsIn (length before) (length left) l → next ≡ (row_lent before left l).0.row.key → IsLongEnough form next
    → others ≡ met_by l.shared at unmet → 4 * others.missing ≤ length others.left
    → after ≡ drop (row_length l) left → swapped ≡ next → value ≡ take l.value (drop (l.used + l.rest) left) → next_handle ≡ handle_after form handle l.shared value
    → Along form o rows after (at + (length left - length after)) (count + 1) false swapped next_handle others
Along-more form o rows left after at count first before next swapped value handle next_handle unmet others l a some exact fits key long met_too whole rest swap cut says =
    let short : length after ≡ length left - row_length l = ap length rest ∙ length-drop (row_length l) left in
    let within : row_length l ≤ length left = fits.within in
    let used = fits.some in
    let place : at + (length left - length after) ≡ at + row_length l = omega (arith, short, within) in
    let k : Passed = record { at = at; before = record { key = key_held first before; handle = handle }; count = count; unmet = unmet } in
    let one = Along-step form k left after (row_lent before left l) (at + (length left - length after)) others some exact rest place met_too in
    record {
      same = rw (swap, key, says, cut) (one ∙ a.same);
      place = omega (arith, short, within, a.place);
      few = omega (arith, a.few, place, used);
      whole = whole;
      none = λ e. cc;
      long = λ e. subst (IsLongEnough form) (sym swap) long;
    }

-- the fault of a row is that of the rows
pub Along-fault : (form : RowForm) (o : Open) (rows left : List ℕ) (at count : ℕ) (first : Bool) (before : List ℕ) (handle : Handle) (unmet : Open) (fault : BlockFault)
    → Along form o rows left at count first before handle unmet → 0 < length left
    → Err fault ≡ row_read form at (record { key = key_held first before; handle = handle }) left → Err fault ≡ rows_counted form o rows
Along-fault form o rows left at count first before handle unmet fault a some exact =
    let k : Passed = record { at = at; before = record { key = key_held first before; handle = handle }; count = count; unmet = unmet } in
    sym (walk-fault form k left fault some (sym exact)) ∙ a.same ∙ walk-counted form o rows

-- no row is left
pub Along-end : (form : RowForm) (o : Open) (rows left : List ℕ) (at count : ℕ) (first : Bool) (before : List ℕ) (handle : Handle) (unmet : Open)
    → Along form o rows left at count first before handle unmet → length left ≡ 0 → Ok (count, unmet.missing) ≡ rows_counted form o rows
Along-end form o rows left at count first before handle unmet a none =
    let k : Passed = record { at = at; before = record { key = key_held first before; handle = handle }; count = count; unmet = unmet } in
    sym (walk-end form k left none) ∙ a.same ∙ walk-counted form o rows
