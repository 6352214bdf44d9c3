-- What is counted on the way through the rows, and the first restart, say what the block reads as.
use Rattle.std.proofs.Common.{◌≡◌, ℕ, zero, suc, ◌+◌, ◌-◌, ◌==◌, ◌<◌, ◌≤◌, true, false, ◌&&◌, if◌then◌else◌, List, [], ◌∷◌, length, drop, Some, refl, sym, ap, ◌∙◌, arith}
use Rattle.std.specs.Prelude.{Result, Ok, Err, nat_lt}
use Rattle.sst_num.specs.NumberReading.{fixed_at}
use Rattle.sst_block.specs.declared.row_form.RowForm.{RowForm}
use Rattle.sst_block.specs.declared.fault.BlockFault.{BlockFault}
use Rattle.sst_block.specs.declared.fault.BlockFault.TheVariants.{BadRestart}
use Rattle.sst_block.specs.Block.{Spelled, row_spelling, fresh_starts}
use Rattle.sst_block.specs.BlockReading.{then_read, with_restarts, rows_read, restarts_fault}
use Rattle.sst_block.specs.Restarts.{Open, is_next, met, met_by, open_after, counted, rows_counted}
use Rattle.sst_block.proofs.Meeting.{Below, Unmet, fault_left, open-fault}

-- no more restarts are left than there were
met-le : (at : ℕ) (o : Open) → (met at o).missing ≤ o.missing
met-le at o =
    elim (nat_lt 0 o.missing && is_next at o.last (fixed_at 4 o.left)) as (λ b. (if b then record { missing = o.missing - 1; last = at; left = drop 4 o.left } else o).missing ≤ o.missing) [
      | true ↦ omega arith
      | false ↦ omega arith
    ]

met_by-le : (shared at : ℕ) (o : Open) → (met_by shared at o).missing ≤ o.missing
met_by-le shared at o =
    elim (shared == 0) as (λ b. (if b then met at o else o).missing ≤ o.missing) [
      | true ↦ met-le at o
      | false ↦ omega arith
    ]

open_after-le : (form : RowForm) (rows : List Spelled) (at : ℕ) (o : Open) → (open_after form at o rows).missing ≤ o.missing
open_after-le form [] at o = omega arith
open_after-le form (s ∷ rows) at o =
    omega (arith, open_after-le form rows (at + length (row_spelling form s)) (met_by s.shared at o), met_by-le s.shared at o)

-- what was counted is of rows that were read
pub record Counted (form : RowForm) (o : Open) (bytes : List ℕ) (found missing : ℕ) : Type 0 where
  pub rows : List Spelled
  pub reads : rows_read form bytes ≡ Ok rows
  pub many : length rows ≡ found
  pub left : (open_after form 0 o rows).missing ≡ missing
  pub few : missing ≤ o.missing

counted-from : (form : RowForm) (o : Open) (bytes : List ℕ) (found missing : ℕ) (read : Result (List Spelled) BlockFault) → rows_read form bytes ≡ read
    → then_read read (λ rows. Ok (counted form o rows)) ≡ Ok (found, missing) → Counted form o bytes found missing
counted-from form o bytes found missing (Err fault) is e = cc
counted-from form o bytes found missing (Ok rows) is e =
    let same : counted form o rows ≡ (found, missing) = cc in
    let left : (open_after form 0 o rows).missing ≡ missing = ap (λ p. p.1) same in
    record {
      rows = rows;
      reads = is;
      many = ap (λ p. p.0) same;
      left = left;
      few = omega (arith, left, open_after-le form rows 0 o);
    }

pub rows_counted-reads : (form : RowForm) (o : Open) (bytes : List ℕ) (found missing : ℕ) → Ok (found, missing) ≡ rows_counted form o bytes → Counted form o bytes found missing
rows_counted-reads form o bytes found missing e = counted-from form o bytes found missing (rows_read form bytes) refl (sym e)

-- where the first restart is 0, the first that isn't met is the fault
restarts-left : (form : RowForm) (count : ℕ) (places : List ℕ) (rows : List Spelled) → 0 < count → fixed_at 4 places ≡ Some 0
    → restarts_fault (fresh_starts form 0 rows) count places
    ≡ fault_left count (open_after form 0 (record { missing = count - 1; last = 0; left = drop 4 places }) rows).missing
restarts-left form zero places rows some first = absurd (omega arith)
restarts-left form (suc n) places rows some first =
    let less : suc n - 1 ≡ n = omega arith in
    let total : 1 + n ≡ suc n = omega arith in
    let below : Below [] 0 = record { none = λ r h. refl } in
    let unmet : Unmet [] n 0 (fixed_at 4 (drop 4 places)) = record { none = λ r h same after. refl } in
    rw (first, less) (open-fault form rows [] 0 n 1 0 (drop 4 places) below unmet ∙ ap (λ t. fault_left t (open_after form 0 (record { missing = n; last = 0; left = drop 4 places }) rows).missing) total)

fault_left-some : (total missing : ℕ) → 0 < missing → fault_left total missing ≡ Some (BadRestart (total - missing))
fault_left-some total zero h = absurd (omega arith)
fault_left-some total (suc n) h = refl

-- a restart isn't met
pub parts-missing : (form : RowForm) (rows places : List ℕ) (count found missing : ℕ) → 0 < count → fixed_at 4 places ≡ Some 0
    → Counted form (record { missing = count - 1; last = 0; left = drop 4 places }) rows found missing → 0 < missing
    → then_read (rows_read form rows) (with_restarts form count places) ≡ Err (BadRestart (count - missing))
parts-missing form rows places count found missing some first c h =
    rw (c.reads, restarts-left form count places c.rows some first, c.left, fault_left-some count missing h) refl

-- each restart is met
pub parts-sound : (form : RowForm) (rows places : List ℕ) (count found missing : ℕ) → 0 < count → fixed_at 4 places ≡ Some 0
    → Counted form (record { missing = count - 1; last = 0; left = drop 4 places }) rows found missing → missing ≡ 0
    → (spelled : List Spelled) × (then_read (rows_read form rows) (with_restarts form count places) ≡ Ok spelled) × (length spelled ≡ found)
parts-sound form rows places count found missing some first c h =
    let none : (open_after form 0 (record { missing = count - 1; last = 0; left = drop 4 places }) c.rows).missing ≡ 0 = c.left ∙ h in
    let same : then_read (rows_read form rows) (with_restarts form count places) ≡ Ok c.rows = rw (c.reads, restarts-left form count places c.rows some first, none) refl in
    (c.rows, same, c.many)

-- the same of the restarts behind the first as they are lent
pub behind-counted : (form : RowForm) (rows places left : List ℕ) (count found missing : ℕ) → left ≡ drop 4 places
    → Ok (found, missing) ≡ rows_counted form (record { missing = count - 1; last = 0; left = left }) rows
    → Counted form (record { missing = count - 1; last = 0; left = drop 4 places }) rows found missing
behind-counted form rows places left count found missing behind e =
    rows_counted-reads form (record { missing = count - 1; last = 0; left = drop 4 places }) rows found missing
    (e ∙ ap (λ (l : List ℕ). rows_counted form (record { missing = count - 1; last = 0; left = l }) rows) behind)
