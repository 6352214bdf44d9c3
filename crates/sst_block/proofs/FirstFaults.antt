-- The fault that a block reads as is the first that its bytes have.
use Rattle.std.proofs.Common.{◌≡◌, ℕ, ◌+◌, ◌*◌, ◌^◌, ◌≤◌, List, ◌++◌, length, length-append, length-drop, take, drop, append_assoc, Option, Some, None, Result, Ok, Err, refl, sym, subst, ap, ◌∙◌, arith}
use Rattle.std.specs.List.{flat_map}
use Rattle.std.proofs.lemmas.List.{take-append-drop, take_at, drop_at}
use Rattle.sst_num.specs.Spelling.{fixed}
use Rattle.sst_block.specs.declared.row_form.RowForm.{RowForm}
use Rattle.sst_block.specs.declared.fault.BlockFault.{BlockFault}
use Rattle.sst_block.specs.declared.fault.BlockFault.TheVariants.{BadRow, BadRestart, BadFooter, Disorder, BadKind, BadHash, BadHandle}
use Rattle.sst_block.specs.Block.{Spelled, row_spelling, fresh_starts}
use Rattle.sst_block.specs.FirstFault.{HasFooter, AreSound, IsRowFault, HasFaultyRow, HasFaultyRestart, IsFirstFault}
use Rattle.sst_block.specs.BlockReading.{Before, nothing_before, restart_count, rows_end, rows_read, restarts_fault, row_read, unless, then_read, with_restarts, parts_read, block_read}
use Rattle.sst_block.proofs.FaultyRows.{row_read-faulty}
use Rattle.sst_block.proofs.Follows.{Follows, all-follow, followers, behind_all, behind_all-leads, behind_all-is}
use Rattle.sst_block.proofs.Footer.{footer-length, footer-read, footer-found}
use Rattle.sst_block.proofs.RestartFaults.{restarts-end, restarts_fault-faulty}
use Rattle.sst_block.proofs.RowFaults.{row_read-fault, unless_err, behind_good}
use Rattle.sst_block.proofs.RowsRead.{then_err, rows_from-spelled, rows_from-found, rows_from-fault, rows_from-faulty}

sound-from : (form : RowForm) (spelled : List Spelled) → Follows form nothing_before spelled → AreSound form spelled
sound-from form spelled follows =
    let parts = followers form spelled follows in
    record { fronts = parts.0; forms = parts.1; ordered = parts.2; handles = parts.3 }

follow-sound : (form : RowForm) (spelled : List Spelled) → AreSound form spelled → Follows form nothing_before spelled
follow-sound form spelled sound = all-follow form spelled sound.fronts sound.forms sound.ordered sound.handles

-- what follows the rows is as long as the footer says
end-length : (bytes : List ℕ) (count : ℕ) → HasFooter bytes count → length (drop (rows_end bytes count) bytes) ≡ 4 * count + 4
end-length bytes count f =
    let whole = footer-length bytes count f in
    length-drop (rows_end bytes count) bytes ∙ omega (arith, whole, f.room)

-- a row that was read as a fault
faulty-row : (form : RowForm) (bytes : List ℕ) (count : ℕ) (fault : BlockFault) → HasFooter bytes count
    → rows_read form (take (rows_end bytes count) bytes) ≡ Err fault → HasFaultyRow form bytes fault
unfolding rows_read
faulty-row form bytes count fault footer is =
    let front = take (rows_end bytes count) bytes in
    let end = drop (rows_end bytes count) bytes in
    let found = rows_from-fault (length front) form 0 nothing_before front fault (omega arith) is in
    let place : 0 + length (flat_map (row_spelling form) found.good) ≡ length (flat_map (row_spelling form) found.good) = omega arith in
    let handle = (behind_all form nothing_before found.good).handle in
    let leads = behind_all-leads form nothing_before found.good found.follows in
    let reads = subst (λ (b : Before). row_read form (0 + length (flat_map (row_spelling form) found.good)) b found.rest ≡ Err fault) (behind_all-is form found.good handle leads) found.reads in
    record {
      count = count;
      good = found.good;
      rest = found.rest;
      end = end;
      footer = footer;
      joined = sym (take-append-drop (rows_end bytes count) bytes) ∙ ap (λ (xs : List ℕ). xs ++ end) found.joined
          ∙ append_assoc (flat_map (row_spelling form) found.good) found.rest end;
      ends = end-length bytes count footer;
      sound = sound-from form found.good found.follows;
      handle = handle;
      leads = leads;
      some = found.some;
      faulty = subst (λ (at : ℕ). IsRowFault form found.good handle at found.rest fault) place
          (row_read-fault form found.good handle (0 + length (flat_map (row_spelling form) found.good)) found.rest fault reads);
    }

-- a faulty row is the first fault
row-first : (form : RowForm) (bytes : List ℕ) (fault : BlockFault) → HasFaultyRow form bytes fault → IsFirstFault form bytes fault
row-first form bytes (BadRow at) is = is
row-first form bytes (BadKind at) is = is
row-first form bytes (BadHandle at) is = is
row-first form bytes (Disorder at) is = is
row-first form bytes (BadHash at) is = is
row-first form bytes (BadRestart i) is = absurd is.faulty
row-first form bytes BadFooter is = absurd is.faulty

-- a restart that was read as a fault
restart-first : (form : RowForm) (bytes : List ℕ) (count : ℕ) (spelled : List Spelled) (fault : BlockFault) → HasFooter bytes count
    → rows_read form (take (rows_end bytes count) bytes) ≡ Ok spelled
    → restarts_fault (fresh_starts form 0 spelled) count (drop (rows_end bytes count) bytes) ≡ Some fault → IsFirstFault form bytes fault
unfolding rows_read
restart-first form bytes count spelled fault footer rows is =
    let front = take (rows_end bytes count) bytes in
    let end = drop (rows_end bytes count) bytes in
    let found = rows_from-found (length front) form 0 nothing_before front spelled (omega arith) rows in
    let sound = sound-from form spelled found.1 in
    let last = restarts-end form spelled count end fault sound.fronts is in
    let joined : bytes ≡ flat_map (row_spelling form) spelled ++ end =
    sym (take-append-drop (rows_end bytes count) bytes) ∙ ap (λ (xs : List ℕ). xs ++ end) found.0 in
    let size : length bytes ≡ length (flat_map (row_spelling form) spelled) + 4 * count + 4 =
    ap length joined ∙ length-append (flat_map (row_spelling form) spelled) end ∙ omega (arith, end-length bytes count footer) in
    let faulty : HasFaultyRestart form bytes (length last.restarts) = record {
      count = count;
      spelled = spelled;
      restarts = last.restarts;
      rest = last.rest;
      footer = footer;
      joined = joined ∙ ap (λ (xs : List ℕ). flat_map (row_spelling form) spelled ++ xs) last.joined;
      ends = size;
      sound = sound;
      number = refl;
      within = last.within;
      kept = last.kept;
      broken = last.broken;
    } in
    subst (λ (f : BlockFault). IsFirstFault form bytes f) last.fault_is faulty

parts-fault : (form : RowForm) (bytes : List ℕ) (read : Option ℕ) (fault : BlockFault) → restart_count bytes ≡ read
    → parts_read form bytes read ≡ Err fault → IsFirstFault form bytes fault
parts-fault form bytes None fault read is =
    let same : BadFooter ≡ fault = cc in
    subst (λ (f : BlockFault). IsFirstFault form bytes f) same
    (λ count footer. let some = footer-read bytes count footer in cc)
parts-fault form bytes (Some count) fault read is =
    let footer = footer-found bytes count read in
    then_err (rows_read form (take (rows_end bytes count) bytes)) (with_restarts form count (drop (rows_end bytes count) bytes)) fault is
    (λ here. row-first form bytes fault (faulty-row form bytes count fault footer here))
    (λ spelled rows later.
    restart-first form bytes count spelled fault footer rows
    (unless_err spelled (restarts_fault (fresh_starts form 0 spelled) count (drop (rows_end bytes count) bytes)) fault later))

-- what a block reads as is its first fault
pub read-first : (form : RowForm) (bytes : List ℕ) (fault : BlockFault) → block_read form bytes ≡ Err fault
    → IsFirstFault form bytes fault
unfolding block_read
read-first form bytes fault is = parts-fault form bytes (restart_count bytes) fault refl is

no-footer : (bytes : List ℕ) (read : Option ℕ) → restart_count bytes ≡ read → ((count : ℕ) → HasFooter bytes count → ⊥) → read ≡ None
no-footer bytes None is none = refl
no-footer bytes (Some count) is none = absurd (none count (footer-found bytes count is))

-- the bytes with a faulty row read as its fault
row-read-first : (form : RowForm) (bytes : List ℕ) (fault : BlockFault) → length bytes ≤ 2 ^ 29
    → HasFaultyRow form bytes fault → block_read form bytes ≡ Err fault
unfolding block_read rows_read
row-read-first form bytes fault short h =
    let rows = flat_map (row_spelling form) h.good in
    let front = rows ++ h.rest in
    let joined : bytes ≡ front ++ h.end = h.joined ∙ sym (append_assoc rows h.rest h.end) in
    let size : length bytes ≡ length front + length h.end = ap length joined ∙ length-append front h.end in
    let at : length front ≡ rows_end bytes h.count = omega (arith, size, h.ends) in
    let first : take (rows_end bytes h.count) bytes ≡ front = ap (take (rows_end bytes h.count)) joined ∙ take_at front h.end (rows_end bytes h.count) at in
    let place : length rows ≡ 0 + length rows = omega arith in
    let row = row_read-faulty form h.good h.handle (length rows) h.rest fault h.sound.ordered h.faulty in
    let moved = subst (λ (p : ℕ). row_read form p (behind_good h.good h.handle) h.rest ≡ Err fault) place row in
    let reads = subst (λ (b : Before). row_read form (0 + length rows) b h.rest ≡ Err fault) (sym (behind_all-is form h.good h.handle h.leads)) moved in
    let all = rows_from-faulty form h.good (length front) 0 nothing_before h.rest fault (follow-sound form h.good h.sound) (omega arith) (omega arith) h.some reads in
    ap (parts_read form bytes) (footer-read bytes h.count h.footer)
    ∙ ap (λ (t : List ℕ). then_read (rows_read form t) (with_restarts form h.count (drop (rows_end bytes h.count) bytes))) first
    ∙ ap (λ (r : Result (List Spelled) BlockFault). then_read r (with_restarts form h.count (drop (rows_end bytes h.count) bytes))) all

-- the bytes with a faulty restart read as its fault
restart-read-first : (form : RowForm) (bytes : List ℕ) (i : ℕ) → length bytes ≤ 2 ^ 29
    → HasFaultyRestart form bytes i → block_read form bytes ≡ Err (BadRestart i)
unfolding block_read rows_read
restart-read-first form bytes i short h =
    let rows = flat_map (row_spelling form) h.spelled in
    let tail = flat_map (fixed 4) h.restarts ++ h.rest in
    let count = h.count in
    let at : length rows ≡ rows_end bytes count = omega (arith, h.ends) in
    let first : take (rows_end bytes count) bytes ≡ rows = ap (take (rows_end bytes count)) h.joined ∙ take_at rows tail (rows_end bytes count) at in
    let back : drop (rows_end bytes count) bytes ≡ tail = ap (drop (rows_end bytes count)) h.joined ∙ drop_at rows tail (rows_end bytes count) at in
    let all = rows_from-spelled form h.spelled (length rows) 0 nothing_before (follow-sound form h.spelled h.sound) (omega arith) (omega (arith, h.ends, short)) in
    let faulty = restarts_fault-faulty form h.spelled h.restarts count h.rest h.sound.fronts (omega (arith, h.ends, short)) (omega (arith, h.within, h.number))
    (λ some. h.kept (omega (arith, some, h.number))) h.broken in
    ap (parts_read form bytes) (footer-read bytes count h.footer)
    ∙ ap (λ (t : List ℕ). then_read (rows_read form t) (with_restarts form count (drop (rows_end bytes count) bytes))) first
    ∙ ap (λ (r : Result (List Spelled) BlockFault). then_read r (with_restarts form count (drop (rows_end bytes count) bytes))) all
    ∙ ap (λ (d : List ℕ). with_restarts form count d h.spelled) back
    ∙ ap (unless h.spelled) faulty ∙ ap (λ (p : ℕ). Err (BadRestart p)) h.number

-- the first fault of a block is what it reads as
pub first-read : (form : RowForm) (bytes : List ℕ) (fault : BlockFault) → length bytes ≤ 2 ^ 29
    → IsFirstFault form bytes fault → block_read form bytes ≡ Err fault
unfolding block_read
first-read form bytes BadFooter short is = ap (parts_read form bytes) (no-footer bytes (restart_count bytes) refl is)
first-read form bytes (BadRestart i) short is = restart-read-first form bytes i short is
first-read form bytes (BadRow at) short is = row-read-first form bytes (BadRow at) short is
first-read form bytes (BadKind at) short is = row-read-first form bytes (BadKind at) short is
first-read form bytes (BadHandle at) short is = row-read-first form bytes (BadHandle at) short is
first-read form bytes (Disorder at) short is = row-read-first form bytes (Disorder at) short is
first-read form bytes (BadHash at) short is = row-read-first form bytes (BadHash at) short is
