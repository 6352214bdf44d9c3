-- The restart that is read as a fault is the first that breaks a rule.
use Rattle.std.proofs.Common.{◌≡◌, ◌⊎◌, inl, inr, ℕ, zero, suc, ◌+◌, ◌^◌, ◌<◌, ◌==◌, Bool, true, List, [], ◌∷◌, ◌++◌, length, drop, Option, Some, None, All, refl, sym, subst, ap, ◌∙◌, arith}
use Rattle.std.specs.List.{flat_map}
use Rattle.std.proofs.lemmas.Bool.{eqb-true, eq-eqb}
use Rattle.std.proofs.lemmas.List.Elements.{All-head, All-tail}
use Rattle.sst_num.specs.Spelling.{fixed}
use Rattle.sst_num.specs.NumberReading.{fixed_at}
use Rattle.sst_num.proofs.FixedAt.{fixed_at-found, fixed_at-joined}
use Rattle.sst_block.specs.declared.row_form.RowForm.{RowForm}
use Rattle.sst_block.specs.declared.fault.BlockFault.{BlockFault}
use Rattle.sst_block.specs.declared.fault.BlockFault.TheVariants.{BadRestart}
use Rattle.sst_block.specs.Block.{Spelled, SharesFronts, row_spelling, fresh_starts, AreRestarts}
use Rattle.sst_block.specs.BlockReading.{number_where, may_follow, by_number, restart_fault, restarts_fault}
use Rattle.sst_block.proofs.RestartsRead.{Rises, number_where-fixed, number_where-found}
use Rattle.sst_block.proofs.RestartRules.{restarts-parts, restarts-from_parts, restarts-within}

-- the last of some numbers, or the one before them
abbrev pub last_number : ℕ → List ℕ → ℕ
last_number before [] = before
last_number before (r ∷ rest) = last_number r rest

rises-push : (fresh : List ℕ) (before : ℕ) (restarts : List ℕ) (r : ℕ) → Rises fresh before restarts
    → may_follow fresh (last_number before restarts) r ≡ true → Rises fresh before (restarts ++ r ∷ [])
rises-push fresh before [] r rises may = (may, tt)
rises-push fresh before (first ∷ restarts) r rises may = (rises.0, rises-push fresh first restarts r rises.1 may)

rises-last : (fresh : List ℕ) (before : ℕ) (restarts : List ℕ) (r : ℕ) → Rises fresh before (restarts ++ r ∷ [])
    → may_follow fresh (last_number before restarts) r ≡ true
rises-last fresh before [] r rises = rises.0
rises-last fresh before (first ∷ restarts) r rises = rises-last fresh first restarts r rises.1

by_number-some : (f : BlockFault) (read : Option ℕ) (next : ℕ → Option BlockFault) (fault : BlockFault) → by_number f read next ≡ Some fault
    → ((read ≡ None) × (f ≡ fault)) ⊎ ((v : ℕ) × (read ≡ Some v) × (next v ≡ Some fault))
by_number-some f None next fault is = inl (refl, cc)
by_number-some f (Some v) next fault is = inr (v, refl, is)

-- numbers that rise stand at the front of the bytes, and then none that may follow
record RestartEnd (fresh : List ℕ) (n i before : ℕ) (bytes : List ℕ) (fault : BlockFault) : Type 0 where
  restarts : List ℕ
  rest : List ℕ
  joined : bytes ≡ flat_map (fixed 4) restarts ++ rest
  rises : Rises fresh before restarts
  within : length restarts < n
  fault_is : BadRestart (i + length restarts) ≡ fault
  none : number_where (may_follow fresh (last_number before restarts)) rest ≡ None

restart-end : (n : ℕ) (fresh : List ℕ) (i before : ℕ) (bytes : List ℕ) (fault : BlockFault) → restart_fault fresh n i before bytes ≡ Some fault
    → RestartEnd fresh n i before bytes fault
restart-end zero fresh i before bytes fault is = cc
restart-end (suc n) fresh i before bytes fault is =
    elim (by_number-some (BadRestart i) (number_where (may_follow fresh before) bytes) (λ restart. restart_fault fresh n (i + 1) restart (drop 4 bytes)) fault is) [
      | inl here ↦
          let start : i + 0 ≡ i = omega arith in
          record {
            restarts = [];
            rest = bytes;
            joined = refl;
            rises = tt;
            within = omega arith;
            fault_is = ap BadRestart start ∙ here.1;
            none = here.0;
          }
      | inr later ↦
          let v : ℕ = later.0 in
          let found = number_where-found (may_follow fresh before) v bytes later.1 in
          let more = restart-end n fresh (i + 1) v (drop 4 bytes) fault later.2 in
          let place : i + length (v ∷ more.restarts) ≡ i + 1 + length more.restarts = omega arith in
          record {
            restarts = v ∷ more.restarts;
            rest = more.rest;
            joined = fixed_at-joined 4 v bytes found.0 ∙ ap (λ (xs : List ℕ). fixed 4 v ++ xs) more.joined;
            rises = (found.1, more.rises);
            within = omega (arith, more.within);
            fault_is = ap BadRestart place ∙ more.fault_is;
            none = more.none;
          }
    ]

-- restarts that keep the rules stand at the front of the bytes, and then none that keeps them
pub record RestartsEnd (form : RowForm) (spelled : List Spelled) (n : ℕ) (bytes : List ℕ) (fault : BlockFault) : Type 0 where
  pub restarts : List ℕ
  pub rest : List ℕ
  pub joined : bytes ≡ flat_map (fixed 4) restarts ++ rest
  pub within : length restarts < n
  pub fault_is : BadRestart (length restarts) ≡ fault
  pub kept : 0 < length restarts → AreRestarts form restarts spelled
  pub broken : (restart : ℕ) (after : List ℕ) → restart < 2 ^ 32 → rest ≡ fixed 4 restart ++ after → AreRestarts form (restarts ++ restart ∷ []) spelled → ⊥

-- a number that may stand there is read
no-number : (test : ℕ → Bool) (bytes : List ℕ) (v : ℕ) (after : List ℕ) → number_where test bytes ≡ None → v < 2 ^ 32
    → bytes ≡ fixed 4 v ++ after → test v ≡ true → ⊥
no-number test bytes v after none fits joined passes =
    let read : number_where test bytes ≡ Some v = ap (number_where test) joined ∙ number_where-fixed test v after fits passes in
    cc

first-broken : (form : RowForm) (spelled : List Spelled) (bytes : List ℕ) → number_where (λ first. first == 0) bytes ≡ None
    → (restart : ℕ) (after : List ℕ) → restart < 2 ^ 32 → bytes ≡ fixed 4 restart ++ after → AreRestarts form (restart ∷ []) spelled → ⊥
first-broken form spelled bytes none restart after fits joined are =
    let parts = restarts-parts form (restart ∷ []) spelled are in
    let same : restart ∷ [] ≡ 0 ∷ parts.0 = parts.1 in
    let zeroth : restart ≡ 0 = cc in
    no-number (λ first. first == 0) bytes restart after none fits joined (eq-eqb restart 0 zeroth)

later-broken : (form : RowForm) (spelled : List Spelled) (restarts bytes : List ℕ)
    → number_where (may_follow (fresh_starts form 0 spelled) (last_number 0 restarts)) bytes ≡ None
    → (restart : ℕ) (after : List ℕ) → restart < 2 ^ 32 → bytes ≡ fixed 4 restart ++ after → AreRestarts form (0 ∷ (restarts ++ restart ∷ [])) spelled → ⊥
later-broken form spelled restarts bytes none restart after fits joined are =
    let fresh = fresh_starts form 0 spelled in
    let parts = restarts-parts form (0 ∷ (restarts ++ restart ∷ [])) spelled are in
    let whole : 0 ∷ (restarts ++ restart ∷ []) ≡ 0 ∷ parts.0 = parts.1 in
    let same : parts.0 ≡ restarts ++ restart ∷ [] = cc in
    let rises = subst (λ (xs : List ℕ). Rises fresh 0 xs) same parts.2 in
    no-number (may_follow fresh (last_number 0 restarts)) bytes restart after none fits joined (rises-last fresh 0 restarts restart rises)

pub restarts-end : (form : RowForm) (spelled : List Spelled) (n : ℕ) (bytes : List ℕ) (fault : BlockFault) → SharesFronts [] spelled
    → restarts_fault (fresh_starts form 0 spelled) n bytes ≡ Some fault → RestartsEnd form spelled n bytes fault
restarts-end form spelled zero bytes fault fronts is = cc
restarts-end form spelled (suc n) bytes fault fronts is =
    let fresh = fresh_starts form 0 spelled in
    elim (by_number-some (BadRestart 0) (number_where (λ first. first == 0) bytes) (λ first. restart_fault fresh n 1 first (drop 4 bytes)) fault is) [
      | inl here ↦ record {
        restarts = [];
        rest = bytes;
        joined = refl;
        within = omega arith;
        fault_is = here.1;
        kept = λ some. absurd (omega arith);
        broken = first-broken form spelled bytes here.0;
      }
      | inr later ↦
          let found = number_where-found (λ first. first == 0) later.0 bytes later.1 in
          let zeroth : later.0 ≡ 0 = eqb-true later.0 0 found.1 in
          let read : fixed_at 4 bytes ≡ Some 0 = found.0 ∙ ap Some zeroth in
          let more = restart-end n fresh 1 0 (drop 4 bytes) fault (subst (λ (v : ℕ). restart_fault fresh n 1 v (drop 4 bytes) ≡ Some fault) zeroth later.2) in
          let place : length (0 ∷ more.restarts) ≡ 1 + length more.restarts = omega arith in
          record {
            restarts = 0 ∷ more.restarts;
            rest = more.rest;
            joined = fixed_at-joined 4 0 bytes read ∙ ap (λ (xs : List ℕ). fixed 4 0 ++ xs) more.joined;
            within = omega (arith, more.within);
            fault_is = ap BadRestart place ∙ more.fault_is;
            kept = λ some. restarts-from_parts form more.restarts spelled fronts more.rises;
            broken = later-broken form spelled more.restarts more.rest more.none;
          }
    ]

-- there is no number where none passes
none-passes : (test : ℕ → Bool) (bytes : List ℕ) (read : Option ℕ) → number_where test bytes ≡ read
    → ((v : ℕ) → fixed_at 4 bytes ≡ Some v → test v ≡ true → ⊥) → read ≡ None
none-passes test bytes None is none = refl
none-passes test bytes (Some v) is none = let found = number_where-found test v bytes is in absurd (none v found.0 found.1)

-- a restart that may not follow is read as a fault
restart_fault-faulty : (fresh restarts : List ℕ) (n i before : ℕ) (rest : List ℕ) → Rises fresh before restarts
    → All (λ r. r < 2 ^ 32) restarts → length restarts < n → number_where (may_follow fresh (last_number before restarts)) rest ≡ None
    → restart_fault fresh n i before (flat_map (fixed 4) restarts ++ rest) ≡ Some (BadRestart (i + length restarts))
restart_fault-faulty fresh restarts zero i before rest rises fit within none = absurd (omega arith)
restart_fault-faulty fresh [] (suc n) i before rest rises fit within none =
    let start : i ≡ i + 0 = omega arith in
    ap (λ (read : Option ℕ). by_number (BadRestart i) read (λ restart. restart_fault fresh n (i + 1) restart (drop 4 rest))) none
    ∙ ap (λ (place : ℕ). Some (BadRestart place)) start
restart_fault-faulty fresh (r ∷ restarts) (suc n) i before rest rises fit within none =
    let after = flat_map (fixed 4) restarts ++ rest in
    let here = number_where-fixed (may_follow fresh before) r after (All-head (λ r. r < 2 ^ 32) r restarts fit) rises.0 in
    let place : i + 1 + length restarts ≡ i + length (r ∷ restarts) = omega arith in
    ap (λ (read : Option ℕ). by_number (BadRestart i) read (λ restart. restart_fault fresh n (i + 1) restart after)) here
    ∙ restart_fault-faulty fresh restarts n (i + 1) r rest rises.1 (All-tail (λ r. r < 2 ^ 32) r restarts fit) (omega arith) none
    ∙ ap (λ (p : ℕ). Some (BadRestart p)) place

-- no number at the front keeps the rules with the restarts before it
abbrev NoneKeeps : RowForm → List Spelled → List ℕ → List ℕ → Type 0
NoneKeeps form spelled restarts bytes =
    (restart : ℕ) (after : List ℕ) → restart < 2 ^ 32 → bytes ≡ fixed 4 restart ++ after → AreRestarts form (restarts ++ restart ∷ []) spelled → ⊥

zero-first : (form : RowForm) (spelled : List Spelled) (restarts : List ℕ) (n : ℕ) (rest : List ℕ) → SharesFronts [] spelled
    → length (flat_map (row_spelling form) spelled) < 2 ^ 32 → Rises (fresh_starts form 0 spelled) 0 restarts → length (0 ∷ restarts) < suc n
    → NoneKeeps form spelled (0 ∷ restarts) rest
    → restarts_fault (fresh_starts form 0 spelled) (suc n) (flat_map (fixed 4) (0 ∷ restarts) ++ rest) ≡ Some (BadRestart (length (0 ∷ restarts)))
zero-first form spelled restarts n rest fronts short rises within broken =
    let fresh = fresh_starts form 0 spelled in
    let after = flat_map (fixed 4) restarts ++ rest in
    let test = may_follow fresh (last_number 0 restarts) in
    let none = none-passes test rest (number_where test rest) refl
    (λ v read passes.
    let stands = fixed_at-found 4 v rest read in
    broken v (drop 4 rest) (omega (arith, stands.fits)) (fixed_at-joined 4 v rest read)
    (restarts-from_parts form (restarts ++ v ∷ []) spelled fronts (rises-push fresh 0 restarts v rises passes))) in
    let here = number_where-fixed (λ first. first == 0) 0 after (omega arith) refl in
    let place : 1 + length restarts ≡ length (0 ∷ restarts) = omega arith in
    ap (λ (read : Option ℕ). by_number (BadRestart 0) read (λ first. restart_fault fresh n 1 first after)) here
    ∙ restart_fault-faulty fresh restarts n 1 0 rest rises (restarts-within form (2 ^ 32) restarts spelled rises short) (omega arith) none
    ∙ ap (λ (p : ℕ). Some (BadRestart p)) place

-- the first restart that breaks a rule is read as a fault
pub restarts_fault-faulty : (form : RowForm) (spelled : List Spelled) (restarts : List ℕ) (n : ℕ) (rest : List ℕ) → SharesFronts [] spelled
    → length (flat_map (row_spelling form) spelled) < 2 ^ 32 → length restarts < n → (0 < length restarts → AreRestarts form restarts spelled)
    → ((restart : ℕ) (after : List ℕ) → restart < 2 ^ 32 → rest ≡ fixed 4 restart ++ after → AreRestarts form (restarts ++ restart ∷ []) spelled → ⊥)
    → restarts_fault (fresh_starts form 0 spelled) n (flat_map (fixed 4) restarts ++ rest) ≡ Some (BadRestart (length restarts))
restarts_fault-faulty form spelled restarts zero rest fronts short within kept broken = absurd (omega arith)
restarts_fault-faulty form spelled [] (suc n) rest fronts short within kept broken =
    let fresh = fresh_starts form 0 spelled in
    let none = none-passes (λ first. first == 0) rest (number_where (λ first. first == 0) rest) refl
    (λ v read passes.
    let zeroth : v ≡ 0 = eqb-true v 0 passes in
    let first : fixed_at 4 rest ≡ Some 0 = read ∙ ap Some zeroth in
    broken 0 (drop 4 rest) (omega arith) (fixed_at-joined 4 0 rest first) (restarts-from_parts form [] spelled fronts tt)) in
    ap (λ (read : Option ℕ). by_number (BadRestart 0) read (λ first. restart_fault fresh n 1 first (drop 4 rest))) none
restarts_fault-faulty form spelled (r ∷ restarts) (suc n) rest fronts short within kept broken =
    let parts = restarts-parts form (r ∷ restarts) spelled (kept (omega arith)) in
    let whole : r ∷ restarts ≡ 0 ∷ parts.0 = parts.1 in
    subst (λ (xs : List ℕ). length xs < suc n → NoneKeeps form spelled xs rest
    → restarts_fault (fresh_starts form 0 spelled) (suc n) (flat_map (fixed 4) xs ++ rest) ≡ Some (BadRestart (length xs))) (sym whole)
    (zero-first form spelled parts.0 n rest fronts short parts.2) within broken
