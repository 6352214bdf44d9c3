-- The rules of restarts, one by one and of all at once.
use Rattle.std.proofs.Common.{◌≡◌, ℕ, suc, ◌+◌, ◌<◌, ◌≤◌, ◌==◌, nat_lt, nat_eq, if◌then◌else◌, Bool, true, false, List, [], ◌∷◌, ◌++◌, length, length-append, All, Contains, refl, subst, ap, arith}
use Rattle.std.specs.List.{flat_map, list_any}
use Rattle.std.specs.List.Sorted.{IsStrictlyIncreasing}
use Rattle.std.specs.Cmp.{nat_eq_equiv}
use Rattle.std.proofs.lemmas.Bool.{lt-ltb, ltb-true, eqb-true, eq-eqb, and_parts, and_from}
use Rattle.std.proofs.lemmas.List.Elements.{All-nil, All-cons, All-head, All-tail, All-append, All-weaker, All-contains}
use Rattle.std.proofs.lemmas.Map.Views.{list_any-from_Contains, Contains-from_any}
use Rattle.sst_block.specs.declared.row_form.RowForm.{RowForm}
use Rattle.sst_block.specs.Block.{Spelled, SharesFronts, row_spelling, fresh_starts, AreRestarts}
use Rattle.sst_block.proofs.BlockLaws.{All-one_if, rises-cons}
use Rattle.sst_block.proofs.RestartsRead.{Rises}

-- increasing numbers among the fresh places rise
rises-from : (fresh : List ℕ) (before : ℕ) (restarts : List ℕ) → IsStrictlyIncreasing (before ∷ restarts) → All (Contains fresh) restarts
    → Rises fresh before restarts
rises-from fresh before [] rises among = tt
rises-from fresh before (r ∷ rest) rises among =
    let first : before < r = rises 0 (omega arith) in
    let here = list_any-from_Contains nat_eq_equiv r fresh (All-head (Contains fresh) r rest among) in (
      and_from _ _ (lt-ltb before r first) here,
      rises-from fresh r rest (λ k within. let moved : suc k + 1 ≡ suc (k + 1) = omega arith in rw moved at (rises (suc k) (omega arith))) (All-tail (Contains fresh) r rest among),
    )

-- and the other way round
rises-parts : (fresh : List ℕ) (before : ℕ) (restarts : List ℕ) → Rises fresh before restarts
    → IsStrictlyIncreasing (before ∷ restarts) × All (Contains fresh) restarts
rises-parts fresh before [] rises = ((λ k within. absurd (omega arith)), All-nil (Contains fresh))
rises-parts fresh before (r ∷ rest) rises =
    let tests = and_parts _ _ rises.0 in
    let more = rises-parts fresh r rest rises.1 in (
      rises-cons before (r ∷ rest) (λ some. ltb-true before r tests.0) more.0,
      All-cons (Contains fresh) r rest (Contains-from_any eqb-true r fresh tests.1) more.1,
    )

-- the restarts of a block: 0, and others that rise
pub restarts-parts : (form : RowForm) (restarts : List ℕ) (spelled : List Spelled) → AreRestarts form restarts spelled
    → (rest : List ℕ) × (restarts ≡ 0 ∷ rest) × Rises (fresh_starts form 0 spelled) 0 rest
restarts-parts form restarts [] are = ([], are, tt)
restarts-parts form [] (s ∷ more) are = cc
restarts-parts form (first ∷ rest) (s ∷ more) are =
    let zeroth : first ≡ 0 = cc (are.0) in
    let same : first ∷ rest ≡ 0 ∷ rest = ap (λ (x : ℕ). x ∷ rest) zeroth in
    (rest, same, rises-from (fresh_starts form 0 (s ∷ more)) 0 rest (subst (λ (xs : List ℕ). IsStrictlyIncreasing xs) same are.1) (All-tail (Contains (fresh_starts form 0 (s ∷ more))) first rest are.2))

first-fresh : (test : Bool) (at : ℕ) (others : List ℕ) → test ≡ true → Contains ((if test then at ∷ [] else []) ++ others) at
first-fresh true at others is = (0, omega arith, refl)
first-fresh false at others is = cc

-- 0, and others that rise, are the restarts of a block
pub restarts-from_parts : (form : RowForm) (rest : List ℕ) (spelled : List Spelled) → SharesFronts [] spelled → Rises (fresh_starts form 0 spelled) 0 rest
    → AreRestarts form (0 ∷ rest) spelled
restarts-from_parts form [] [] fronts rises = refl
restarts-from_parts form (r ∷ rest) [] fronts rises = let tests = and_parts (nat_lt 0 r) (list_any (nat_eq r) []) rises.0 in cc
restarts-from_parts form rest (s ∷ more) fronts rises =
    let fresh = fresh_starts form 0 (s ∷ more) in
    let parts = rises-parts fresh 0 rest rises in
    let none : s.shared ≡ 0 = omega (arith, fronts.0) in
    (refl, parts.0, All-cons (Contains fresh) 0 rest (first-fresh (s.shared == 0) 0 (fresh_starts form (0 + length (row_spelling form s)) more) (eq-eqb s.shared 0 none)) parts.1)

-- no row begins after the rows
fresh-within : (form : RowForm) (at : ℕ) (spelled : List Spelled) → All (λ r. r ≤ at + length (flat_map (row_spelling form) spelled)) (fresh_starts form at spelled)
fresh-within form at [] = All-nil (λ r. r ≤ at + length (flat_map (row_spelling form) []))
fresh-within form at (s ∷ rest) =
    let size = length-append (row_spelling form s) (flat_map (row_spelling form) rest) in
    let end = at + length (flat_map (row_spelling form) (s ∷ rest)) in
    let others = fresh-within form (at + length (row_spelling form s)) rest in
    All-append (λ r. r ≤ end) (if s.shared == 0 then at ∷ [] else []) (fresh_starts form (at + length (row_spelling form s)) rest)
    (All-one_if (λ r. r ≤ end) (s.shared == 0) at (omega arith))
    (All-weaker (λ r. r ≤ at + length (row_spelling form s) + length (flat_map (row_spelling form) rest)) (λ r. r ≤ end) (λ r h. omega arith) (fresh_starts form (at + length (row_spelling form s)) rest) others)

-- no restart is after the rows
pub restarts-within : (form : RowForm) (n : ℕ) (restarts : List ℕ) (spelled : List Spelled) → Rises (fresh_starts form 0 spelled) 0 restarts
    → length (flat_map (row_spelling form) spelled) < n → All (λ r. r < n) restarts
restarts-within form n restarts spelled rises short =
    let fresh = fresh_starts form 0 spelled in
    All-weaker (Contains fresh) (λ r. r < n)
    (λ r among. let low = All-contains (λ r. r ≤ 0 + length (flat_map (row_spelling form) spelled)) fresh r (fresh-within form 0 spelled) among in omega arith)
    restarts (rises-parts fresh 0 restarts rises).1
