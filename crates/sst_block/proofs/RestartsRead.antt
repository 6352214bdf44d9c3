-- Restarts are read without a fault exactly where they keep the rules.
use Rattle.std.proofs.Common.{◌≡◌, ℕ, zero, suc, ◌+◌, ◌*◌, ◌^◌, ◌<◌, ◌==◌, if◌then◌else◌, Bool, true, List, [], ◌∷◌, ◌++◌, length, drop, Option, Some, None, option_and_then, All, refl, sym, subst, ap, ◌∙◌, arith}
use Rattle.std.specs.List.{flat_map}
use Rattle.std.proofs.lemmas.Bool.{eqb-true, cond-true}
use Rattle.std.proofs.lemmas.List.{drop-drop}
use Rattle.std.proofs.lemmas.List.Elements.{All-head, All-tail}
use Rattle.std.proofs.lemmas.Option.{cond_some, option_and_then_some}
use Rattle.sst_num.specs.Spelling.{fixed}
use Rattle.sst_num.specs.NumberReading.{fixed_at}
use Rattle.sst_num.proofs.FixedAt.{fixed_at-fixed, fixed_at-joined}
use Rattle.sst_block.specs.declared.fault.BlockFault.{BlockFault}
use Rattle.sst_block.specs.declared.fault.BlockFault.TheVariants.{BadRestart}
use Rattle.sst_block.specs.BlockReading.{number_where, may_follow, by_number, restart_fault, restarts_fault}

-- each restart may follow the one before it
abbrev pub Rises : List ℕ → ℕ → List ℕ → Type 0
Rises fresh before [] = Unit {0}
Rises fresh before (r ∷ rest) = (may_follow fresh before r ≡ true) × Rises fresh r rest

-- a number that passes is read again, whatever follows
pub number_where-fixed : (test : ℕ → Bool) (v : ℕ) (rest : List ℕ) → v < 2 ^ 32 → test v ≡ true → number_where test (fixed 4 v ++ rest) ≡ Some v
number_where-fixed test v rest fits passes =
    ap (option_and_then (λ (n : ℕ). if test n then Some n else None)) (fixed_at-fixed 4 v rest fits) ∙ cond-true (test v) (Some v) None passes

pub number_where-found : (test : ℕ → Bool) (v : ℕ) (bytes : List ℕ) → number_where test bytes ≡ Some v → (fixed_at 4 bytes ≡ Some v) × (test v ≡ true)
number_where-found test v bytes read =
    option_and_then_some (λ (n : ℕ). if test n then Some n else None) (fixed_at 4 bytes) v read
    (λ n first last.
    let parts = cond_some (test n) n v last in
    (first ∙ ap Some parts.1, ap test (sym parts.1) ∙ parts.0))

-- restarts that rise are read without a fault
restart_fault-spelled : (fresh restarts : List ℕ) (i before : ℕ) (rest : List ℕ) → Rises fresh before restarts → All (λ r. r < 2 ^ 32) restarts
    → restart_fault fresh (length restarts) i before (flat_map (fixed 4) restarts ++ rest) ≡ None
restart_fault-spelled fresh [] i before rest rises fit = refl
restart_fault-spelled fresh (r ∷ restarts) i before rest rises fit =
    let after = flat_map (fixed 4) restarts ++ rest in
    let here = number_where-fixed (may_follow fresh before) r after (All-head (λ r. r < 2 ^ 32) r restarts fit) rises.0 in
    ap (λ (read : Option ℕ). by_number (BadRestart i) read (λ restart. restart_fault fresh (length restarts) (i + 1) restart after)) here
    ∙ restart_fault-spelled fresh restarts (i + 1) r rest rises.1 (All-tail (λ r. r < 2 ^ 32) r restarts fit)

-- restarts of which the first is 0 and the others rise
pub restarts_fault-spelled : (fresh restarts rest : List ℕ) → Rises fresh 0 restarts → All (λ r. r < 2 ^ 32) restarts
    → restarts_fault fresh (length (0 ∷ restarts)) (flat_map (fixed 4) (0 ∷ restarts) ++ rest) ≡ None
restarts_fault-spelled fresh restarts rest rises fit =
    let after = flat_map (fixed 4) restarts ++ rest in
    let here = number_where-fixed (λ first. first == 0) 0 after (omega arith) refl in
    ap (λ (read : Option ℕ). by_number (BadRestart 0) read (λ first. restart_fault fresh (length restarts) 1 first after)) here
    ∙ restart_fault-spelled fresh restarts 1 0 rest rises fit

-- numbers that stand at the front of the bytes and rise
pub record RestartsFound (fresh : List ℕ) (n before : ℕ) (bytes : List ℕ) : Type 0 where
  pub restarts : List ℕ
  pub count : length restarts ≡ n
  pub joined : bytes ≡ flat_map (fixed 4) restarts ++ drop (4 * n) bytes
  pub rises : Rises fresh before restarts

pub by_number-none : (fault : BlockFault) (read : Option ℕ) (next : ℕ → Option BlockFault) → by_number fault read next ≡ None
    → (v : ℕ) × (read ≡ Some v) × (next v ≡ None)
by_number-none fault None next is = cc
by_number-none fault (Some v) next is = (v, refl, is)

-- one number more, at the front
joined-more : (n v : ℕ) (bytes restarts : List ℕ) → fixed_at 4 bytes ≡ Some v
    → drop 4 bytes ≡ flat_map (fixed 4) restarts ++ drop (4 * n) (drop 4 bytes)
    → bytes ≡ flat_map (fixed 4) (v ∷ restarts) ++ drop (4 * suc n) bytes
joined-more n v bytes restarts read rest =
    let sum : 4 + 4 * n ≡ 4 * suc n = omega arith in
    let last : drop (4 * n) (drop 4 bytes) ≡ drop (4 * suc n) bytes = drop-drop (4 * n) 4 bytes ∙ ap (λ (k : ℕ). drop k bytes) sum in
    fixed_at-joined 4 v bytes read ∙ ap (λ (xs : List ℕ). fixed 4 v ++ xs) (rest ∙ ap (λ (xs : List ℕ). flat_map (fixed 4) restarts ++ xs) last)

-- restarts without a fault stand there and rise
restart_fault-found : (n : ℕ) (fresh : List ℕ) (i before : ℕ) (bytes : List ℕ) → restart_fault fresh n i before bytes ≡ None
    → RestartsFound fresh n before bytes
restart_fault-found zero fresh i before bytes is = record { restarts = []; count = refl; joined = refl; rises = tt }
restart_fault-found (suc n) fresh i before bytes is =
    let part = by_number-none (BadRestart i) (number_where (may_follow fresh before) bytes) (λ restart. restart_fault fresh n (i + 1) restart (drop 4 bytes)) is in
    let here = number_where-found (may_follow fresh before) part.0 bytes part.1 in
    let rest = restart_fault-found n fresh (i + 1) part.0 (drop 4 bytes) part.2 in
    record {
      restarts = part.0 ∷ rest.restarts;
      count = ap suc rest.count;
      joined = joined-more n part.0 bytes rest.restarts here.0 rest.joined;
      rises = (here.1, rest.rises);
    }

-- restarts without a fault, of which there is one at least
pub record AllRestartsFound (fresh : List ℕ) (n : ℕ) (bytes : List ℕ) : Type 0 where
  pub restarts : List ℕ
  pub count : length (0 ∷ restarts) ≡ n
  pub joined : bytes ≡ flat_map (fixed 4) (0 ∷ restarts) ++ drop (4 * n) bytes
  pub rises : Rises fresh 0 restarts

pub restarts_fault-found : (n : ℕ) (fresh bytes : List ℕ) → 0 < n → restarts_fault fresh n bytes ≡ None → AllRestartsFound fresh n bytes
restarts_fault-found zero fresh bytes some is = absurd (omega arith)
restarts_fault-found (suc n) fresh bytes some is =
    let part = by_number-none (BadRestart 0) (number_where (λ first. first == 0) bytes) (λ first. restart_fault fresh n 1 first (drop 4 bytes)) is in
    let here = number_where-found (λ first. first == 0) part.0 bytes part.1 in
    let first : part.0 ≡ 0 = eqb-true part.0 0 here.1 in
    let rest = restart_fault-found n fresh 1 part.0 (drop 4 bytes) part.2 in
    let joined = joined-more n part.0 bytes rest.restarts here.0 rest.joined in
    record {
      restarts = rest.restarts;
      count = ap suc rest.count;
      joined = subst (λ (v : ℕ). bytes ≡ flat_map (fixed 4) (v ∷ rest.restarts) ++ drop (4 * suc n) bytes) first joined;
      rises = subst (λ (v : ℕ). Rises fresh v rest.restarts) first rest.rises;
    }
