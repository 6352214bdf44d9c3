-- The restarts that are met one after another are those that have no fault: the first that isn't met is the first fault.
use Rattle.std.proofs.Common.{◌≡◌, inl, inr, ℕ, zero, suc, ◌+◌, ◌-◌, ◌==◌, ◌<◌, ◌≤◌, Bool, true, false, ◌&&◌, ◌||◌, if◌then◌else◌, List, [], ◌∷◌, ◌++◌, length, drop, Option, Some, None, option_and_then, refl, sym, ap, ◌∙◌, subst, append_assoc, append-nil, length-append, eqb-true, eq-eqb, arith}
use Rattle.std.specs.Prelude.{nat_eq, nat_lt}
use Rattle.std.specs.List.{list_any}
use Rattle.std.proofs.lemmas.Bool.{cases_Bool, cases_lt, cases_eq, lt-ltb, le-ltb, ltb-true, ne_eqb}
use Rattle.std.proofs.lemmas.Bool.Decides.{nat_tests}
use Rattle.std.proofs.lemmas.Option.{none-some}
use Rattle.std.proofs.lemmas.List.Folds.{list_any-append}
use Rattle.sst_num.specs.NumberReading.{fixed_at}
use Rattle.sst_num.proofs.Groups.{varint-some}
use Rattle.sst_block.specs.declared.row_form.RowForm.{RowForm}
use Rattle.sst_block.specs.declared.fault.BlockFault.{BlockFault}
use Rattle.sst_block.specs.declared.fault.BlockFault.TheVariants.{BadRestart}
use Rattle.sst_block.specs.Block.{Spelled, row_spelling, fresh_starts}
use Rattle.sst_block.specs.BlockReading.{may_follow, restart_fault}
use Rattle.sst_block.specs.Restarts.{Open, is_next, met, met_by, open_after}

-- a row takes at least one byte
pub row-some : (form : RowForm) (s : Spelled) → 0 < length (row_spelling form s)
row-some form s = omega (arith, varint-some s.shared, length-append {A = ℕ})

-- of so many restarts some are left: the first of them is the fault
abbrev pub fault_left : ℕ → ℕ → Option BlockFault
fault_left total zero = None
fault_left total (suc n) = Some (BadRestart (total - suc n))

-- no place from here on was seen
pub record Below (seen : List ℕ) (at : ℕ) : Type 0 where
  pub none : (r : ℕ) → at ≤ r → list_any (nat_eq r) seen ≡ false

-- the next of n restarts is none of the places that were seen, if there is one
pub record Unmet (seen : List ℕ) (n last : ℕ) (next : Option ℕ) : Type 0 where
  pub none : (r : ℕ) → 0 < n → next ≡ Some r → last < r → list_any (nat_eq r) seen ≡ false

Below-more : (seen : List ℕ) (at further : ℕ) → at ≤ further → Below seen at → Below seen further
Below-more seen at further h b = record { none = λ r k. b.none r (omega arith) }

other_place : (r at : ℕ) → at < r → nat_eq r at ≡ false
other_place r at h = grind (arith, nat_tests)

seen-one_more : (seen : List ℕ) (r at : ℕ) → list_any (nat_eq r) seen ≡ false → nat_eq r at ≡ false → list_any (nat_eq r) (seen ++ at ∷ []) ≡ false
seen-one_more seen r at a b = rw (list_any-append (nat_eq r) seen (at ∷ []), a, b) refl

Below-push : (seen : List ℕ) (at further : ℕ) → at < further → Below seen at → Below (seen ++ at ∷ []) further
Below-push seen at further h b =
    record { none = λ r k. seen-one_more seen r at (b.none r (omega arith)) (other_place r at (omega arith)) }

-- a restart that may not follow
number-refused : (seen : List ℕ) (n last : ℕ) (next : Option ℕ) → 0 < n → Unmet seen n last next
    → option_and_then (λ n. if may_follow seen last n then Some n else None) next ≡ None
number-refused seen n last None h u = refl
number-refused seen n last (Some r) h u =
    elim (cases_lt last r) [
      | inl after ↦ rw (lt-ltb last r after, u.none r h refl after) refl
      | inr before ↦ rw (le-ltb last r before) refl
    ]

found_among : (seen more : List ℕ) (at : ℕ) → list_any (nat_eq at) (seen ++ at ∷ more) ≡ true
found_among [] more at = rw (eq-eqb at at refl) refl
found_among (x ∷ seen) more at =
    let rest = found_among seen more at in
    elim (nat_eq at x) as (λ b. (b || list_any (nat_eq at) (seen ++ at ∷ more)) ≡ true) [ true ↦ refl | false ↦ rest ]

pub both : (a b : Bool) → (a && b) ≡ true → (a ≡ true) × (b ≡ true)
both true b e = (refl, e)
both false b e = (e, cc)

-- a restart that is the place
record IsNext (at last : ℕ) (next : Option ℕ) : Type 0 where
  is : next ≡ Some at
  after : last < at

next_is : (at last : ℕ) (next : Option ℕ) → is_next at last next ≡ true → IsNext at last next
next_is at last None e = cc
next_is at last (Some r) e =
    let parts = both (r == at) (nat_lt last at) e in
    record { is = ap (λ n. Some n) (eqb-true r at parts.0); after = ltb-true last at parts.1 }

next_not : (seen : List ℕ) (at n last : ℕ) (next : Option ℕ) → is_next at last next ≡ false → Unmet seen n last next → Unmet (seen ++ at ∷ []) n last next
next_not seen at n last None e u = record { none = λ r some same after. absurd (none-some r same) }
next_not seen at n last (Some q) e u =
    record {
      none =
          λ r some same after.
          elim (cases_eq r at) [
            | inl here ↦
                let said : q ≡ at = cc in
                let below : last < at = omega arith in
                let one = eq-eqb q at said in
                let other = lt-ltb last at below in
                cc
            | inr other ↦ seen-one_more seen r at (u.none r some same after) (ne_eqb r at other)
          ];
    }

-- one restart that is met goes on with the next
met-follows : (fresh : List ℕ) (n i at last : ℕ) (left : List ℕ) → IsNext at last (fixed_at 4 left) → list_any (nat_eq at) fresh ≡ true
    → restart_fault fresh (suc n) i last left ≡ restart_fault fresh n (i + 1) at (drop 4 left)
met-follows fresh n i at last left next among =
    rw (next.is, lt-ltb last at next.after, among) refl

-- where no row follows, the next restart is the fault
none_follows : (seen : List ℕ) (n i last : ℕ) (left : List ℕ) → Unmet seen n last (fixed_at 4 left)
    → restart_fault (seen ++ []) n i last left ≡ fault_left (i + n) n
none_follows seen zero i last left u = refl
none_follows seen (suc n) i last left u =
    let same : i ≡ i + suc n - suc n = omega arith in
    rw (append-nil seen, number-refused seen (suc n) last (fixed_at 4 left) (omega arith) u) (ap (λ k. Some (BadRestart k)) same)

-- the restarts that aren't met: which fault stands in them
abbrev fault_of : ℕ → Open → Option BlockFault
fault_of total o = fault_left total o.missing

met-meets : (n at last : ℕ) (left : List ℕ) → is_next at last (fixed_at 4 left) ≡ true
    → met at (record { missing = suc n; last = last; left = left }) ≡ record { missing = n; last = at; left = drop 4 left }
met-meets n at last left e =
    let less : suc n - 1 ≡ n = omega arith in
    rw (lt-ltb 0 (suc n) (omega arith), e, less) refl

met-stays : (n at last : ℕ) (left : List ℕ) → is_next at last (fixed_at 4 left) ≡ false
    → met at (record { missing = n; last = last; left = left }) ≡ record { missing = n; last = last; left = left }
met-stays zero at last left e = refl
met-stays (suc n) at last left e = rw (lt-ltb 0 (suc n) (omega arith), e) refl

-- a row that shares nothing, if what follows is right
fresh-fault : (form : RowForm) (rows : List Spelled) (seen : List ℕ) (at further n i last : ℕ) (left : List ℕ) → Below seen at → Unmet seen n last (fixed_at 4 left)
    → ((n i last : ℕ) (left : List ℕ) → Unmet (seen ++ at ∷ []) n last (fixed_at 4 left)
    → restart_fault ((seen ++ at ∷ []) ++ fresh_starts form further rows) n i last left
    ≡ fault_of (i + n) (open_after form further (record { missing = n; last = last; left = left }) rows))
    → restart_fault ((seen ++ at ∷ []) ++ fresh_starts form further rows) n i last left
    ≡ fault_of (i + n) (open_after form further (met at (record { missing = n; last = last; left = left })) rows)
fresh-fault form rows seen at further zero i last left b u follows =
    follows zero i last left (record { none = λ r some same after. absurd (omega arith) })
fresh-fault form rows seen at further (suc n) i last left b u follows =
    elim (cases_Bool (is_next at last (fixed_at 4 left))) [
      | inl is ↦
          let next = next_is at last (fixed_at 4 left) is in
          let after : Unmet (seen ++ at ∷ []) n at (fixed_at 4 (drop 4 left)) = record { none = λ r some same above. seen-one_more seen r at (b.none r (omega arith)) (other_place r at above) } in
          let among = subst (λ (l : List ℕ). list_any (nat_eq at) l ≡ true) (sym (append_assoc seen (at ∷ []) (fresh_starts form further rows))) (found_among seen (fresh_starts form further rows) at) in
          let total : i + 1 + n ≡ i + suc n = omega arith in
          rw (met-meets n at last left is, sym total)
          (met-follows ((seen ++ at ∷ []) ++ fresh_starts form further rows) n i at last left next among ∙ follows n (i + 1) at (drop 4 left) after)
      | inr not ↦
          rw (met-stays (suc n) at last left not) (follows (suc n) i last left (next_not seen at (suc n) last (fixed_at 4 left) not u))
    ]

by_fresh : (shared at : ℕ) (o : Open) → (shared == 0) ≡ true → met_by shared at o ≡ met at o
by_fresh shared at o e = rw e refl

by_shared : (shared at : ℕ) (o : Open) → (shared == 0) ≡ false → met_by shared at o ≡ o
by_shared shared at o e = rw e refl

starts-fresh : (seen rest : List ℕ) (at shared : ℕ) → (shared == 0) ≡ true
    → seen ++ ((if shared == 0 then at ∷ [] else []) ++ rest) ≡ (seen ++ at ∷ []) ++ rest
starts-fresh seen rest at shared e = rw e (sym (append_assoc seen (at ∷ []) rest))

starts-shared : (rest : List ℕ) (at shared : ℕ) → (shared == 0) ≡ false → (if shared == 0 then at ∷ [] else []) ++ rest ≡ rest
starts-shared rest at shared e = rw e refl

-- the first restart that isn't met is the first that has a fault; `seen` are the places that shared nothing so far
pub open-fault : (form : RowForm) (rows : List Spelled) (seen : List ℕ) (at n i last : ℕ) (left : List ℕ) → Below seen at → Unmet seen n last (fixed_at 4 left)
    → restart_fault (seen ++ fresh_starts form at rows) n i last left
    ≡ fault_of (i + n) (open_after form at (record { missing = n; last = last; left = left }) rows)
open-fault form [] seen at n i last left b u = none_follows seen n i last left u
open-fault form (s ∷ rows) seen at n i last left b u =
    let further = at + length (row_spelling form s) in
    let o : Open = record { missing = n; last = last; left = left } in
    let more : at < further = omega (arith, row-some form s) in
    elim (cases_Bool (s.shared == 0)) [
      | inr shares ↦
          ap (λ (l : List ℕ). restart_fault (seen ++ l) n i last left) (starts-shared (fresh_starts form further rows) at s.shared shares)
          ∙ open-fault form rows seen further n i last left (Below-more seen at further (omega arith) b) u
          ∙ ap (λ (p : Open). fault_of (i + n) (open_after form further p rows)) (sym (by_shared s.shared at o shares))
      | inl fresh ↦
          ap (λ (l : List ℕ). restart_fault l n i last left) (starts-fresh seen (fresh_starts form further rows) at s.shared fresh)
          ∙ fresh-fault form rows seen at further n i last left b u
          (λ m j place others v. open-fault form rows (seen ++ at ∷ []) further m j place others (Below-push seen at further more b) v)
          ∙ ap (λ (p : Open). fault_of (i + n) (open_after form further p rows)) (sym (by_fresh s.shared at o fresh))
    ]
