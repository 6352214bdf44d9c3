-- How far the entries of a table were copied.
use Rattle.std.proofs.Common.{◌≡◌, ℕ, ◌+◌, nat_lt, Bool, true, false, if◌then◌else◌, List, [], ◌∷◌, ◌++◌, length, take, Option, None, Some, option_and_then, slice_get, refl, sym, ap, ◌∙◌, subst, add-one, arith}
use Rattle.std.specs.Option.{is_some}
use Rattle.std.proofs.lemmas.Bool.{lt-ltb, ltb-true, ltb-false}
use Rattle.std.proofs.lemmas.List.{take_all}
use Rattle.std.proofs.lemmas.Option.{slice_get_within, get_or_from_slice_get}
use Rattle.std.proofs.Math.Seq.{take-suc}
use Rattle.sst_key.specs.declared.entries.Entry.{Entry}
use Rattle.sst_key.specs.ListMachine.{first_of, next_of, lands, steps_on}
use Rattle.sst_uses.specs.Uses.{IsCopied}

-- nothing is copied yet, with a cursor at the first entry
pub begun : (entries copied : List Entry) (place : Option ℕ) → copied ≡ [] → place ≡ first_of entries → IsCopied entries copied place
begun [] copied place none at = rw (at, none) refl
begun (e ∷ rest) copied place none at = rw (at, none, lt-ltb 0 (length (e ∷ rest)) (omega arith)) (refl, omega arith)

-- the entries before the i-th and it are those before the next
pub one_on : (entries : List Entry) (i : ℕ) (e : Entry) → slice_get entries i ≡ Some e → take i entries ++ e ∷ [] ≡ take (i + 1) entries
one_on entries i e at =
    let within = slice_get_within entries i e at in
    let is = get_or_from_slice_get entries i e e at in
    sym (rw (add-one, take-suc entries i e, is) refl)

-- the entries up to a place were copied, with a cursor at the next place if it is one of the list
landed : (test : Bool) (entries copied : List Entry) (i : ℕ) → nat_lt i (length entries) ≡ test → copied ≡ take i entries
    → IsCopied entries copied (if test then Some i else None)
landed true entries copied i is same = (same, ltb-true i (length entries) is)
landed false entries copied i is same = same ∙ take_all i entries (ltb-false i (length entries) is)

-- where a move lands is the position after it
pub landed_at : (place : Option ℕ) → (lands place).position ≡ place
landed_at None = refl
landed_at (Some i) = refl

-- an entry more was copied, and the cursor moved on
pub one_more : (entries copied now : List Entry) (place next : Option ℕ) (e : Entry) → IsCopied entries copied place
    → Some e ≡ option_and_then (λ n. slice_get entries n) place → now ≡ copied ++ e ∷ [] → next ≡ (steps_on entries place).position
    → IsCopied entries now next
one_more entries copied now None next e so_far lent more moved = cc
one_more entries copied now (Some i) next e so_far lent more moved =
    let all = more ∙ ap (λ (c : List Entry). c ++ e ∷ []) so_far.0 ∙ one_on entries i e (sym lent) in
    let on = landed (nat_lt (i + 1) (length entries)) entries now (i + 1) refl all in
    subst (IsCopied entries now) (sym (moved ∙ landed_at (next_of entries i))) on

-- an entry more was copied from where a cursor stands, and it moved on
pub copied_on : (entries copied now : List Entry) (place : Option ℕ) (e : Entry) → is_some place ≡ true → ((i : ℕ) → place ≡ Some i → slice_get entries i ≡ Some e)
    → IsCopied entries copied place → now ≡ copied ++ e ∷ [] → IsCopied entries now (steps_on entries place).position
copied_on entries copied now None e some at so_far more = absurd cc
copied_on entries copied now (Some i) e some at so_far more = one_more entries copied now (Some i) (steps_on entries (Some i)).position e so_far (sym (at i refl)) more refl

-- all were copied where the cursor stands nowhere
pub copied_all : (entries copied : List Entry) (place : Option ℕ) → is_some place ≡ false → IsCopied entries copied place → copied ≡ entries
copied_all entries copied None none so_far = so_far
copied_all entries copied (Some i) none so_far = absurd cc
