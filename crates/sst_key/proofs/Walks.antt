-- Rows of calls: what a walk through a whole list answers.
use Rattle.std.proofs.Common.{◌≡◌, ℕ, zero, suc, ◌+◌, Option, Some, None, List, [], ◌∷◌, ◌++◌, length, map, replicate, refl, ap, ◌∙◌, arith, reverse, false, sym, zero-add, add-one}
use Rattle.std.specs.List.{range_with_len}
use Rattle.std.proofs.lemmas.List.{reverse-append}
use Rattle.std.proofs.lemmas.List.FromFn.{map-range_with_len_more}
use Rattle.sst_key.specs.declared.entries.Entry.{Entry}
use Rattle.sst_key.specs.declared.calls.Call.{Call}
use Rattle.sst_key.specs.declared.calls.Call.TheVariants.{First, Last, Next, Prev}
use Rattle.sst_key.specs.declared.calls.Format.{Format}
use Rattle.sst_key.specs.declared.calls.Format.TheVariants.{Block, Plain, Cuckoo}
use Rattle.sst_key.specs.declared.calls.Answer.{Answer}
use Rattle.sst_key.specs.ListMachine.{place_in, place_before, lacks, lands, answer_of, replies_from}
use Rattle.sst_key.proofs.Landings.{in-place, in-no_place}

-- no format lacks First or Next
first-answer : (format : Format) (prefix : ℕ) (entries : List Entry) (position : Option ℕ)
    → answer_of format prefix entries position First ≡ lands (place_in entries 0)
first-answer Block prefix entries position = refl
first-answer Plain prefix entries position = refl
first-answer Cuckoo prefix entries position = refl

next-answer : (format : Format) (prefix : ℕ) (entries : List Entry) (i : ℕ)
    → answer_of format prefix entries (Some i) Next ≡ lands (place_in entries (i + 1))
next-answer Block prefix entries i = refl
next-answer Plain prefix entries i = refl
next-answer Cuckoo prefix entries i = refl

-- the rest of a row goes on from where the first call ends
pub row-step : (format : Format) (prefix : ℕ) (entries : List Entry) (position : Option ℕ) (call : Call) (calls : List Call) (a : Answer)
    → answer_of format prefix entries position call ≡ a
    → replies_from format prefix entries position (call ∷ calls) ≡ a ∷ replies_from format prefix entries a.position calls
row-step format prefix entries position call calls a is =
    ap (λ (b : Answer). b ∷ replies_from format prefix entries b.position calls) is

-- from the place i on, as often as there are places behind it, and once more
walk-on : (format : Format) (prefix : ℕ) (entries : List Entry) (n i : ℕ) → i + suc n ≡ length entries
    → replies_from format prefix entries (Some i) (replicate (suc n) Next)
    ≡ map (λ j. lands (Some j)) (range_with_len (i + 1) n) ++ lands None ∷ []
walk-on format prefix entries zero i whole =
    let past : place_in entries (i + 1) ≡ None = in-no_place entries (i + 1) (omega arith) in
    row-step format prefix entries (Some i) Next [] (lands None) (next-answer format prefix entries i ∙ ap lands past)
walk-on format prefix entries (suc n) i whole =
    let there : place_in entries (i + 1) ≡ Some (i + 1) = in-place entries (i + 1) (omega arith) in
    let rest = walk-on format prefix entries n (i + 1) (omega arith) in
    row-step format prefix entries (Some i) Next (replicate (suc n) Next) (lands (Some (i + 1))) (next-answer format prefix entries i ∙ ap lands there)
    ∙ ap (λ (r : List Answer). lands (Some (i + 1)) ∷ r) rest

pub first-and_next : (format : Format) (prefix : ℕ) (entries : List Entry) (position : Option ℕ) (n : ℕ) → n ≡ length entries
    → replies_from format prefix entries position (First ∷ replicate n Next)
    ≡ map (λ j. lands (Some j)) (range_with_len 0 n) ++ lands None ∷ []
first-and_next format prefix entries position zero whole =
    let past : place_in entries 0 ≡ None = in-no_place entries 0 (omega arith) in
    row-step format prefix entries position First [] (lands None) (first-answer format prefix entries position ∙ ap lands past)
first-and_next format prefix entries position (suc n) whole =
    let there : place_in entries 0 ≡ Some 0 = in-place entries 0 (omega arith) in
    let rest = walk-on format prefix entries n 0 (omega arith) in
    row-step format prefix entries position First (replicate (suc n) Next) (lands (Some 0)) (first-answer format prefix entries position ∙ ap lands there)
    ∙ ap (λ (r : List Answer). lands (Some 0) ∷ r) rest

-- ---- back

last-answer : (format : Format) (prefix : ℕ) (entries : List Entry) (position : Option ℕ) → lacks format Prev ≡ false
    → answer_of format prefix entries position Last ≡ lands (place_before (length entries))
last-answer Block prefix entries position has = refl
last-answer Plain prefix entries position has = cc
last-answer Cuckoo prefix entries position has = refl

prev-answer : (format : Format) (prefix : ℕ) (entries : List Entry) (i : ℕ) → lacks format Prev ≡ false
    → answer_of format prefix entries (Some i) Prev ≡ lands (place_before i)
prev-answer Block prefix entries i has = refl
prev-answer Plain prefix entries i has = cc
prev-answer Cuckoo prefix entries i has = refl

-- the places below n, the last first
abbrev back_from : ℕ → List Answer
back_from n = reverse (map (λ j. lands (Some j)) (range_with_len 0 n))

back_from-suc : (n : ℕ) → back_from (suc n) ≡ lands (Some n) ∷ back_from n
back_from-suc n =
    let more : map (λ j. lands (Some j)) (range_with_len 0 (n + 1)) ≡ map (λ j. lands (Some j)) (range_with_len 0 n) ++ lands (Some n) ∷ []
    = map-range_with_len_more (λ j. lands (Some j)) 0 n n (zero-add n) in
    let one : n + 1 ≡ suc n = add-one n in
    ap back_from (sym one) ∙ ap (λ (r : List Answer). reverse r) more
    ∙ reverse-append (map (λ j. lands (Some j)) (range_with_len 0 n)) (lands (Some n) ∷ [])

-- from the place i back, as often as there are places ahead of it, and once more
walk-back : (format : Format) (prefix : ℕ) (entries : List Entry) (i : ℕ) → lacks format Prev ≡ false
    → replies_from format prefix entries (Some i) (replicate (suc i) Prev) ≡ back_from i ++ lands None ∷ []
walk-back format prefix entries zero has =
    row-step format prefix entries (Some 0) Prev [] (lands None) (prev-answer format prefix entries 0 has)
walk-back format prefix entries (suc i) has =
    let rest = walk-back format prefix entries i has in
    row-step format prefix entries (Some (suc i)) Prev (replicate (suc i) Prev) (lands (Some i)) (prev-answer format prefix entries (suc i) has)
    ∙ ap (λ (r : List Answer). lands (Some i) ∷ r) rest
    ∙ ap (λ (r : List Answer). r ++ lands None ∷ []) (sym (back_from-suc i))

pub last-and_prev : (format : Format) (prefix : ℕ) (entries : List Entry) (position : Option ℕ) (n : ℕ) → n ≡ length entries → lacks format Prev ≡ false
    → replies_from format prefix entries position (Last ∷ replicate n Prev) ≡ back_from n ++ lands None ∷ []
last-and_prev format prefix entries position zero whole has =
    let none : place_before (length entries) ≡ None = ap place_before (sym whole) in
    row-step format prefix entries position Last [] (lands None) (last-answer format prefix entries position has ∙ ap lands none)
last-and_prev format prefix entries position (suc n) whole has =
    let there : place_before (length entries) ≡ Some n = ap place_before (sym whole) in
    let rest = walk-back format prefix entries n has in
    row-step format prefix entries position Last (replicate (suc n) Prev) (lands (Some n)) (last-answer format prefix entries position has ∙ ap lands there)
    ∙ ap (λ (r : List Answer). lands (Some n) ∷ r) rest
    ∙ ap (λ (r : List Answer). r ++ lands None ∷ []) (sym (back_from-suc n))
