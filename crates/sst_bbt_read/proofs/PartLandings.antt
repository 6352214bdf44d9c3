-- How many entries are passed on the way to a target, as the code of a reader finds it.
use Rattle.std.proofs.Common.{◌≡◌, ℕ, ◌+◌, ◌-◌, ◌<◌, ◌≤◌, Bool, true, List, [], length, take, drop, count_by, slice_get, slice_index_or, Option, None, Some, sym, ap, ◌∙◌, subst, inl, inr, arith}
use Rattle.std.proofs.lemmas.Bool.{cases_lt}
use Rattle.std.proofs.lemmas.Option.{slice_get-get_or}
use Rattle.sst_key.specs.declared.entries.Entry.{Entry}
use Rattle.sst_bbt_spec.specs.Way.{IndexedBlock, joined, passed}
use Rattle.sst_bbt_spec.specs.PartWay.{or_all, passed_in}
use Rattle.sst_bbt_read.specs.TableBlocks.{OpenTable, IsOpenTable, IsAlone, IsSeparated, AreEnds, AreSeparators, blocks_from, blocks_of, parts_of, start_at}
use Rattle.sst_bbt_read.specs.declared.kept_table.RunEnd.{RunEnd}
use Rattle.sst_bbt_read.proofs.RunEnds.{between, length-between, between-at, start-between, run-within, ends-between, start-within}
use Rattle.sst_bbt_read.proofs.JoinedParts.{length-blocks, blocks-between, joined-length, joined-between}
use Rattle.sst_bbt_read.proofs.RunSearch.{Falls}
use Rattle.sst_bbt_read.proofs.WayOfParts.{test_of, before, part-has, IsWeight, leads-into, blocks-past, parts-past, leads-to_part}

-- the p-th part of a table: its first block, and the ends of its blocks
pub record InPart (now : OpenTable) (p first : ℕ) (ends : List RunEnd) : Type 0 where
  pub top : RunEnd
  pub at : slice_get now.tops p ≡ Some top
  pub begins : first ≡ start_at 0 now.tops p
  pub are : ends ≡ between now.ends first top.end

-- the i-th block of a part, where its entries begin, and the entries; none where the part has no such block
pub record InBlock (now : OpenTable) (first count i start : ℕ) (items : List Entry) : Type 0 where
  pub low : i ≤ count
  pub begins : start ≡ start_at 0 now.ends (first + i)
  pub are : i < count → (b : RunEnd) → slice_get now.ends (first + i) ≡ Some b → items ≡ between now.entries start b.end
  pub none : count ≤ i → items ≡ []

-- ---- the part

-- its separators are in order
pub ends-separate : (now : OpenTable) (p first : ℕ) (ends : List RunEnd) → IsOpenTable now → InPart now p first ends → AreSeparators ends
ends-separate now p first ends is part =
    subst AreSeparators (sym (part.are ∙ ap (λ (n : ℕ). between now.ends n part.top.end) part.begins))
    (part-has IsSeparated 0 now.tops now.ends p part.top is.within part.at)

-- in a whole index it has one data block, and that block's separator
pub ends-alone : (now : OpenTable) (p first : ℕ) (ends : List RunEnd) → IsOpenTable now → (part : InPart now p first ends) → now.whole ≡ true → IsAlone part.top ends
ends-alone now p first ends is part whole =
    subst (IsAlone part.top) (sym (part.are ∙ ap (λ (n : ℕ). between now.ends n part.top.end) part.begins))
    (part-has IsAlone 0 now.tops now.ends p part.top (is.alone whole) part.at)

-- it begins before it ends, and ends within the blocks
pub part-within : (now : OpenTable) (p first : ℕ) (ends : List RunEnd) → IsOpenTable now → (part : InPart now p first ends)
    → (first ≤ part.top.end) × (part.top.end ≤ length now.ends)
part-within now p first ends is part =
    let within = run-within 0 now.tops (length now.ends) p part.top is.tops part.at in
    (omega (arith, within.1, part.begins), within.2)

pub part-long : (now : OpenTable) (p first : ℕ) (ends : List RunEnd) → IsOpenTable now → (part : InPart now p first ends) → first + length ends ≡ part.top.end
part-long now p first ends is part =
    let within = part-within now p first ends is part in
    let long = ap length part.are ∙ length-between now.ends first part.top.end within.0 within.1 in
    omega (arith, long, within.0)

pub ends-within : (now : OpenTable) (p first : ℕ) (ends : List RunEnd) → IsOpenTable now → InPart now p first ends → first + length ends ≤ length now.ends
ends-within now p first ends is part =
    let long = part-long now p first ends is part in
    let within = part-within now p first ends is part in
    omega (arith, long, within.1)

-- ---- the block

-- a block of a part by its number there
pub record Here (now : OpenTable) (first i : ℕ) (ends : List RunEnd) : Type 0 where
  pub b : RunEnd
  pub inside : slice_get ends i ≡ Some b
  pub at : slice_get now.ends (first + i) ≡ Some b

pub here : (now : OpenTable) (p first i : ℕ) (ends : List RunEnd) → IsOpenTable now → InPart now p first ends → i < length ends → Here now first i ends
here now p first i ends is part low =
    let long = part-long now p first ends is part in
    let b = slice_index_or ends i part.top in
    let inside = slice_get-get_or ends i part.top low in
    record {
      b = b;
      inside = inside;
      at = sym (between-at now.ends first part.top.end i (omega (arith, long, low))) ∙ ap (λ (es : List RunEnd). slice_get es i) (sym part.are) ∙ inside;
    }

-- ---- what is passed

weighs : (now : OpenTable) → IsOpenTable now → IsWeight (start_at 0 now.ends) (blocks_of now)
weighs now is i j low within =
    joined-between now i j is low (omega (arith, within, length-blocks 0 now.ends now.entries))

-- what is passed in the part
inside : (is_before : List ℕ → Bool) (test : Entry → Bool) (now : OpenTable) (p first i start : ℕ) (ends : List RunEnd) (items : List Entry) → IsOpenTable now
    → InPart now p first ends → InBlock now first (length ends) i start items → Falls (test_of is_before) ends → i ≡ before is_before ends
    → start_at 0 now.ends first + or_all (joined (blocks_from (start_at 0 now.ends first) ends now.entries)) (passed is_before test (blocks_from (start_at 0 now.ends first) ends now.entries))
    ≡ start + count_by test items
inside is_before test now p first i start ends items is part block falls count =
    let within = part-within now p first ends is part in
    let long = part-long now p first ends is part in
    let from = start_at 0 now.ends first in
    let to = start_at 0 now.ends part.top.end in
    let are : AreEnds from ends to = subst (λ (es : List RunEnd). AreEnds from es to) (sym part.are)
    (ends-between 0 now.ends (length now.entries) first part.top.end is.ends within.0 within.1) in
    let short : to ≤ length now.entries = start-within 0 now.ends (length now.entries) part.top.end is.ends within.1 in
    let begins : start_at from ends i ≡ start = ap (λ (es : List RunEnd). start_at from es i) part.are
    ∙ start-between 0 now.ends first part.top.end i (omega (arith, long, block.low)) ∙ sym block.begins in
    elim (cases_lt i (length ends)) [
      | inl low ↦
          let h = here now p first i ends is part low in
          let led = leads-into is_before test from ends now.entries to i h.b are short falls count h.inside in
          let items_are = block.are low h.b h.at in
          ap (λ (n : Option ℕ). from + or_all (joined (blocks_from from ends now.entries)) n) led.is
          ∙ led.sum ∙ ap (λ (n : ℕ). n + count_by test (between now.entries n h.b.end)) begins
          ∙ ap (λ (es : List Entry). start + count_by test es) (sym items_are)
      | inr high ↦
          let none : count_by test items ≡ 0 = ap (count_by test) (block.none high) in
          let end : first + i ≡ part.top.end = omega (arith, long, high, block.low) in
          let all = joined-length from ends now.entries to are short in
          let there = block.begins ∙ ap (start_at 0 now.ends) end in
          let whole : from + length (joined (blocks_from from ends now.entries)) ≡ start + count_by test items = omega (arith, all, there, none) in
          ap (λ (n : Option ℕ). from + or_all (joined (blocks_from from ends now.entries)) n) (blocks-past is_before test from ends now.entries (omega (arith, count, high)))
          ∙ whole
    ]

-- what is passed in all
pub passes : (is_before : List ℕ → Bool) (test : Entry → Bool) (now : OpenTable) (p first i start : ℕ) (ends : List RunEnd) (items : List Entry) → IsOpenTable now
    → InPart now p first ends → InBlock now first (length ends) i start items → Falls (test_of is_before) now.tops → p ≡ before is_before now.tops
    → Falls (test_of is_before) ends → i ≡ before is_before ends → Some (start + count_by test items) ≡ passed_in is_before test (parts_of now)
passes is_before test now p first i start ends items is part block tops many falls count =
    let led = leads-to_part is_before test (start_at 0 now.ends) 0 now.tops (blocks_of now) p part.top (weighs now is)
    (subst (AreEnds 0 now.tops) (sym (length-blocks 0 now.ends now.entries)) is.tops) tops many part.at in
    let same : between (blocks_of now) (start_at 0 now.tops p) part.top.end ≡ blocks_from (start_at 0 now.ends first) ends now.entries =
    ap (λ (n : ℕ). between (blocks_of now) n part.top.end) (sym part.begins) ∙ blocks-between 0 now.ends now.entries first part.top.end
    ∙ ap (λ (es : List RunEnd). blocks_from (start_at 0 now.ends first) es now.entries) (sym part.are) in
    let weight = ap (start_at 0 now.ends) (sym part.begins) in
    let within = ap (λ (bs : List IndexedBlock). or_all (joined bs) (passed is_before test bs)) same in
    let sum = led.sum in
    let here = inside is_before test now p first i start ends items is part block falls count in
    let n : start + count_by test items ≡ led.n = omega (arith, sum, weight, within, here) in
    ap (λ (n : ℕ). Some n) n ∙ sym led.is

-- past all parts
pub passes-none : (is_before : List ℕ → Bool) (test : Entry → Bool) (now : OpenTable) (p : ℕ) → p ≡ before is_before now.tops → length now.tops ≤ p
    → None ≡ passed_in is_before test (parts_of now)
passes-none is_before test now p many past = sym (parts-past is_before test 0 now.tops (blocks_of now) (omega (arith, many, past)))

-- ---- what the code of a reader has

-- what is told of a part
pub in_part : (now : OpenTable) (p first : ℕ) (ends : List RunEnd)
    → (top : RunEnd) × (slice_get now.tops p ≡ Some top) × (first ≡ start_at 0 now.tops p) × (ends ≡ take (top.end - first) (drop first now.ends))
    → InPart now p first ends
in_part now p first ends (top, at, begins, are) = record { top = top; at = at; begins = begins; are = are }
