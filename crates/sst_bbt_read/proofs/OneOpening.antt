-- The order of the steps of opening decides what a file opens to: the fault of the first step that fails, or its parts where
-- none fails.
use Rattle.std.proofs.Common.{◌≡◌, inl, inr, ℕ, List, Some, slice_get, refl, sym, ap, ◌∙◌, subst, arith}
use Rattle.std.proofs.lemmas.Bool.{cases_lt}
use Rattle.hex.specs.Hex.{IsBytes}
use Rattle.sst_block.specs.declared.row_form.RowForm.TheVariants.{Entries, Index}
use Rattle.sst_block.specs.IndexRows.{IndexPair}
use Rattle.sst_meta.specs.BlockFooter.{footer_start}
use Rattle.sst_meta.specs.FooterReading.{last_bytes}
use Rattle.sst_meta.proofs.StepsFail as loads
use Rattle.sst_bbt_spec.specs.BlockBased.{Opens}
use Rattle.sst_bbt_spec.specs.Parts.{Part}
use Rattle.sst_bbt_read.specs.OpeningFaults.{SomeBlockFails, FailsToOpen}
use Rattle.sst_bbt_read.specs.OpeningSteps.{OpenStep, loading, top_block, part_block, data_block, part_of, check_of, IsEarlier, OpeningFailsAt, OpeningFailsFirst}
use Rattle.sst_bbt_read.specs.declared.bbt_fault.BbtFault.{BbtFault}
use Rattle.sst_bbt_read.specs.declared.bbt_fault.BbtFault.TheVariants as bbt
use Rattle.sst_bbt_read.proofs.BlockDecided.{block-one, some-one}
use Rattle.sst_bbt_read.proofs.FirstOpening.{open-first}
use Rattle.sst_bbt_read.proofs.OpeningDecided.{opens-or_fails}
use Rattle.sst_bbt_read.proofs.StepRows.{Known, top-said, known-part, known-data, form_of, top_of, SaysWithin, within-once, top-fails, part-row, data-row}
use Rattle.sst_bbt_read.proofs.StepsPass.{opens-passes}

-- ---- a step fails with one fault

-- a row of a list is one
rows-one : (pairs : List IndexPair) (i : ℕ) (a b : IndexPair) → slice_get pairs i ≡ Some a → slice_get pairs i ≡ Some b → b ≡ a
rows-one pairs i a b left right = cc (left, right)

part-once : (file : List ℕ) (i : ℕ) (a b : BbtFault) → Known file → OpeningFailsAt file (part_block i) a → OpeningFailsAt file (part_block i) b → a ≡ b
part-once file i a b known left right =
    let form = form_of file known.said in
    let x = part-row file known.said known.pairs i a known.says left in
    let y = part-row file known.said known.pairs i b known.says right in
    let pair = rows-one known.pairs i x.pair y.pair x.row y.row in
    let moved = subst (λ (p : IndexPair). SomeBlockFails (Index form.user_key form.delta) file (footer_start file) p.handle b) pair y.fails in
    some-one (Index form.user_key form.delta) file (footer_start file) x.pair.handle a b x.fails moved

data-once : (file : List ℕ) (i j : ℕ) (a b : BbtFault) → Known file → OpeningFailsAt file (data_block i j) a → OpeningFailsAt file (data_block i j) b → a ≡ b
data-once file i j a b known left right =
    let form = form_of file known.said in
    let found = data-row file known.said known.pairs i j a known.says left in
    let other = data-row file known.said known.pairs i j b known.says right in
    let x = found.at in
    let y = other.at in
    let pair = rows-one known.pairs i x.pair y.pair x.row y.row in
    let says = subst (λ (p : IndexPair). SaysWithin form.parted file form p y.inner) pair y.says in
    let inner = within-once form.parted file form x.pair x.inner y.inner x.says says in
    let row = ap (λ (all : List IndexPair). slice_get all j) inner ∙ y.inner_row in
    let inner_pair = rows-one x.inner j x.inner_pair y.inner_pair x.inner_row row in
    let moved = subst (λ (p : IndexPair). SomeBlockFails Entries file (footer_start file) p.handle b) inner_pair other.fails in
    some-one Entries file (footer_start file) x.inner_pair.handle a b found.fails moved

pub fails-once : (file : List ℕ) (step : OpenStep) (a b : BbtFault) → IsBytes (last_bytes 53 file) → OpeningFailsAt file step a → OpeningFailsAt file step b → a ≡ b
fails-once file (loading step) a b bytes left right =
    left.1 ∙ ap bbt.Meta (loads.fails-once file step left.0 right.0 bytes left.2 right.2) ∙ sym right.1
fails-once file top_block a b bytes left right =
    let said = top-said file left.0 left.1 left.2 in
    block-one (Index (form_of file said).user_key (form_of file said).delta) file (footer_start file) (top_of file said) a b
    (top-fails file said a left) (top-fails file said b right)
fails-once file (part_block i) a b bytes left right = part-once file i a b (known-part file i left.0 left.1 left.2) left right
fails-once file (data_block i j) a b bytes left right = data-once file i j a b (known-data left.0.parted file i j left.0 left.1 left.2) left right

-- ---- of two steps one is earlier, or they are one

-- a step is told by its part and its check
place-once : (a b : OpenStep) → part_of a ≡ part_of b → check_of a ≡ check_of b → a ≡ b
place-once (loading s) (loading t) part check = ap loading (loads.number-once s t check)
place-once (loading s) top_block part check = absurd (omega (arith, part))
place-once (loading s) (part_block i) part check = absurd (omega (arith, part))
place-once (loading s) (data_block i j) part check = absurd (omega (arith, part))
place-once top_block (loading t) part check = absurd (omega (arith, part))
place-once top_block top_block part check = refl
place-once top_block (part_block i) part check = absurd (omega (arith, part))
place-once top_block (data_block i j) part check = absurd (omega (arith, part))
place-once (part_block k) (loading t) part check = absurd (omega (arith, part))
place-once (part_block k) top_block part check = absurd (omega (arith, part))
place-once (part_block k) (part_block i) part check = let same : k ≡ i = omega (arith, part) in ap part_block same
place-once (part_block k) (data_block i j) part check = absurd (omega (arith, check))
place-once (data_block k l) (loading t) part check = absurd (omega (arith, part))
place-once (data_block k l) top_block part check = absurd (omega (arith, part))
place-once (data_block k l) (part_block i) part check = absurd (omega (arith, check))
place-once (data_block k l) (data_block i j) part check =
    let same : k ≡ i = omega (arith, part) in
    let inner : l ≡ j = omega (arith, check) in
    ap (λ (n : ℕ). data_block n l) same ∙ ap (data_block i) inner

data Places (a b : OpenStep) : Type 0 where
  earlier : IsEarlier a b → Places a b
  later : IsEarlier b a → Places a b
  one : a ≡ b → Places a b

checks : (a b : OpenStep) → part_of a ≡ part_of b → Places a b
checks a b same =
    elim (cases_lt (check_of a) (check_of b)) [
      | inl before ↦ earlier (inr (same, before))
      | inr late ↦
          elim (cases_lt (check_of b) (check_of a)) [
            | inl before ↦ later (inr (sym same, before))
            | inr early ↦ one (place-once a b same (omega (arith, late, early)))
          ]
    ]

places : (a b : OpenStep) → Places a b
places a b =
    elim (cases_lt (part_of a) (part_of b)) [
      | inl before ↦ earlier (inl before)
      | inr late ↦
          elim (cases_lt (part_of b) (part_of a)) [
            | inl before ↦ later (inl before)
            | inr early ↦ checks a b (omega (arith, late, early))
          ]
    ]

-- ---- the laws

-- two first steps are one, with one fault
first-once : (file : List ℕ) (step second : OpenStep) (a b : BbtFault) → IsBytes (last_bytes 53 file) → OpeningFailsFirst file step a → OpeningFailsFirst file second b → b ≡ a
first-once file step second a b bytes left right =
    elim (places step second) [
      | earlier before ↦ absurd (right.first step a before left.fails)
      | later before ↦ absurd (left.first second b before right.fails)
      | one same ↦ fails-once file step b a bytes (subst (λ (s : OpenStep). OpeningFailsAt file s b) (sym same) right.fails) left.fails
    ]

-- the fault of the first step that fails is that with which the file fails to open
pub first-open : (file : List ℕ) (step : OpenStep) (fault : BbtFault) → IsBytes (last_bytes 53 file) → OpeningFailsFirst file step fault → FailsToOpen file fault
first-open file step fault bytes first =
    elim (opens-or_fails file) [
      | inl good ↦ absurd (opens-passes file good.0 step good.1 fault first.fails)
      | inr bad ↦
          let found = open-first file bad.0 bytes bad.1 in
          subst (FailsToOpen file) (first-once file step found.0 fault bad.0 bytes first found.1) bad.1
    ]

-- where a file opens no step fails
pub open-none : (file : List ℕ) (parts : List Part) (step : OpenStep) (fault : BbtFault) → Opens file parts → OpeningFailsAt file step fault → ⊥
open-none file parts step fault o fails = opens-passes file parts step o fault fails

-- a file of which no step fails opens
pub open-all : (file : List ℕ) → IsBytes (last_bytes 53 file) → ((step : OpenStep) (fault : BbtFault) → OpeningFailsAt file step fault → ⊥)
    → (parts : List Part) × Opens file parts
open-all file bytes none =
    elim (opens-or_fails file) [
      | inl good ↦ good
      | inr bad ↦ let found = open-first file bad.0 bytes bad.1 in absurd (none found.0 bad.0 found.1.fails)
    ]

-- no step that fails is before the first
pub first-order : (file : List ℕ) (step other : OpenStep) (fault wrong : BbtFault) → OpeningFailsFirst file step fault → OpeningFailsAt file other wrong
    → IsEarlier other step → ⊥
first-order file step other fault wrong first fails before = first.first other wrong before fails
