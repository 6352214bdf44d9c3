-- The fault with which a file fails to open is the one of the first step of opening that fails.
use Rattle.std.proofs.Common.{◌≡◌, inl, inr, ℕ, ◌+◌, ◌<◌, List, Some, slice_get, subst, arith}
use Rattle.hex.specs.Hex.{IsBytes}
use Rattle.sst_block.specs.IndexRows.{IndexPair}
use Rattle.sst_meta.specs.BlockFooter.{footer_start}
use Rattle.sst_meta.specs.FooterReading.{last_bytes}
use Rattle.sst_meta.specs.LoadSteps.{LoadStep, FailsFirst}
use Rattle.sst_meta.specs.declared.meta_fault.MetaFault.{MetaFault}
use Rattle.sst_meta.proofs.FirstStep.{load-first}
use Rattle.sst_bbt_spec.specs.IndexLeads.{SaysPairs}
use Rattle.sst_bbt_read.specs.OpeningFaults.{PartsFail, TreeFails, FailsToOpen}
use Rattle.sst_bbt_read.specs.OpeningSteps.{OpenStep, loading, top_block, part_block, data_block, IsEarlier, OpeningFailsAt, OpeningFailsFirst}
use Rattle.sst_bbt_read.specs.declared.bbt_fault.BbtFault.{BbtFault}
use Rattle.sst_bbt_read.proofs.StepRows.{Said, form_of, top_of, PartRow, InnerRow, DataRow, fails-top, row-part, row-data}
use Rattle.sst_bbt_read.proofs.StepsPass.{Passes, HasPart, HasData, LeadsWell, loading-passes, top-passes, part-passes, data-passes, well-part_passes, well-data_passes}
use Rattle.sst_bbt_read.proofs.FirstBad.{AreGoodBefore, InnerBad, first-block, first-part, within-bad}

-- the fault is that of the first step that fails
abbrev pub First : List ℕ → BbtFault → Type 0
First file fault = (step : OpenStep) × OpeningFailsFirst file step fault

-- no earlier step fails
abbrev Clear : List ℕ → OpenStep → Type 0
Clear file step = (earlier : OpenStep) (other : BbtFault) → IsEarlier earlier step → OpeningFailsAt file earlier other → ⊥

-- ---- the steps before a top block, a part and a data block

clear-top : (file : List ℕ) → Said file → Clear file top_block
clear-top file said (loading step) other before fails = loading-passes file said step other fails
clear-top file said top_block other (inl before) fails = omega (arith, before)
clear-top file said top_block other (inr same) fails = omega (arith, same.1)
clear-top file said (part_block k) other (inl before) fails = omega (arith, before)
clear-top file said (part_block k) other (inr same) fails = omega (arith, same.0)
clear-top file said (data_block k l) other (inl before) fails = omega (arith, before)
clear-top file said (data_block k l) other (inr same) fails = omega (arith, same.0)

-- where the rows before a number lead well
clear-part : (file : List ℕ) (said : Said file) (pairs : List IndexPair) (i : ℕ) → SaysPairs file (footer_start file) (form_of file said) (top_of file said) pairs
    → AreGoodBefore (LeadsWell file (form_of file said)) i pairs → Clear file (part_block i)
clear-part file said pairs i says good (loading step) other before fails = loading-passes file said step other fails
clear-part file said pairs i says good top_block other before fails = top-passes file said pairs says other fails
clear-part file said pairs i says good (part_block k) other (inl before) fails =
    well-part_passes file said pairs k says (λ pair row. good k pair (omega (arith, before)) row) other fails
clear-part file said pairs i says good (part_block k) other (inr same) fails = omega (arith, same.1)
clear-part file said pairs i says good (data_block k l) other (inl before) fails =
    well-data_passes file said pairs k l says (λ pair row. good k pair (omega (arith, before)) row) other fails
clear-part file said pairs i says good (data_block k l) other (inr same) fails = omega (arith, same.1)

-- a step passes under another number that is the same
moved : (file : List ℕ) (step : ℕ → OpenStep) (i k : ℕ) (other : BbtFault) → k + 2 ≡ i + 2 → Passes file (step i) → OpeningFailsAt file (step k) other → ⊥
moved file step i k other same passes fails =
    let is : k ≡ i = omega (arith, same) in
    passes other (subst (λ (n : ℕ). OpeningFailsAt file (step n) other) is fails)

-- where the part passes too, and the data blocks before a number
clear-data : (file : List ℕ) (i j : ℕ) → Clear file (part_block i) → Passes file (part_block i) → ((l : ℕ) → l < j → Passes file (data_block i l))
    → Clear file (data_block i j)
clear-data file i j clear part blocks (loading step) other before fails = clear (loading step) other (inl (omega arith)) fails
clear-data file i j clear part blocks top_block other before fails = clear top_block other (inl (omega arith)) fails
clear-data file i j clear part blocks (part_block k) other (inl before) fails = clear (part_block k) other (inl before) fails
clear-data file i j clear part blocks (part_block k) other (inr same) fails = moved file part_block i k other same.0 part fails
clear-data file i j clear part blocks (data_block k l) other (inl before) fails = clear (data_block k l) other (inl before) fails
clear-data file i j clear part blocks (data_block k l) other (inr same) fails = moved file (λ n. data_block n l) i k other same.0 (blocks l (omega (arith, same.1))) fails

-- ---- the walk

-- a row of the top block is one
row-once : (P : IndexPair → Type 0) (pairs : List IndexPair) (i : ℕ) (a b : IndexPair) → slice_get pairs i ≡ Some a → slice_get pairs i ≡ Some b → P a → P b
row-once P pairs i a b left right holds = let same : a ≡ b = cc in subst P same holds

-- the first data block that is bad
data-first : (file : List ℕ) (said : Said file) (pairs : List IndexPair) (i : ℕ) (pair : IndexPair) (fault : BbtFault)
    → SaysPairs file (footer_start file) (form_of file said) (top_of file said) pairs → slice_get pairs i ≡ Some pair
    → AreGoodBefore (LeadsWell file (form_of file said)) i pairs → InnerBad (form_of file said).parted file (form_of file said) pair fault → First file fault
data-first file said pairs i pair fault says row good bad =
    let form = form_of file said in
    let block = first-block file bad.inner fault bad.fails in
    let row_in : InnerRow form.parted file form pairs i block.i =
    record { pair = pair; row = row; inner = bad.inner; says = bad.says; inner_pair = block.pair; inner_row = block.row } in
    let at : DataRow file form pairs i block.i fault = record { at = row_in; fails = block.bad } in
    let part = part-passes file said pairs i says (λ other there. row-once (HasPart file form) pairs i pair other row there bad.held) in
    let blocks : (l : ℕ) → l < block.i → Passes file (data_block i l) = λ l low.
    let has : HasData file form l pair = (bad.inner, bad.says, λ p inner_row. block.before l p low inner_row) in
    data-passes file said pairs i l says (λ other there. row-once (HasData file form l) pairs i pair other row there has) in
    let first = clear-data file i block.i (clear-part file said pairs i says good) part blocks in
    (data_block i block.i, record { fails = row-data file said pairs i block.i fault says at; first = first })

-- the first part that is bad
part-first : (file : List ℕ) (said : Said file) (pairs : List IndexPair) (fault : BbtFault)
    → SaysPairs file (footer_start file) (form_of file said) (top_of file said) pairs → PartsFail file (footer_start file) (form_of file said) pairs fault → First file fault
part-first file said pairs fault says fails =
    let form = form_of file said in
    let part = first-part file form pairs fault fails in
    elim (within-bad form.parted file form part.pair fault part.bad) [
      | inl bad ↦
          let at : PartRow file form pairs part.i fault = record { parted = bad.0; pair = part.pair; row = part.row; fails = bad.1 } in
          let first = clear-part file said pairs part.i says part.before in
          (part_block part.i, record { fails = row-part file said pairs part.i fault says at; first = first })
      | inr bad ↦ data-first file said pairs part.i part.pair fault says part.row part.before bad
    ]

tree-first : (file : List ℕ) (said : Said file) (fault : BbtFault) → TreeFails file (footer_start file) (form_of file said) (top_of file said) fault → First file fault
tree-first file said fault (inl bad) = (top_block, record { fails = fails-top file said fault bad; first = clear-top file said })
tree-first file said fault (inr later) = part-first file said later.0 fault later.1 later.2

-- ---- a fault of loading

-- of loading only the steps before it are earlier
clear-loading : (file : List ℕ) (step : LoadStep) (wrong : MetaFault) → FailsFirst file step wrong → Clear file (loading step)
clear-loading file step wrong first (loading s) other (inl before) fails = omega (arith, before)
clear-loading file step wrong first (loading s) other (inr same) fails = first.first s fails.0 same.1 fails.2
clear-loading file step wrong first top_block other (inl before) fails = omega (arith, before)
clear-loading file step wrong first top_block other (inr same) fails = omega (arith, same.0)
clear-loading file step wrong first (part_block k) other (inl before) fails = omega (arith, before)
clear-loading file step wrong first (part_block k) other (inr same) fails = omega (arith, same.0)
clear-loading file step wrong first (data_block k l) other (inl before) fails = omega (arith, before)
clear-loading file step wrong first (data_block k l) other (inr same) fails = omega (arith, same.0)

-- the fault with which a file fails to open is that of the first step that fails
pub open-first : (file : List ℕ) (fault : BbtFault) → IsBytes (last_bytes 53 file) → FailsToOpen file fault → First file fault
open-first file fault bytes (inl fails) =
    let found = load-first file fails.0 bytes fails.2 in
    (loading found.0, record { fails = (fails.0, fails.1, found.1.fails); first = clear-loading file found.0 fails.0 found.1 })
open-first file fault bytes (inr fails) = tree-first file (record { loaded = fails.0; meta = fails.1 }) fault fails.2
