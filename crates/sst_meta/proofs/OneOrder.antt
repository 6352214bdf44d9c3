-- The order of the steps of loading decides what is read: the fault of the first step that fails, or the file itself where
-- none fails.
use Rattle.std.proofs.Common.{◌≡◌, ℕ, ◌≤◌, List, Result, Ok, Err, refl, ap, subst, inl, inr, arith}
use Rattle.std.proofs.lemmas.Bool.{cases_lt}
use Rattle.hex.specs.Hex.{IsBytes}
use Rattle.sst_meta.specs.FooterReading.{last_bytes}
use Rattle.sst_meta.specs.LoadReading.{load_read}
use Rattle.sst_meta.specs.LoadSteps.{LoadStep, number_of, FailsAt, FailsFirst}
use Rattle.sst_meta.specs.MetaFaults.{ShowsMeta}
use Rattle.sst_meta.specs.declared.loading.Loaded.{Loaded}
use Rattle.sst_meta.specs.declared.meta_fault.MetaFault.{MetaFault}
use Rattle.sst_meta.proofs.FirstStep.{load-first}
use Rattle.sst_meta.proofs.LoadsRead.{load-sound}
use Rattle.sst_meta.proofs.NoMetaFault.{no-meta_fault}
use Rattle.sst_meta.proofs.StepsFail.{number-once, fails-shows, shows-fails, fails-once}

-- where a file loads, no step fails
pub load-none : (file : List ℕ) (loaded : Loaded) (step : LoadStep) (fault : MetaFault) → load_read file ≡ Ok loaded → FailsAt file step fault → ⊥
load-none file loaded step fault is fails = no-meta_fault file loaded fault (load-sound file loaded is) (fails-shows file step fault fails)

-- two first steps are one, with one fault
first-once : (file : List ℕ) (step other : LoadStep) (a b : MetaFault) → IsBytes (last_bytes 53 file) → FailsFirst file step a → FailsFirst file other b → b ≡ a
first-once file step other a b bytes left right =
    elim (cases_lt (number_of step) (number_of other)) [
      | inl before ↦ absurd (right.first step a before left.fails)
      | inr late ↦
          elim (cases_lt (number_of other) (number_of step)) [
            | inl before ↦ absurd (left.first other b before right.fails)
            | inr early ↦
                let same : number_of other ≡ number_of step = omega (arith, late, early) in
                fails-once file step b a bytes (subst (λ (s : LoadStep). FailsAt file s b) (number-once other step same) right.fails) left.fails
          ]
    ]

-- the fault of the first step that fails is read
pub first-load : (file : List ℕ) (step : LoadStep) (fault : MetaFault) → IsBytes (last_bytes 53 file) → FailsFirst file step fault → load_read file ≡ Err fault
first-load file step fault bytes first =
    elim (load_read file) as (λ (read : Result Loaded MetaFault). load_read file ≡ read → read ≡ Err fault) [
      | Ok loaded ↦ λ is. absurd (load-none file loaded step fault is first.fails)
      | Err other ↦ λ is.
          let found = load-first file other bytes is in
          ap Err (first-once file step found.0 fault other bytes first found.1)
    ] refl

-- a file of which no step fails is loaded
pub load-all : (file : List ℕ) → IsBytes (last_bytes 53 file) → ((step : LoadStep) (fault : MetaFault) → FailsAt file step fault → ⊥)
    → (loaded : Loaded) × (load_read file ≡ Ok loaded)
load-all file bytes none =
    elim (load_read file) as (λ (read : Result Loaded MetaFault). load_read file ≡ read → (loaded : Loaded) × (load_read file ≡ Ok loaded)) [
      | Ok loaded ↦ λ is. (loaded, is)
      | Err fault ↦ λ is. let found = load-first file fault bytes is in absurd (none found.0 fault found.1.fails)
    ] refl

-- a fault that the file shows fails at a step, and no such step is before the first
pub shown-late : (file : List ℕ) (step : LoadStep) (fault other : MetaFault) → FailsFirst file step fault → ShowsMeta file other
    → (later : LoadStep) × FailsAt file later other × (number_of step ≤ number_of later)
shown-late file step fault other first shows =
    let found = shows-fails file other shows in
    elim (cases_lt (number_of found.0) (number_of step)) [
      | inl before ↦ absurd (first.first found.0 other before found.1)
      | inr late ↦ (found.0, found.1, late)
    ]
