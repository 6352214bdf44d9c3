-- Which calls of an object in memory fail. Its calls are numbered from 1.
-- Pinned by: folders_in_memory
use Rattle.std.specs.Prelude.{◌≡◌, ◌≢◌, ℕ, List, Bool, true, false, eqb, if◌then◌else◌, Option, Result, Err}
use Rattle.std.specs.List.{list_any}
use Rattle.sst_device.specs.Faults.{counted}
use Rattle.sst_device.specs.Folder.{Files, misses}
use Rattle.sst_device.specs.declared.folder.DevStop.{DevStop}
use Rattle.sst_device.specs.declared.folder.DevStop.TheVariants.{Failed}

-- The calls that are to fail, and how many there were.
pub record Plan : Type 0 where
  -- the numbers of the calls that are to fail
  pub fail_at : List ℕ
  -- how many calls were made so far, at most the last value of a u64
  pub calls : ℕ

-- the plan of an object of which no call was made
abbrev pub planned : List ℕ → Plan
planned numbers = record { fail_at = numbers; calls = 0 }

-- the plan after one more call
abbrev pub after_call : Plan → Plan
after_call plan = record { fail_at = plan.fail_at; calls = counted plan.calls 1 }

-- the next call is one of those that are to fail
-- Pinned by: folders_in_memory, outputs_in_memory
abbrev pub fails_next : Plan → Bool
fails_next plan = list_any (λ number. eqb (counted plan.calls 1) number) plan.fail_at

-- the count of faults after the next call: one that is to fail is counted
-- Pinned by: fails.faulted
abbrev pub faults_after : Plan → ℕ → ℕ
faults_after plan faults = if fails_next plan then counted faults 1 else faults

-- the next call, which needs the first `end` bytes of the named file, is to fail or misses
-- Pinned by: folders_in_memory
abbrev pub fails_or_misses : Plan → Option Files → List ℕ → ℕ → Bool
fails_or_misses plan held name end = if fails_next plan then true else misses held name end

-- a call answers Failed exactly where the test holds
-- Pinned by: folders_in_memory
abbrev pub FailsWhere : {A : Type 0} → Bool → Result A DevStop → Type 0
FailsWhere true result = result ≡ Err Failed
FailsWhere false result = result ≢ Err Failed
