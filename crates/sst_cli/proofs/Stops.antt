-- Which stop a call passed on.
use Rattle.std.proofs.Common.{◌≡◌, ℕ, Result, Err, sym, ap, ◌∙◌}
use Rattle.sst_device.specs.declared.folder.DevStop.{DevStop}
use Rattle.sst_device.specs.declared.folder.DevStop.TheVariants.{Failed}
use Rattle.sst_cli.specs.declared.input.entries.InputStop.{InputStop}
use Rattle.sst_cli.specs.declared.input.entries.InputStop.TheVariants.{Device, Refused}
use Rattle.sst_cli.specs.declared.input.refusal.Refusal.{Refusal}

-- a stop that was passed on as a failure was one
pub given_stop : (result : Result ℕ InputStop) (passed : InputStop) (stop : DevStop) → result ≡ Err passed → passed ≡ Device stop
    → result ≡ Err (Device Failed) → stop ≡ Failed
given_stop result passed stop is made failed =
    let same : ◌≡◌ {A = Result ℕ InputStop} (Err (Device stop)) (Err (Device Failed)) = sym (ap Err made) ∙ sym is ∙ failed in cc

-- a stop was a failure
pub stop_failed : {T : Type 0} (result : Result T InputStop) (stop : DevStop) → result ≡ Err (Device stop) → result ≡ Err (Device Failed) → stop ≡ Failed
stop_failed {T} result stop is failed =
    let same : ◌≡◌ {A = Result T InputStop} (Err (Device stop)) (Err (Device Failed)) = sym is ∙ failed in cc

-- a stop that is a failure was told as one
pub failed_stop : {T : Type 0} (result : Result T InputStop) (stop : DevStop) → result ≡ Err (Device stop) → stop ≡ Failed → result ≡ Err (Device Failed)
failed_stop result stop is failed = is ∙ ap (λ (s : DevStop). Err (Device s)) failed

-- a refusal is no failure
pub refused_apart : (refusal : Refusal) (stop : DevStop) → ◌≡◌ {A = InputStop} (Refused refusal) (Device stop) → ⊥
refused_apart refusal stop same = cc
