-- What printing a text comes to.
use Rattle.std.specs.Prelude.{◌≡◌, ◌⊎◌, ℕ, List, take, Option}
use Rattle.std.specs.Io.KnownBytes.{append_known}
use Rattle.sst_device.specs.Outside.{CountsFaults}
use Rattle.sst_cli.specs.Behaviour.{IsFault, Outcome}
use Rattle.sst_cli.specs.declared.status.Status.{Status}
use Rattle.sst_cli.specs.declared.status.Status.TheVariants.{Device}

-- the whole text was printed, the status is the one that goes with it, and the sink counted nothing
-- Pinned by: run.ends
pub record IsPrintedWhole (result : Status) (outcome : Outcome) (old new : Option (List ℕ)) (before now : ℕ) : Type 0 where
  pub ends : result ≡ outcome.status
  pub printed : new ≡ append_known old outcome.text
  pub quiet : now ≡ before

-- a fault came, which the sink counted if it failed; a prefix of the text was printed
-- Pinned by: run.device, run.printed
pub record IsPrintedShort (result : Status) (outcome : Outcome) (old new : Option (List ℕ)) (before now : ℕ) : Type 0 where
  pub ends : IsFault result
  pub count : ℕ
  pub printed : new ≡ append_known old (take count outcome.text)
  pub faults : CountsFaults (result ≡ Device) before now

-- the text was printed with its status, or a fault cut it short
-- Pinned by: run.ends, run.printed
abbrev pub IsPrinted : Status → Outcome → Option (List ℕ) → Option (List ℕ) → ℕ → ℕ → Type 0
IsPrinted result outcome old new before now =
    IsPrintedWhole result outcome old new before now ⊎ IsPrintedShort result outcome old new before now

-- the whole text was printed, or a fault cut it short
-- Pinned by: run.printed
abbrev pub Prints : Status → List ℕ → Option (List ℕ) → Option (List ℕ) → Type 0
Prints result text old new =
    (new ≡ append_known old text) ⊎ (IsFault result × ((n : ℕ) × (new ≡ append_known old (take n text))))
