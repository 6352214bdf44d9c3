-- What the loop over the lines of an input of calls keeps.
use Rattle.std.proofs.Common.{◌≡◌, ℕ, ◌≤◌, List, [], ◌∷◌, ◌++◌, length, Option}
use Rattle.std.proofs.lemmas.List.Elements.{All-push}
use Rattle.sst_key.specs.declared.calls.Call.{Call}
use Rattle.sst_text.specs.CallText.{IsInLimits, AreInLimits}
use Rattle.sst_cli.specs.InputReading.{read_call}
use Rattle.sst_cli.proofs.ReadingOn.{IsReadTo}
use Rattle.sst_cli.proofs.Taken.{IsPast}

-- the calls so far were read, reading the whole input is reading on after them, and at most a piece of it is held
pub record ReadingCalls (start left : Option (List ℕ)) (held : List ℕ) (calls : List Call) (before faults : ℕ) : Type 0 where
  pub said : IsReadTo read_call calls start left
  pub past : IsPast (length calls) start left
  pub short : length held ≤ 65536
  pub limits : AreInLimits calls
  pub few : length calls ≤ 1048576
  pub counts : faults ≡ before

-- one call more in its limits
pub AreInLimits-push : (calls : List Call) (call : Call) → AreInLimits calls → IsInLimits call → AreInLimits (calls ++ call ∷ [])
AreInLimits-push calls call are is = All-push IsInLimits calls call are is
