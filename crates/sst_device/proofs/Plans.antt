-- Where a call on an object in memory fails.
use Rattle.std.proofs.Common.{◌≡◌, ◌≢◌, Bool, true, false, IsTrue, Result, Ok, Err, OnOk, refl}
use Rattle.sst_device.specs.declared.folder.DevStop.{DevStop}
use Rattle.sst_device.specs.declared.folder.DevStop.TheVariants.{Failed}
use Rattle.sst_device.specs.Plans.{FailsWhere}

-- a call that answers Failed, where the test holds
pub fails-where : {A : Type 0} (test : Bool) (result : Result A DevStop) → IsTrue test → result ≡ Err Failed → FailsWhere test result
fails-where true result holds failed = failed
fails-where false result holds failed = absurd cc

-- a call that answers anything else, where the test does not hold
pub fails-nowhere : {A : Type 0} (test : Bool) (result : Result A DevStop) → (IsTrue test → ⊥) → result ≢ Err Failed → FailsWhere test result
fails-nowhere true result never other = absurd (never refl)
fails-nowhere false result never other = other

-- where a call is Ok the test does not hold
pub fine-nowhere : {A : Type 0} (test : Bool) (result : Result A DevStop) → FailsWhere test result → OnOk result (test ≡ false)
fine-nowhere true (Ok x) fails = absurd cc
fine-nowhere false (Ok x) fails = refl
fine-nowhere test (Err e) fails = tt
