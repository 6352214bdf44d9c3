-- What the steps of a reading tell: of a test, of a step after another, and of a fault under another name.
use Rattle.std.proofs.Common.{◌≡◌, Result, Ok, Err, refl}
use Rattle.sst_meta.specs.Blocks.{then_open, as_fault}

-- a step that gives something came after one that did
pub then_open-ok : {A B F P : Type 0} (r : Result A F) (next : A → Result B F) (y : B) → then_open r next ≡ Ok y
    → ((x : A) → r ≡ Ok x → next x ≡ Ok y → P) → P
then_open-ok (Ok x) next y e k = k x refl e
then_open-ok (Err fault) next y e k = cc

-- a fault is one of the first step, or of the next
pub then_open-err : {A B F P : Type 0} (r : Result A F) (next : A → Result B F) (fault : F) → then_open r next ≡ Err fault
    → (r ≡ Err fault → P) → ((x : A) → r ≡ Ok x → next x ≡ Err fault → P) → P
then_open-err (Ok x) next fault e first later = later x refl e
then_open-err (Err g) next fault e first later = let same : g ≡ fault = cc in first cc

-- what was found is the same under another name for faults
pub as_fault-ok : {A F G : Type 0} (f : F → G) (r : Result A F) (x : A) → as_fault f r ≡ Ok x → r ≡ Ok x
as_fault-ok f (Ok y) x e = let same : y ≡ x = cc in cc
as_fault-ok f (Err fault) x e = cc

-- a fault has another name
pub as_fault-err : {A F G P : Type 0} (f : F → G) (r : Result A F) (g : G) → as_fault f r ≡ Err g → ((fault : F) → r ≡ Err fault → f fault ≡ g → P) → P
as_fault-err f (Ok y) g e k = cc
as_fault-err f (Err fault) g e k = let same : f fault ≡ g = cc in k fault refl same
