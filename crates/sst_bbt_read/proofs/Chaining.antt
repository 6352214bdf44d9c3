-- How a caller chains the calls of a reader.
use Rattle.std.proofs.Common.{◌≡◌, ℕ, List, Option, Some, refl, ap, ◌∙◌}
use Rattle.sst_device.specs.Folder.{Files, file_of}
use Rattle.sst_bbt_read.specs.Positions.{Tells, SameReader}
use Rattle.sst_bbt_read.specs.Seats.{OpenReader}

-- a folder that is the same tells the same file of a reader that has the same name
pub tells-on : (held later : Option Files) (old new : OpenReader) (file : List ℕ) → later ≡ held → new.name ≡ old.name → Tells held old file → Tells later new file
tells-on held later old new file same name told =
    ap (λ (h : Option Files). file_of h new.name) same ∙ ap (λ (n : List ℕ). file_of held n) name ∙ told

pub same-start : (held : Option Files) (r : OpenReader) → SameReader held r r
same-start held r = record { name = refl; seats = (refl, refl); of = λ file told of. of }

-- a reader that is left what it was twice is left what it was
pub same-on : (held later : Option Files) (a b c : OpenReader) → later ≡ held → SameReader held a b → SameReader later b c → SameReader held a c
same-on held later a b c same first second = record {
  name = second.name ∙ first.name;
  seats = (second.seats.0 ∙ first.seats.0, second.seats.1 ∙ first.seats.1);
  of = λ file told of. second.of file (tells-on held later a b file same first.name told) (first.of file told of);
}

-- the folder tells the file of a reader that was opened on it
pub tells-opened : (held later : Option Files) (r : OpenReader) (name file : List ℕ) → later ≡ held → r.name ≡ name → file_of held name ≡ Some file → Tells later r file
tells-opened held later r name file same is told =
    ap (λ (h : Option Files). file_of h r.name) same ∙ ap (λ (n : List ℕ). file_of held n) is ∙ told
