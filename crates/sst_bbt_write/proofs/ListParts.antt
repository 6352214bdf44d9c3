-- What a part of a list that is written has of the list, and its last entry.
use Rattle.std.proofs.Common.{◌≡◌, List, [], ◌∷◌, ◌++◌, All, refl, arith}
use Rattle.std.proofs.lemmas.List.Elements.{All-head, All-tail}
use Rattle.std.proofs.lemmas.List.Sums.{sum_by-append}
use Rattle.sst_key.specs.declared.entries.Entry.{Entry}
use Rattle.sst_key.specs.Entry.{key_of, IsBefore, IsOrdered, entry_weight}
use Rattle.sst_block.specs.Builder.{last_key}
use Rattle.sst_bbt_spec.specs.Rows.{rows_of}
use Rattle.sst_bbt_spec.proofs.Separating.{ordered-front, ordered-back}
use Rattle.sst_bbt_spec.proofs.WayLaws.{All-front, All-back}
use Rattle.sst_bbt_write.specs.Written.{IsInLimits, Fits}

-- the last entry of a list with an entry
abbrev pub last_entry : Entry → List Entry → Entry
last_entry e [] = e
last_entry e (f ∷ rest) = last_entry f rest

pub last_key-entry : (e : Entry) (rest : List Entry) → last_key (key_of e) (rows_of rest) ≡ key_of (last_entry e rest)
last_key-entry e [] = refl
last_key-entry e (f ∷ rest) = last_key-entry f rest

pub last_entry-limits : (e : Entry) (rest : List Entry) → All IsInLimits (e ∷ rest) → IsInLimits (last_entry e rest)
last_entry-limits e [] limits = All-head IsInLimits e [] limits
last_entry-limits e (f ∷ rest) limits = last_entry-limits f rest (All-tail IsInLimits e (f ∷ rest) limits)

-- the last entry of a part is before the first behind the part
pub last-before : (e : Entry) (rest : List Entry) (f : Entry) (more : List Entry) → IsOrdered ((e ∷ rest) ++ (f ∷ more)) → IsBefore (last_entry e rest) f
last-before e [] f more ordered = ordered.0
last-before e (x ∷ rest) f more ordered = last-before x rest f more ordered.1

-- the parts of a list that is written are written
pub fits-front : (xs ys : List Entry) → Fits (xs ++ ys) → Fits xs
fits-front xs ys fits =
    record {
      ordered = ordered-front xs ys fits.ordered;
      limits = All-front IsInLimits xs ys fits.limits;
      light = omega (arith, fits.light, sum_by-append entry_weight xs ys);
    }

pub fits-back : (xs ys : List Entry) → Fits (xs ++ ys) → Fits ys
fits-back xs ys fits =
    record {
      ordered = ordered-back xs ys fits.ordered;
      limits = All-back IsInLimits xs ys fits.limits;
      light = omega (arith, fits.light, sum_by-append entry_weight xs ys);
    }
