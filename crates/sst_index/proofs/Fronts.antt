-- The front of data blocks that may have an index may have one.
use Rattle.std.proofs.Common.{◌≡◌, inr, ℕ, zero, suc, ◌+◌, List, [], ◌∷◌, ◌++◌, take, Some, slice_get, refl, sym, subst, add-one, arith}
use Rattle.std.proofs.Math.Seq.{take-suc}
use Rattle.std.proofs.lemmas.List.Elements.{All-take}
use Rattle.std.proofs.lemmas.List.Sums.{sum_by-take-le}
use Rattle.std.proofs.lemmas.Option.{slice_get_within, get_or_from_slice_get}
use Rattle.sst_index.specs.declared.builder.IndexBuilder.{IndexBuilder}
use Rattle.sst_index.specs.Ends.{BlockEnd, IsEnd, AreEnds, AreFollowed, end_weight}
use Rattle.sst_index.specs.Index.{Holds, CanAdd}
use Rattle.sst_index.specs.IndexBytes.{IndexOptions}

followed-front : (n : ℕ) (ends : List BlockEnd) → AreFollowed ends → AreFollowed (take n ends)
followed-front zero [] followed = tt
followed-front zero (a ∷ ends) followed = tt
followed-front (suc n) [] followed = tt
followed-front (suc zero) (a ∷ []) followed = tt
followed-front (suc (suc n)) (a ∷ []) followed = tt
followed-front (suc zero) (a ∷ b ∷ ends) followed = tt
followed-front (suc (suc n)) (a ∷ b ∷ ends) followed = (followed.0, followed-front (suc n) (b ∷ ends) followed.1)

pub ends-front : (n : ℕ) (ends : List BlockEnd) → AreEnds ends → AreEnds (take n ends)
ends-front n ends stand =
    record {
      each = All-take IsEnd n ends stand.each;
      followed = followed-front n ends stand.followed;
      light = omega (arith, sum_by-take-le end_weight ends n, stand.light);
    }

-- the first n and the next are the first n + 1
pub ends_more : (ends : List BlockEnd) (n : ℕ) (e : BlockEnd) → slice_get ends n ≡ Some e → take n ends ++ e ∷ [] ≡ take (n + 1) ends
ends_more ends n e at =
    let within = slice_get_within ends n e at in
    let is = get_or_from_slice_get ends n e e at in
    sym (rw (add-one, take-suc ends n e, is) refl)

pub stand_next : (ends : List BlockEnd) (n : ℕ) (e : BlockEnd) → AreEnds ends → slice_get ends n ≡ Some e → AreEnds (take n ends ++ e ∷ [])
stand_next ends n e stand at = subst AreEnds (sym (ends_more ends n e at)) (ends-front (n + 1) ends stand)

-- a builder takes the next of data blocks that may have an index
pub takes_next : (b : IndexBuilder) (o : IndexOptions) (ends : List BlockEnd) (n : ℕ) (e : BlockEnd) → Holds b o (take n ends) → AreEnds ends → slice_get ends n ≡ Some e → CanAdd b e
takes_next b o ends n e holds stand at =
    inr (record { options = o; ends = take n ends; holds = holds; stand = stand_next ends n e stand at })
