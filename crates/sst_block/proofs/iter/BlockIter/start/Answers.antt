use Rattle.std.proofs.Common.{refl}
use Rattle.sst_block.proofs.Walking.{starts-in, walks-of}
use Rattle.sst_block.proofs.iter.BlockIter.start.Goals as goal

pub returns-clause-walks : goal.returns-clause-walks
returns-clause-walks c = λ rows block.
    walks-of _ _ _ rows block _ (starts-in _ _ _ rows block refl (λ count is. let h = c.split_whole-parts.ensures count is in record { rows = h.0; places = h.1; count_is = h.2 }) refl)

pub returns-clause-within : goal.returns-clause-within
returns-clause-within c = λ rows b. starts-in _ _ _ rows b refl (λ count is. let h = c.split_whole-parts.ensures count is in record { rows = h.0; places = h.1; count_is = h.2 }) refl
