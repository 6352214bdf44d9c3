use Rattle.std.proofs.Common.{arith}
use Rattle.sst_block.proofs.Kept.{length-block}
use Rattle.sst_block.proofs.Held.{kept_short}
use Rattle.sst_block.proofs.builder.BlockBuilder.size_now.Goals as goal

pub overflow_add-result-2 : goal.overflow_add-result-2
overflow_add-result-2 c =
    let h = c.requires.3 in
    let short = kept_short _ _ _ _ _ _ _ _ h.keeps h.fits in
    omega (arith, short.0, short.1)

pub returns : goal.returns
returns c = λ form interval rows h.
    let whole = length-block form interval rows _ _ _ _ _ h.keeps in
    omega (arith, whole)
