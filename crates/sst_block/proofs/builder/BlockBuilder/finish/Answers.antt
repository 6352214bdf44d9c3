use Rattle.sst_block.proofs.Kept.{block_of-made}
use Rattle.sst_block.proofs.Held.{is_block, is_index}
use Rattle.sst_block.specs.declared.row_form.RowForm.TheVariants.{Index}
use Rattle.sst_block.proofs.builder.BlockBuilder.finish.Goals as goal

pub returns-clause-exact : goal.returns-clause-exact
returns-clause-exact c = λ form interval rows h.
    block_of-made form interval rows _ _ _ _ _ _ _ _ _ h.keeps c.deref.ensures.value c.in_ok-extend_from_slice.ensures.items c.in_ok-put_fixed32.ensures.ok c.from.ensures

pub returns-clause-block : goal.returns-clause-block
returns-clause-block c = λ form interval rows h.
    is_block form interval rows _ h.fits (block_of-made form interval rows _ _ _ _ _ _ _ _ _ h.keeps c.deref.ensures.value c.in_ok-extend_from_slice.ensures.items c.in_ok-put_fixed32.ensures.ok c.from.ensures)

pub returns-clause-index : goal.returns-clause-index
returns-clause-index c = λ user_key delta interval pairs held.
    is_index user_key delta interval held.rows pairs _ held.holds.fits held.says
    (block_of-made (Index user_key delta) interval held.rows _ _ _ _ _ _ _ _ _ held.holds.keeps c.deref.ensures.value c.in_ok-extend_from_slice.ensures.items c.in_ok-put_fixed32.ensures.ok c.from.ensures)
