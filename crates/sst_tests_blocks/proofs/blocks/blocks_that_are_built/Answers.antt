use Rattle.std.proofs.Common.{[], refl, arith}
use Rattle.sst_block.specs.declared.row_form.RowForm.TheVariants.{Names}
use Rattle.sst_block.proofs.Size.{can_add}
use Rattle.sst_tests_blocks.proofs.blocks.blocks_that_are_built.Goals as goal

pub add-requires : goal.add-requires
add-requires g c = can_add _ Names 2 [] _ [] refl c.in_ok-builder.ensures.rows (omega arith, tt) tt (omega arith)

pub add-requires-2 : goal.add-requires-2
add-requires-2 g c =
    let held = c.in_ok-add.ensures.ok Names 2 [] c.in_ok-builder.ensures.rows in
    can_add _ Names 2 _ _ [] refl held (omega arith, tt) (refl, tt) (omega arith)

pub add-requires-3 : goal.add-requires-3
add-requires-3 g c =
    let held = c.in_ok-add.ensures.ok Names 2 [] c.in_ok-builder.ensures.rows in
    let both = c.in_ok-add-2.ensures.ok Names 2 _ held in
    can_add _ Names 2 _ _ [] refl both (omega arith, tt) (refl, (refl, tt)) (omega arith)
