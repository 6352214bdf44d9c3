use Rattle.std.proofs.Common.{refl}
use Rattle.sst_tests_blocks.proofs.filter_parts.filter_of_two_parts.Goals as goal

pub two_parts-requires-clause-index : goal.two_parts-requires-clause-index
two_parts-requires-clause-index g c = (_, _, c.in_ok-add_blocks.ensures _ c.in_ok-index.ensures.holds, refl)

pub two_parts-requires-2-clause-index : goal.two_parts-requires-2-clause-index
two_parts-requires-2-clause-index g c = (_, _, c.in_ok-add_blocks-2.ensures _ c.in_ok-index-2.ensures.holds, refl)
