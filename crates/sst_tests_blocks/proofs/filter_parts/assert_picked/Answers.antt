use Rattle.sst_tests_blocks.proofs.filter_parts.assert_picked.Goals as goal

pub pick_part-found-requires-clause-block : goal.pick_part-found-requires-clause-block
pick_part-found-requires-clause-block g c = let found = c.in-Ok.ensures.accepts in (found.0, found.1)
