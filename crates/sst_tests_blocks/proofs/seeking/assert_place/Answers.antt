use Rattle.sst_tests_blocks.proofs.seeking.assert_place.Goals as goal

pub key-requires : goal.key-requires
key-requires g c = let (form, rows, b, i, w) = c.requires c.if-there.true in (form, _, rows, b, i, w)
