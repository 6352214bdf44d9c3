use Rattle.std.proofs.Common.{rules}
use Rattle.sst_tests_blocks.proofs.BackWalks.{BackWalk-last, BackWalk-stands, BackWalk-prev}
use Rattle.sst_tests_blocks.proofs.blocks.assert_walk_back.Goals as goal

pub loop-key-init : goal.loop-key-init
loop-key-init g c =
    let r = c.requires in
    BackWalk-last _ _ r.0 (c.last-there.ensures.moves r.0 r.1 r.2) (c.last-there.ensures.tells r.0 r.1 r.2)

pub key-requires : goal.key-requires
key-requires g c = BackWalk-stands _ _ c.loop-key.invariant (search rules)

pub value-shown-requires : goal.value-shown-requires
value-shown-requires g c = BackWalk-stands _ _ c.loop-key.invariant (search rules)

pub prev-there-requires : goal.prev-there-requires
prev-there-requires g c = BackWalk-stands _ _ c.loop-key.invariant (search rules)

pub loop-key-preserved : goal.loop-key-preserved
loop-key-preserved g c =
    BackWalk-prev _ _ _ _ c.loop-key.invariant (search rules) c.prev-there.ensures.moves c.prev-there.ensures.tells
