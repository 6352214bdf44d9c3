use Rattle.std.proofs.Common.{rules}
use Rattle.sst_block.proofs.Walking.{Moved-stands, Moved-next}
use Rattle.sst_tests_blocks.proofs.blocks.assert_walk.Goals as goal

pub loop-key-init : goal.loop-key-init
loop-key-init g c =
    let r = c.requires in
    record { rows = r.0; i = 0; walks = c.first-there.ensures.moves r.0 r.1 r.2; told = c.first-there.ensures.tells r.0 r.1 r.2 }

pub key-requires : goal.key-requires
key-requires g c = Moved-stands _ _ c.loop-key.invariant (search rules)

pub value-shown-requires : goal.value-shown-requires
value-shown-requires g c = Moved-stands _ _ c.loop-key.invariant (search rules)

pub next-there-requires : goal.next-there-requires
next-there-requires g c = Moved-stands _ _ c.loop-key.invariant (search rules)

pub loop-key-preserved : goal.loop-key-preserved
loop-key-preserved g c =
    Moved-next _ _ _ _ c.loop-key.invariant (search rules) c.next-there.ensures.moves c.next-there.ensures.tells
