use Rattle.std.proofs.Common.{◌+◌}
use Rattle.sst_tests_blocks.proofs.IndexWalks.{goes-to, goes-last, goes-before}
use Rattle.sst_tests_blocks.proofs.index_walks.moved.Goals as goal

pub returns-in-Last : goal.returns-in-Last
returns-in-Last c =
    let w = c.requires.walks in
    goes-last _ w.flags w.bytes w.pairs _ (c.last.ensures.tells w.flags w.bytes w.pairs w.place w.walks) (c.last.ensures.moves w.flags w.bytes w.pairs w.place w.walks)

pub returns-in_default : goal.returns-in_default
returns-in_default c =
    let w = c.requires.walks in
    goes-to _ w.flags w.bytes w.pairs 0 _ (c.first.ensures.tells w.flags w.bytes w.pairs w.place w.walks) (c.first.ensures.moves w.flags w.bytes w.pairs w.place w.walks)

pub returns-in-First : goal.returns-in-First
returns-in-First c =
    let w = c.requires.walks in
    goes-to _ w.flags w.bytes w.pairs 0 _ (c.first-in-First.ensures.tells w.flags w.bytes w.pairs w.place w.walks) (c.first-in-First.ensures.moves w.flags w.bytes w.pairs w.place w.walks)

pub returns-in-Last-step : goal.returns-in-Last-step
returns-in-Last-step c =
    let w = c.requires.walks in
    goes-last _ w.flags w.bytes w.pairs _ (c.last-in-Last-step.ensures.tells w.flags w.bytes w.pairs w.place w.walks) (c.last-in-Last-step.ensures.moves w.flags w.bytes w.pairs w.place w.walks)

pub returns-in-Next : goal.returns-in-Next
returns-in-Next c =
    let (flags, bytes, pairs, i, w) = c.requires.there c.if-not-stands.false in
    goes-to _ flags bytes pairs (i + 1) _ (c.next.ensures.tells flags bytes pairs i w) (c.next.ensures.moves flags bytes pairs i w)

pub returns-in-Prev : goal.returns-in-Prev
returns-in-Prev c =
    let (flags, bytes, pairs, i, w) = c.requires.there c.if-not-stands.false in
    goes-before _ flags bytes pairs i _ (c.prev.ensures.tells flags bytes pairs i w) (c.prev.ensures.moves flags bytes pairs i w)
