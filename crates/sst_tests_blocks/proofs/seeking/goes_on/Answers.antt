use Rattle.std.proofs.Common.{◌+◌}
use Rattle.sst_tests_blocks.proofs.BlockWalks.{goes-over}
use Rattle.sst_tests_blocks.proofs.seeking.goes_on.Goals as goal

pub returns-then-not-there : goal.returns-then-not-there
returns-then-not-there c =
    let (rows, place, w) = c.requires.walks in
    goes-over _ rows 0 _ (c.first.ensures.tells rows place w) (c.first.ensures.moves rows place w)

pub next-requires : goal.next-requires
next-requires c = c.requires.there c.if-not-there.false

pub returns : goal.returns
returns c =
    let (rows, i, w) = c.requires.there c.if-not-there.false in
    goes-over _ rows (i + 1) _ (c.next.ensures.tells rows i w) (c.next.ensures.moves rows i w)
