use Rattle.std.proofs.Common.{List, take, subst}
use Rattle.sst_index.specs.Ends.{BlockEnd}
use Rattle.sst_index.specs.Index.{Holds}
use Rattle.sst_index.proofs.Fronts.{takes_next, ends_more, stand_next}
use Rattle.sst_tests_blocks.specs.LedBlocks.{ends_of}
use Rattle.sst_tests_blocks.proofs.LedBlocks.{led_at}
use Rattle.sst_tests_blocks.proofs.index.add_blocks.Goals as goal

pub add-requires : goal.add-requires
add-requires c =
    let blocks = c.args.blocks.now in
    let n = c.loop-last.last-index in
    let (o, none) = c.requires.state in
    takes_next c.loop-last.builder o (ends_of blocks) n _ (c.loop-last.invariant o none) c.requires.ends (led_at blocks n _ c.loop-last-test.true)

pub loop-last-preserved : goal.loop-last-preserved
loop-last-preserved c = λ o none.
    let blocks = c.args.blocks.now in
    let n = c.loop-last.last-index in
    let at = led_at blocks n _ c.loop-last-test.true in
    subst (λ (l : List BlockEnd). Holds c.add.new.self o l) (ends_more (ends_of blocks) n _ at)
    (c.in_ok-add.ensures.ok o (take n (ends_of blocks)) (c.loop-last.invariant o none) (stand_next (ends_of blocks) n _ c.requires.ends at))
