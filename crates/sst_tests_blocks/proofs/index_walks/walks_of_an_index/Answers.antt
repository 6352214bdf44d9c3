use Rattle.std.proofs.Common.{true, false}
use Rattle.sst_index.specs.declared.flags.IndexFlags.{IndexFlags}
use Rattle.sst_tests_blocks.proofs.IndexWalks.{begins, goes-nowhere}
use Rattle.sst_tests_blocks.proofs.index_walks.walks_of_an_index.Goals as goal

pub loop-step-init : goal.loop-step-init
loop-step-init g c =
    let (rows, block, many) = c.in-Ok.ensures.accepts in
    let flags : IndexFlags = record { user_key = false; delta = true } in
    goes-nowhere c.start-walk.result (begins c.start-walk.result flags _ rows block c.start-walk.ensures)
