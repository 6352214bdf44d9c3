use Rattle.std.proofs.Common.{false}
use Rattle.sst_block.proofs.Said.{said-few, signed-few}
use Rattle.sst_block.proofs.row.take_said.Goals as goal

pub returns-then-not-delta-clause-within : goal.returns-then-not-delta-clause-within
returns-then-not-delta-clause-within c = said-few false 0 c.args.before c.args.bytes.now c.take_handle.result c.take_handle.ensures.exact

pub returns-then-shared-eq0-clause-within : goal.returns-then-shared-eq0-clause-within
returns-then-shared-eq0-clause-within c =
    said-few false 0 c.args.before c.args.bytes.now c.take_handle-then-shared-eq0.result c.take_handle-then-shared-eq0.ensures.exact

pub returns-clause-within : goal.returns-clause-within
returns-clause-within c = signed-few c.in_ok-difference.difference c.in_ok-difference.used c.in_ok-difference.ensures.found.0.2
