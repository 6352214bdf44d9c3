use Rattle.std.proofs.Common.{length}
use Rattle.sst_block.specs.Restarts.{open_of}
use Rattle.sst_block.proofs.KeyRooms.{AlongInRoom}
use Rattle.sst_block.proofs.check.check_rows.Given as goal

abbrev pub invariant-loop-left : goal.invariant-loop-left
invariant-loop-left l =
    AlongInRoom l.form (open_of l.fn.restarts) l.rows l.left l.at l.count l.first l.key l.handle (open_of l.restarts)

abbrev pub decreases-loop-left : goal.decreases-loop-left
decreases-loop-left l = length l.left
