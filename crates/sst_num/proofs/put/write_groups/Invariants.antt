use Rattle.sst_num.proofs.Groups.{Written}
use Rattle.sst_num.proofs.put.write_groups.Given as goal

abbrev pub invariant-loop-at : goal.invariant-loop-at
invariant-loop-at l = Written l.room l.v l.rest l.at
