use Rattle.sst_bbt_write.specs.After.{IsInUse}
use Rattle.sst_tests_write.proofs.weight.add_many.Given as goal

abbrev pub invariant-loop-user : goal.invariant-loop-user
invariant-loop-user l = IsInUse l.writer
