use Rattle.std.proofs.Common.{◌-◌, ◌≤◌, length, take}
use Rattle.sst_bbt_write.specs.After.{After}
use Rattle.sst_uses.proofs.writing.write_table.Given as goal

abbrev pub invariant-loop-done : goal.invariant-loop-done
invariant-loop-done l = record {
  within : l.done ≤ length l.entries;
  after : After l.writer l.fn.options (take l.done l.entries) l.file.items;
}

abbrev pub decreases-loop-done : goal.decreases-loop-done
decreases-loop-done l = length l.entries - l.done
