use Rattle.std.proofs.Common.{◌-◌}
use Rattle.sst_index.specs.Index.{kept_pairs}
use Rattle.sst_index.specs.Parted.{ArePut}
use Rattle.sst_index.proofs.builder.IndexBuilder.put_parts.Given as goal

-- the partitions of the rows so far are put
abbrev pub invariant-loop-from : goal.invariant-loop-from
invariant-loop-from l = ArePut l.flags l.self.interval l.self.parts l.base (kept_pairs l.flags.user_key l.self) l.from l.fn.out.items l.out.items l.top

abbrev pub decreases-loop-from : goal.decreases-loop-from
decreases-loop-from l = l.count - l.from
