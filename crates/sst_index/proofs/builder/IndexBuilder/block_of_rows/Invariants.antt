use Rattle.std.proofs.Common.{◌-◌, take, drop}
use Rattle.sst_index.specs.Index.{kept_pairs}
use Rattle.sst_index.specs.Top.{HoldsPairs}
use Rattle.sst_index.proofs.builder.IndexBuilder.block_of_rows.Given as goal

-- the block has the pairs of the rows so far
abbrev pub invariant-loop-row : goal.invariant-loop-row
invariant-loop-row l = HoldsPairs l.block l.flags l.self.interval (take (l.row - l.from) (drop l.from (kept_pairs l.flags.user_key l.self)))
