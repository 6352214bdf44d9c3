use Rattle.std.proofs.Common.{rules}
use Rattle.std.proofs.lemmas.List.Sorted.{IsPartitionPoint-from_clause}
use Rattle.sst_key.specs.ListMachine.{is_before_target}
use Rattle.sst_bbt_read.proofs.ListSearch.{before-parted, before-count}
use Rattle.sst_bbt_read.proofs.search.below.Goals as goal

pub returns-clause-count : goal.returns-clause-count
returns-clause-count c =
    let parted = before-parted c.args.user.now c.args.seq c.args.entries.now c.requires in
    let point = IsPartitionPoint-from_clause (is_before_target c.args.user.now c.args.seq) _ _ c.partition_point.ensures.partitioned parted (λ a r q k. search rules) in
    before-count c.args.user.now c.args.seq _ _ c.requires c.partition_point.ensures.bound point
