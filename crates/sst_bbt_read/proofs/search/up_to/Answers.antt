use Rattle.std.proofs.Common.{rules}
use Rattle.std.proofs.lemmas.List.Sorted.{IsPartitionPoint-from_clause}
use Rattle.sst_key.specs.ListMachine.{is_up_to_target}
use Rattle.sst_bbt_read.proofs.ListSearch.{up_to-parted, up_to-count}
use Rattle.sst_bbt_read.proofs.search.up_to.Goals as goal

pub returns-clause-count : goal.returns-clause-count
returns-clause-count c =
    let parted = up_to-parted c.args.user.now c.args.seq c.args.entries.now c.requires in
    let point = IsPartitionPoint-from_clause (is_up_to_target c.args.user.now c.args.seq) _ _ c.partition_point.ensures.partitioned parted (λ a r q k. search rules) in
    up_to-count c.args.user.now c.args.seq _ _ c.requires c.partition_point.ensures.bound point
