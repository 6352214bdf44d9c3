use Rattle.std.proofs.Common.{rules}
use Rattle.std.proofs.lemmas.List.Sorted.{IsPartitionPoint-from_clause}
use Rattle.sst_bbt_spec.specs.Way.{seek_for_prev_tag}
use Rattle.sst_bbt_read.proofs.RunSearch.{is_stored_before, runs-parted, runs-count}
use Rattle.sst_bbt_read.proofs.search.runs_before_seek_for_prev.Goals as goal

pub returns : goal.returns
returns c =
    let t = seek_for_prev_tag c.args.seq in
    let parted = runs-parted c.args.user.now t c.args.runs.now c.requires in
    let point = IsPartitionPoint-from_clause (is_stored_before c.args.user.now t) _ _ c.partition_point.ensures.partitioned parted (λ a r q k. search rules) in
    runs-count c.args.user.now t _ _ c.requires c.partition_point.ensures.bound point
