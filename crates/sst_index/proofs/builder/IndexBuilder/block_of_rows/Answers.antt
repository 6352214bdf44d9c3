use Rattle.std.proofs.Common.{◌≡◌, ◌+◌, ◌-◌, List, ℕ, take, drop, ap, ◌∙◌, subst, arith}
use Rattle.sst_block.specs.IndexRows.{IndexPair}
use Rattle.sst_index.specs.Index.{kept_pairs}
use Rattle.sst_index.specs.Top.{HoldsPairs}
use Rattle.sst_index.proofs.Ready.{ready_takes, pairs_more, at_drop}
use Rattle.sst_index.proofs.builder.IndexBuilder.block_of_rows.Goals as goal

pub add-requires : goal.add-requires
add-requires c =
    let n = c.loop-row.row - c.args.from in
    let pairs = kept_pairs c.args.flags.user_key c.args.self.now in
    ready_takes c.args.self.now c.args.flags c.requires.ready c.loop-row.block c.args.from n _
    (at_drop pairs c.args.from c.loop-row.row n _ (omega (arith, c.loop-row.auto.row)) c.pair.ensures) c.loop-row.invariant

pub loop-row-preserved : goal.loop-row-preserved
loop-row-preserved c =
    let from = c.args.from in
    let n = c.loop-row.row - from in
    let pairs = kept_pairs c.args.flags.user_key c.args.self.now in
    let next : n + 1 ≡ c.loop-row.row + 1 - from = omega (arith, c.loop-row.auto.row) in
    let more = pairs_more (drop from pairs) n _ (at_drop pairs from c.loop-row.row n _ (omega (arith, c.loop-row.auto.row)) c.pair.ensures) in
    subst (λ (l : List IndexPair). HoldsPairs c.add.new.self c.args.flags c.args.self.now.interval l)
    (more ∙ ap (λ (m : ℕ). take m (drop from pairs)) next)
    (c.in_ok-add.ensures.ok c.args.flags c.args.self.now.interval (take n (drop from pairs)) c.loop-row.invariant)
