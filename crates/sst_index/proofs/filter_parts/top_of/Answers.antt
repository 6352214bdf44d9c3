use Rattle.std.proofs.Common.{arith}
use Rattle.std.proofs.lemmas.Result.{IfOk-weaker}
use Rattle.sst_index.specs.FilterBytes.{leading_pairs}
use Rattle.sst_index.specs.Index.{kept_pairs}
use Rattle.sst_index.specs.IndexBytes.{top_separators}
use Rattle.sst_index.proofs.FilterPairs.{can-lead, leads-more, leads-all, next-near}
use Rattle.sst_index.proofs.filter_parts.top_of.Goals as goal

pub add-requires : goal.add-requires
add-requires c =
    can-lead c.loop-row.top c.args.index.now c.args.flags c.args.interval c.args.base c.args.sizes.now c.loop-row.row c.loop-row.at c.top_key-separator.result.now
    c.requires.ready c.requires.base c.requires.near c.loop-row-test.true c.top_key-separator.ensures c.loop-row.invariant

pub overflow_add-at-in-loop-row : goal.overflow_add-at-in-loop-row
overflow_add-at-in-loop-row c =
    let keys = top_separators c.args.index.now.parts (kept_pairs c.args.flags.user_key c.args.index.now) in
    let near = next-near c.args.flags c.args.interval c.args.base keys c.args.sizes.now c.loop-row.row c.loop-row.at c.loop-row.top
    c.loop-row-test.true c.requires.base c.requires.near c.loop-row.invariant in
    omega (arith, near)

pub loop-row-preserved : goal.loop-row-preserved
loop-row-preserved c =
    let keys = top_separators c.args.index.now.parts (kept_pairs c.args.flags.user_key c.args.index.now) in
    leads-more c.loop-row.top c.add.new.self c.args.flags c.args.interval c.args.base keys c.args.sizes.now c.loop-row.row c.loop-row.at c.top_key-separator.result.now
    c.loop-row-test.true c.top_key-separator.ensures c.loop-row.invariant (λ pairs holds. c.in_ok-add.ensures.ok c.args.flags c.args.interval pairs holds)

pub returns : goal.returns
returns c =
    let keys = top_separators c.args.index.now.parts (kept_pairs c.args.flags.user_key c.args.index.now) in
    IfOk-weaker c.finish.result _ _
    (λ b exact. exact c.args.flags c.args.interval (leading_pairs c.args.base keys c.args.sizes.now)
    (leads-all c.loop-row.top c.args.flags c.args.interval c.args.base keys c.args.sizes.now c.loop-row.row c.loop-row.at c.loop-row-test.false c.loop-row.invariant))
    c.finish.ensures.exact
