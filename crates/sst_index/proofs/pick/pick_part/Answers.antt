use Rattle.std.proofs.Common.{refl, sym, ◌∙◌}
use Rattle.sst_block.proofs.OneReading.{some-pairs}
use Rattle.sst_index.specs.Pick.{greatest_tag}
use Rattle.sst_index.specs.Walk.{pairs_before}
use Rattle.sst_index.proofs.PairWalks.{stands}
use Rattle.sst_index.proofs.Picks.{sought-there, sought-nowhere}
use Rattle.sst_index.proofs.pick.pick_part.Goals as goal

pub seek-requires-clause-walks : goal.seek-requires-clause-walks
seek-requires-clause-walks c =
    let flags = c.args.flags in
    let (rows, block) = c.requires.block in
    let (pairs, says) = some-pairs flags.user_key flags.delta c.args.top.now rows block in
    record { flags = flags; bytes = c.args.top.now; pairs = pairs; place = _; walks = c.start-walk.ensures pairs says }

pub returns-then-not-seek : goal.returns-then-not-seek
returns-then-not-seek c =
    record {
      exact = λ pairs says.
          sought-nowhere c.args.flags c.args.top.now pairs c.args.user.now says
          (sym (c.seek.ensures.tells c.args.flags c.args.top.now pairs _ (c.start-walk.ensures pairs says)) ∙ c.if-not-seek.true);
    }

pub pick_here-pick-requires : goal.pick_here-pick-requires
pick_here-pick-requires c =
    let flags = c.args.flags in
    let (rows, block) = c.requires.block in
    let (pairs, says) = some-pairs flags.user_key flags.delta c.args.top.now rows block in
    let w = c.start-walk.ensures pairs says in
    let i = pairs_before flags.user_key c.args.user.now greatest_tag pairs in
    (flags, c.args.top.now, pairs, i, stands _ flags c.args.top.now pairs i c.seek.result c.if-not-seek.false (c.seek.ensures.tells flags c.args.top.now pairs _ w) (c.seek.ensures.moves flags c.args.top.now pairs _ w), refl)

pub returns : goal.returns
returns c =
    record {
      exact = λ pairs says.
          let flags = c.args.flags in
          let w = c.start-walk.ensures pairs says in
          let i = pairs_before flags.user_key c.args.user.now greatest_tag pairs in
          let there = stands _ flags c.args.top.now pairs i c.seek.result c.if-not-seek.false (c.seek.ensures.tells flags c.args.top.now pairs _ w) (c.seek.ensures.moves flags c.args.top.now pairs _ w) in
          sought-there flags c.args.top.now pairs c.args.user.now c.pick_here-pick.result says (c.pick_here-pick.ensures flags c.args.top.now pairs i there);
    }
