use Rattle.std.proofs.Common.{refl, subst, sym}
use Rattle.sst_block.specs.Iter.{WalksIn}
use Rattle.sst_block.proofs.Pausing.{unset, set, nowhere, within-rows, split-rows, resumed}
use Rattle.sst_block.proofs.iter.BlockIter.resume.Goals as goal

pub returns-then-not-place : goal.returns-then-not-place
returns-then-not-place c = record {
  within = λ rows b at paused.
      let none = nowhere c.args.place c.args.form b.spelled at (unset c.args.place.stands c.if-not-place.true) paused.is_at in
      subst (WalksIn c.start.result c.args.form c.args.block.now rows b) (sym none) (c.start.ensures.within rows b);
}

pub row_parts-row-requires-clause-left : goal.row_parts-row-requires-clause-left
row_parts-row-requires-clause-left c =
    let known = c.requires in
    (within-rows c.args.place c.split_whole-parts.result.rows.now c.args.form c.args.block.now known.0 known.1 known.2 (set c.args.place.stands c.if-not-place.false)
    (split-rows c.split_whole-parts.result.rows.now c.args.form c.args.block.now known.0 known.1 (λ count is. (c.split_whole-parts.ensures count is).0)) known.3).0

pub row_parts-row-requires-clause-behind : goal.row_parts-row-requires-clause-behind
row_parts-row-requires-clause-behind c =
    let known = c.requires in
    (within-rows c.args.place c.split_whole-parts.result.rows.now c.args.form c.args.block.now known.0 known.1 known.2 (set c.args.place.stands c.if-not-place.false)
    (split-rows c.split_whole-parts.result.rows.now c.args.form c.args.block.now known.0 known.1 (λ count is. (c.split_whole-parts.ensures count is).0)) known.3).1

pub returns : goal.returns
returns c = record {
  within = λ rows b at paused.
      resumed _ c.args.place c.args.form c.args.block.now rows b at
      (record {
        form_is = refl;
        here = c.row_parts-row.ensures.here;
        after = c.row_parts-row.ensures.after;
        value = c.row_parts-row.ensures.value;
        key = refl;
        handle = refl;
        stands = refl;
      })
      (λ count is. let h = c.split_whole-parts.ensures count is in record { rows = h.0; places = h.1; count_is = h.2 })
      (set c.args.place.stands c.if-not-place.false) paused;
}
