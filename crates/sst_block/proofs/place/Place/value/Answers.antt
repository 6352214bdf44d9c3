use Rattle.std.proofs.Common.{◌∙◌, ap, drop, take, ◌-◌, List, ℕ}
use Rattle.sst_block.proofs.NextRow.{row-spelled}
use Rattle.sst_block.proofs.Pausing.{found, split-rows}
use Rattle.sst_block.proofs.place.Place.value.Goals as goal

pub row_parts-requires-clause-left : goal.row_parts-requires-clause-left
row_parts-requires-clause-left c =
    let known = c.requires in
    let held = split-rows c.split_whole.result.rows.now known.0 c.args.block.now known.1 known.2 (λ count is. (c.split_whole.ensures count is).0) in
    (found c.args.self.now c.split_whole.result.rows.now known.0 c.args.block.now known.1 known.2 known.3 held known.4).within

pub row_parts-requires-clause-behind : goal.row_parts-requires-clause-behind
row_parts-requires-clause-behind c =
    let known = c.requires in
    let held = split-rows c.split_whole.result.rows.now known.0 c.args.block.now known.1 known.2 (λ count is. (c.split_whole.ensures count is).0) in
    (found c.args.self.now c.split_whole.result.rows.now known.0 c.args.block.now known.1 known.2 known.3 held known.4).short

pub returns : goal.returns
returns c = λ form rows b i at.
    let held = split-rows c.split_whole.result.rows.now form c.args.block.now rows b (λ count is. (c.split_whole.ensures count is).0) in
    let has = found c.args.self.now c.split_whole.result.rows.now form c.args.block.now rows b i held at in
    let p = c.args.self.now in (
      at.is_at.0.row,
      row-spelled form c.args.block.now rows b i at.is_at.0 at.is_at.1,
      c.row_parts.ensures.value ∙ ap (λ (l : List ℕ). drop (p.left - p.behind - p.value) (take (p.left - p.behind) l)) c.row_parts.ensures.here ∙ has.value_is,
    )
