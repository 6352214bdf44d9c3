use Rattle.std.proofs.Common.{None, ap, ◌∙◌, arith}
use Rattle.sst_block.proofs.BlockRead.{read-sound}
use Rattle.sst_block.proofs.RowsCopied.{walks-at}
use Rattle.sst_block.specs.declared.row_form.RowForm.TheVariants.{Names}
use Rattle.sst_meta.specs.Pairs.{rows_of_pairs}
use Rattle.sst_meta.proofs.PairsRead.{copied_more, copied_all}
use Rattle.sst_meta.proofs.props.pairs_of.Goals as goal

pub start-rows-requires : goal.start-rows-requires
start-rows-requires c = let r = c.requires.read in (r.0, read-sound Names c.args.block.now r.0 c.requires.short r.1)

pub first-requires : goal.first-requires
first-requires c =
    let r = c.requires.read in
    (r.0, None, c.start-rows.ensures.walks r.0 (read-sound Names c.args.block.now r.0 c.requires.short r.1))

pub loop-row-init : goal.loop-row-init
loop-row-init c = record {
  walks = λ rows reads many. c.first.ensures.moves rows None (c.start-rows.ensures.walks rows (read-sound Names c.args.block.now rows c.requires.short reads));
  copied = λ rows reads many. ap rows_of_pairs c.new-pairs.ensures.items;
}

pub key-requires : goal.key-requires
key-requires c =
    let r = c.requires.read in
    (r.0, c.loop-row._row, walks-at c.loop-row.rows r.0 c.loop-row._row (omega (arith, r.2)) (c.loop-row.invariant.walks r.0 r.1 r.2))

pub value-requires : goal.value-requires
value-requires c =
    let r = c.requires.read in
    (r.0, c.loop-row._row, walks-at c.loop-row.rows r.0 c.loop-row._row (omega (arith, r.2)) (c.loop-row.invariant.walks r.0 r.1 r.2))

pub next-requires : goal.next-requires
next-requires c =
    let r = c.requires.read in
    (r.0, c.loop-row._row, walks-at c.loop-row.rows r.0 c.loop-row._row (omega (arith, r.2)) (c.loop-row.invariant.walks r.0 r.1 r.2))

pub loop-row-preserved : goal.loop-row-preserved
loop-row-preserved c = record {
  walks = λ rows reads many.
      c.next.ensures.moves rows c.loop-row._row (walks-at c.loop-row.rows rows c.loop-row._row (omega (arith, many)) (c.loop-row.invariant.walks rows reads many));
  copied = λ rows reads many.
      let at = walks-at c.loop-row.rows rows c.loop-row._row (omega (arith, many)) (c.loop-row.invariant.walks rows reads many) in
      ap rows_of_pairs c.in_ok-push.ensures.items
      ∙ copied_more rows c.loop-row._row c.key.result.now c.value.result.now c.loop-row.pairs.items c.in_ok-pair.pair
      (c.loop-row.invariant.copied rows reads many) (c.key.ensures rows c.loop-row._row at) (c.value.ensures rows c.loop-row._row at) c.in_ok-pair.ensures;
}

pub returns : goal.returns
returns c = λ rows reads many.
    copied_all rows c.loop-row._row c.loop-row.pairs.items (c.loop-row.invariant.copied rows reads many) (omega (arith, many))
