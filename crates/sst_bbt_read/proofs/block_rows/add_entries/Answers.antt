use Rattle.std.proofs.Common.{[], ◌++◌, ◌∷◌, None, refl, sym, arith}
use Rattle.std.proofs.lemmas.List.{append-nil}
use Rattle.std.proofs.lemmas.List.Elements.{All-nil, All-push}
use Rattle.sst_block.proofs.RowsCopied.{walks-at}
use Rattle.sst_bbt_spec.specs.Rows.{HasSeq}
use Rattle.sst_bbt_read.proofs.BlockRows.{internal_at, copied_more, copied_all, entries_are, appended_more}
use Rattle.sst_bbt_read.proofs.block_rows.add_entries.Goals as goal

pub start-rows-requires : goal.start-rows-requires
start-rows-requires c = let r = c.requires in (r.0, r.1)

pub first-requires : goal.first-requires
first-requires c =
    let r = c.requires in
    (r.0, None, c.start-rows.ensures.walks r.0 r.1)

pub loop-row-init : goal.loop-row-init
loop-row-init c = record {
  added = [];
  appended = sym (append-nil c.args.entries.now.items);
  front = record {
    walks = λ rows is_block many. c.first.ensures.moves rows None (c.start-rows.ensures.walks rows is_block);
    copied = λ rows is_block many. refl;
    seqs = All-nil HasSeq;
  };
}

pub key-requires : goal.key-requires
key-requires c =
    let r = c.requires in
    (r.0, c.loop-row._row, walks-at c.loop-row.rows r.0 c.loop-row._row (omega (arith, r.2)) (c.loop-row.invariant.front.walks r.0 r.1 r.2))

pub value-requires : goal.value-requires
value-requires c =
    let r = c.requires in
    (r.0, c.loop-row._row, walks-at c.loop-row.rows r.0 c.loop-row._row (omega (arith, r.2)) (c.loop-row.invariant.front.walks r.0 r.1 r.2))

pub entry_of-requires : goal.entry_of-requires
entry_of-requires c =
    let r = c.requires in
    let at = walks-at c.loop-row.rows r.0 c.loop-row._row (omega (arith, r.2)) (c.loop-row.invariant.front.walks r.0 r.1 r.2) in
    let block = r.1 in
    internal_at c.args.block.now r.0 c.loop-row._row c.key.result.now block (c.key.ensures r.0 c.loop-row._row at)

pub next-requires : goal.next-requires
next-requires c =
    let r = c.requires in
    (r.0, c.loop-row._row, walks-at c.loop-row.rows r.0 c.loop-row._row (omega (arith, r.2)) (c.loop-row.invariant.front.walks r.0 r.1 r.2))

pub loop-row-preserved : goal.loop-row-preserved
loop-row-preserved c =
    let so = c.loop-row.invariant in
    record {
      added = so.added ++ c.in_ok-entry.entry ∷ [];
      appended = appended_more c.args.entries.now.items so.added c.loop-row.entries.items c.push.new.self.items c.in_ok-entry.entry c.in_ok-push.ensures.items so.appended;
      front = record {
        walks = λ rows is_block many.
            c.next.ensures.moves rows c.loop-row._row (walks-at c.loop-row.rows rows c.loop-row._row (omega (arith, many)) (so.front.walks rows is_block many));
        copied = λ rows is_block many.
            let at = walks-at c.loop-row.rows rows c.loop-row._row (omega (arith, many)) (so.front.walks rows is_block many) in
            copied_more c.args.block.now rows c.loop-row._row c.key.result.now c.value.result.now so.added c.in_ok-entry.entry
            (so.front.copied rows is_block many) (c.key.ensures rows c.loop-row._row at) (c.value.ensures rows c.loop-row._row at) c.in_ok-entry.ensures.row;
        seqs = All-push HasSeq so.added c.in_ok-entry.entry so.front.seqs c.in_ok-entry.ensures.seq;
      };
    }

pub returns : goal.returns
returns c = record {
  rows = λ rows is_block many.
      let so = c.loop-row.invariant in
      let all = copied_all rows c.loop-row._row so.added (so.front.copied rows is_block many) (omega (arith, many)) in
      (so.added, so.appended, all, entries_are c.args.block.now rows so.added is_block all so.front.seqs);
}
