use Rattle.std.proofs.Common.{◌+◌, ◌-◌, arith}
use Rattle.sst_index.specs.Index.{kept_pairs}
use Rattle.sst_index.proofs.PartsPut.{put_next, can_put, kept-length, next_end}
use Rattle.sst_index.proofs.builder.IndexBuilder.put_parts.Goals as goal

pub put_part-requires-clause-top : goal.put_part-requires-clause-top
put_part-requires-clause-top c =
    let b = c.args.self.now in
    let u = c.args.flags.user_key in
    let from = c.loop-from.from in
    can_put b c.args.flags c.requires.ready b.parts c.args.base from (from + c.min.result) (c.args.base + (c.len.result - c.len-start.result))
    c.args.out.now.items c.loop-from.out.items c.loop-from.top c.loop-from.invariant c.requires.parts
    (omega (arith, kept-length u b, c.loop-from-test.true, c.len-count.ensures))
    (next_end u b c.len-count.result from c.min.result b.parts (omega (arith, c.len-count.ensures)) c.min.ensures)
    (omega (arith, c.len.ensures, c.len-start.ensures))
    (omega (arith, c.requires.base, c.len.ensures, c.loop-from.out.ok, c.loop-from.out.small))

pub loop-from-preserved : goal.loop-from-preserved
loop-from-preserved c =
    let b = c.args.self.now in
    let u = c.args.flags.user_key in
    let from = c.loop-from.from in
    put_next c.args.flags b.interval b.parts c.args.base (kept_pairs u b) from (from + c.min.result) (c.args.base + (c.len.result - c.len-start.result))
    c.args.out.now.items c.loop-from.out.items c.put_part.new.out.items c.loop-from.top c.put_part.new.top c.loop-from.invariant c.requires.parts
    (omega (arith, kept-length u b, c.loop-from-test.true, c.len-count.ensures))
    (next_end u b c.len-count.result from c.min.result b.parts (omega (arith, c.len-count.ensures)) c.min.ensures)
    (omega (arith, c.len.ensures, c.len-start.ensures))
    c.in_ok-put_part.ensures.bytes c.in_ok-put_part.ensures.top
