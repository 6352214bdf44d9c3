use Rattle.std.proofs.Common.{sym}
use Rattle.sst_bloom.specs.Lines.{step_of}
use Rattle.sst_bloom.proofs.Looking.{probe_clear, probe_set, turned_more, miss_at, one_more}
use Rattle.sst_bloom.proofs.reading.misses.Goals as goal

pub returns-then-byte-h-eq0 : goal.returns-then-byte-h-eq0
returns-then-byte-h-eq0 c =
    sym
    (miss_at c.args.body.now c.args.lines c.args.size c.args.hash c.args.probes c.loop.counter c.loop-test.true
    (probe_clear c.args.body.now c.args.lines c.args.size c.args.hash c.loop.counter c.loop.h c.byte_in_line.result c.requires.power c.loop.invariant.turned
    c.byte_in_line.ensures.exact c.if-byte-h-eq0.true))

pub loop-preserved : goal.loop-preserved
loop-preserved c =
    record {
      none =
          one_more c.args.body.now c.args.lines c.args.size c.args.hash c.loop.counter c.loop.invariant.none
          (probe_set c.args.body.now c.args.lines c.args.size c.args.hash c.loop.counter c.loop.h c.byte_in_line.result c.requires.power c.loop.invariant.turned
          c.byte_in_line.ensures.exact c.if-byte-h-eq0.false);
      turned = turned_more c.args.hash c.loop.counter c.loop.h c.step_between-step.result (step_of c.args.hash) c.loop.invariant.turned c.loop.invariant.step_is;
      step_is = c.loop.invariant.step_is;
    }
