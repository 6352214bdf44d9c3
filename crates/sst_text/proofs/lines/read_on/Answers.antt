use Rattle.std.proofs.Common.{◌≡◌, length, ◌∙◌, arith}
use Rattle.sst_text.proofs.ReadOn.{told_on, none_on, found_on, piece_is}
use Rattle.sst_text.proofs.PastLine.{near_none, near_piece}
use Rattle.sst_text.proofs.lines.read_on.Goals as goal

pub found_line-requires : goal.found_line-requires
found_line-requires g c =
    let old = c.loop-bytes.bytes.items in
    let more = c.in_ok-taken.ensures.more in
    let piece = more.0 in
    let len : c.len-searched.result ≡ length old = omega arith in
    let all = c.as_slice-in-Some.ensures.value ∙ more.2 in
    let same = piece_is old piece c.as_slice-in-loop-bytes.result.now c.split_at.result.1.now c.len-searched.result len (c.as_slice-in-loop-bytes.ensures.value ∙ more.2) c.split_at.ensures.back in
    let found = rw same at c.in-Some.ensures.1 in
    found_on old piece c.as_slice-in-Some.result.now c.len-searched.result c.in-Some.at len c.loop-bytes.invariant.none found all

pub loop-bytes-preserved : goal.loop-bytes-preserved
loop-bytes-preserved g c =
    let old = c.loop-bytes.bytes.items in
    let more = c.in_ok-taken.ensures.more in
    let piece = more.0 in
    let len : c.len-searched.result ≡ length old = omega arith in
    let same = piece_is old piece c.as_slice-in-loop-bytes.result.now c.split_at.result.1.now c.len-searched.result len (c.as_slice-in-loop-bytes.ensures.value ∙ more.2) c.split_at.ensures.back in
    let none = rw same at c.in_default.ensures in
    record {
      none = none_on old piece c.refill.new.bytes.items c.loop-bytes.invariant.none none more.2;
      told = told_on (g.I.Intake.left c.args.input.now) (g.I.Intake.left c.loop-bytes.input) (g.I.Intake.left c.refill.new.input) c.args.bytes.now.items old piece c.refill.new.bytes.items c.loop-bytes.invariant.told more.3 more.2;
      counts = grind (arith, c.refill.ensures.faults.hides_none, c.loop-bytes.invariant.counts);
    }

pub returns-then-taken-eq0-clause-near : goal.returns-then-taken-eq0-clause-near
returns-then-taken-eq0-clause-near g c =
    let more = c.in_ok-taken.ensures.more in
    near_piece c.loop-bytes.bytes.items more.0 c.refill.new.bytes.items c.loop-bytes.invariant.none more.2 (omega (arith, more.1, c.in_ok-taken.ensures.small))

pub returns-in-Some-clause-near : goal.returns-in-Some-clause-near
returns-in-Some-clause-near g c =
    let more = c.in_ok-taken.ensures.more in
    near_piece c.loop-bytes.bytes.items more.0 c.refill.new.bytes.items c.loop-bytes.invariant.none more.2 (omega (arith, more.1, c.in_ok-taken.ensures.small))

pub returns-clause-near : goal.returns-clause-near
returns-clause-near g c = near_none c.loop-bytes.bytes.items c.loop-bytes.invariant.none
