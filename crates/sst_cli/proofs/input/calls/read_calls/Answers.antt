use Rattle.std.proofs.Common.{◌+◌, [], ◌∷◌, length, Err, ap, ◌∙◌, arith, length-append}
use Rattle.std.specs.Io.KnownBytes.{prepend_known}
use Rattle.std.proofs.lemmas.Result.{err_from_is_err_and}
use Rattle.sst_cli.specs.declared.input.entries.InputStop.TheVariants as stop
use Rattle.sst_cli.specs.declared.input.refusal.Refusal.{Refusal}
use Rattle.sst_cli.specs.InputReading.{read_call}
use Rattle.sst_cli.proofs.ReadLines.{passed_answer}
use Rattle.sst_cli.proofs.ReadingOn.{next_inside, next_taken, next_refused, next_none, next_not_read}
use Rattle.sst_cli.proofs.Taken.{near_read, near_on, near_no_line, near_passed, past_next}
use Rattle.sst_cli.proofs.CallLines.{read_call-limited}
use Rattle.sst_cli.proofs.CallReading.{AreInLimits-push}
use Rattle.sst_cli.proofs.input.calls.read_calls.Goals as goal

pub returns-in_err-next_line-clause-refused : goal.returns-in_err-next_line-clause-refused
returns-in_err-next_line-clause-refused g c = λ refusal is text told.
    let p = err_from_is_err_and c.from_residual.result c.from_residual.ensures.1 in
    let passed = passed_answer c.from_residual.result p.0 c.in_err-next_line.field-0.0 (stop.Refused refusal) p.1 p.2 is in
    next_not_read read_call read_call-limited c.loop-calls.calls (g.I.Intake.left c.args.input.now) (prepend_known c.loop-calls.lines (g.I.Intake.left c.loop-calls.input)) text c.len-count.result refusal
    c.loop-calls.invariant.said told c.len-count.ensures (c.in_err-next_line.ensures.refused refusal (ap Err passed))

pub returns-in-None-clause-ok : goal.returns-in-None-clause-ok
returns-in-None-clause-ok g c = λ text told.
    let ended = rw c.in-None.is at c.in_ok-next_line.ensures.next in
    next_none read_call c.loop-calls.calls (g.I.Intake.left c.args.input.now) (prepend_known c.loop-calls.lines (g.I.Intake.left c.loop-calls.input)) (g.I.Intake.left c.next_line.new.input) text c.next_line.new.lines c.loop-calls.invariant.said c.in_ok-next_line.ensures.told ended told

pub front-requires : goal.front-requires
front-requires g c =
    omega (arith, next_inside c.next_line.new.lines (g.I.Intake.left c.next_line.new.input) c.in-Some.n (rw c.in-Some.is at c.in_ok-next_line.ensures.next))

pub pass-requires : goal.pass-requires
pass-requires g c =
    next_inside c.next_line.new.lines (g.I.Intake.left c.next_line.new.input) c.in-Some.n (rw c.in-Some.is at c.in_ok-next_line.ensures.next)

pub returns-in_err-call-in-Some-clause-refused : goal.returns-in_err-call-in-Some-clause-refused
returns-in_err-call-in-Some-clause-refused g c = λ refusal is text told.
    let found = rw c.in-Some.is at c.in_ok-next_line.ensures.next in
    let p = err_from_is_err_and c.from_residual-in_err-call-in-Some.result c.from_residual-in_err-call-in-Some.ensures.1 in
    let passed = passed_answer c.from_residual-in_err-call-in-Some.result p.0 c.in_err-call-in-Some.field-0.0 (stop.Refused refusal) p.1 p.2 is in
    let refused = c.in_err-call-in-Some.ensures.refused refusal (ap Err passed) c.loop-calls.calls c.len-count.ensures in
    next_refused read_call c.loop-calls.calls (g.I.Intake.left c.args.input.now) (prepend_known c.loop-calls.lines (g.I.Intake.left c.loop-calls.input)) (g.I.Intake.left c.next_line.new.input) text c.next_line.new.lines c.in-Some.n c.len-count.result refusal
    c.loop-calls.invariant.said c.in_ok-next_line.ensures.told found told c.len-count.ensures (rw c.front.ensures at refused)

pub loop-calls-preserved : goal.loop-calls-preserved
loop-calls-preserved g c =
    let kept = c.loop-calls.invariant in
    let calls = c.loop-calls.calls in
    let call = c.in_ok-call-in-Some.call in
    let found = rw c.in-Some.is at c.in_ok-next_line.ensures.next in
    let reads = rw c.front.ensures at (c.in_ok-call-in-Some.ensures.ok calls c.len-count.ensures) in
    let more = next_taken read_call calls call (g.I.Intake.left c.args.input.now) (prepend_known c.loop-calls.lines (g.I.Intake.left c.loop-calls.input)) (g.I.Intake.left c.next_line.new.input) c.next_line.new.lines c.in-Some.n kept.said c.in_ok-next_line.ensures.told found reads in
    let limits = AreInLimits-push calls call kept.limits c.in_ok-call-in-Some.ensures.limits in
    let longer = length-append calls (call ∷ []) in
    let few = c.in_ok-call-in-Some.ensures.few in
    let counted = c.len-count.ensures in
    let past = past_next (length calls) c.in-Some.n (g.I.Intake.left c.args.input.now) (prepend_known c.loop-calls.lines (g.I.Intake.left c.loop-calls.input)) (g.I.Intake.left c.next_line.new.input) c.next_line.new.lines kept.past c.in_ok-next_line.ensures.told found in
    let short = near_passed c.next_line.new.lines (g.I.Intake.left c.next_line.new.input) c.in-Some.n found (c.in_ok-next_line.ensures.close kept.short) in
    rw (c.in_ok-push-in-Some.ensures, c.pass.ensures) (record {
      said = more;
      past = rw longer past;
      short = short;
      limits = limits;
      few = omega arith;
      counts = grind (arith, kept.counts, c.next_line.ensures.faults.hides_none);
    })

pub returns-in_err-next_line-clause-near : goal.returns-in_err-next_line-clause-near
returns-in_err-next_line-clause-near g c = λ refusal is text told.
    let kept = c.loop-calls.invariant in
    let p = err_from_is_err_and c.from_residual.result c.from_residual.ensures.1 in
    let passed = passed_answer c.from_residual.result p.0 c.in_err-next_line.field-0.0 (stop.Refused refusal) p.1 p.2 is in
    near_no_line (length c.loop-calls.calls) c.len-count.result (g.I.Intake.left c.args.input.now) (prepend_known c.loop-calls.lines (g.I.Intake.left c.loop-calls.input)) (g.I.Intake.left c.next_line.new.input) text refusal
    kept.past (c.in_err-next_line.ensures.near kept.short refusal (ap Err passed)) c.len-count.ensures told (c.in_err-next_line.ensures.refused refusal (ap Err passed))

pub returns-in_err-call-in-Some-clause-near : goal.returns-in_err-call-in-Some-clause-near
returns-in_err-call-in-Some-clause-near g c = λ refusal is text told.
    let kept = c.loop-calls.invariant in
    let p = err_from_is_err_and c.from_residual-in_err-call-in-Some.result c.from_residual-in_err-call-in-Some.ensures.1 in
    let passed = passed_answer c.from_residual-in_err-call-in-Some.result p.0 c.in_err-call-in-Some.field-0.0 (stop.Refused refusal) p.1 p.2 is in
    let refused = c.in_err-call-in-Some.ensures.refused refusal (ap Err passed) c.loop-calls.calls c.len-count.ensures in
    let near = near_read _ (g.I.Intake.left c.next_line.new.input) c.next_line.new.lines c.in_ok-next_line.ensures.told (c.in_ok-next_line.ensures.close kept.short) in
    near_on (length c.loop-calls.calls) refusal.line (g.I.Intake.left c.args.input.now) (prepend_known c.loop-calls.lines (g.I.Intake.left c.loop-calls.input)) (g.I.Intake.left c.next_line.new.input) text
    kept.past near (ap (λ (r : Refusal). r.line) refused.said ∙ ap (λ n. n + 1) c.len-count.ensures) told
