use Rattle.std.proofs.Common.{ℕ, ◌+◌, List, [], ◌∷◌, ◌++◌, length, length-append, Err, sym, ap, ◌∙◌, subst, arith}
use Rattle.std.specs.Io.KnownBytes.{prepend_known}
use Rattle.std.proofs.lemmas.Result.{err_from_is_err_and}
use Rattle.sst_cli.specs.declared.input.entries.InputStop.TheVariants as stop
use Rattle.sst_cli.specs.declared.input.refusal.Refusal.{Refusal}
use Rattle.sst_bbt_write.specs.After.{After}
use Rattle.sst_cli.specs.InputReading.{read_line}
use Rattle.sst_cli.proofs.ReadLines.{passed_answer}
use Rattle.sst_cli.proofs.ReadingOn.{next_inside, next_taken, next_refused, next_none, next_not_read}
use Rattle.sst_cli.proofs.Taken.{near_read, near_on, near_no_line, near_passed, past_next}
use Rattle.sst_cli.proofs.Adding.{read_line-limited, weight-falls, holds_input}
use Rattle.sst_cli.proofs.input.entries.add_lines.Goals as goal

pub returns-in_err-next_line-clause-refused : goal.returns-in_err-next_line-clause-refused
returns-in_err-next_line-clause-refused g c = λ refusal is text told.
    let kept = c.loop-lines.invariant in
    let p = err_from_is_err_and c.from_residual.result c.from_residual.ensures.1 in
    let passed = passed_answer c.from_residual.result p.0 c.in_err-next_line.field-0.0 (stop.Refused refusal) p.1 p.2 is in
    let counted = c.count-number.ensures.exact c.args.writer.now.options kept.entries c.loop-lines.file.items kept.after in
    next_not_read read_line read_line-limited kept.entries (g.I.Intake.left c.args.input.now) (prepend_known c.loop-lines.lines (g.I.Intake.left c.loop-lines.input)) text c.count-number.result refusal
    kept.said told counted (c.in_err-next_line.ensures.refused refusal (ap Err passed))

pub returns-in-None-clause-ok : goal.returns-in-None-clause-ok
returns-in-None-clause-ok g c =
    let kept = c.loop-lines.invariant in
    let ended = rw c.in-None.is at c.in_ok-next_line.ensures.next in
    let all = λ (text : List ℕ). next_none read_line kept.entries (g.I.Intake.left c.args.input.now) (prepend_known c.loop-lines.lines (g.I.Intake.left c.loop-lines.input)) (g.I.Intake.left c.next_line.new.input) text c.next_line.new.lines kept.said c.in_ok-next_line.ensures.told ended in
    λ options after. holds_input c.args.writer.now c.loop-lines.writer c.loop-lines.file.items (g.I.Intake.left c.args.input.now) (g.I.Intake.left c.next_line.new.input) options after (record {
      entries = kept.entries;
      after = kept.after;
      said = λ text told. (all text told).0;
      read = λ text told. (all text told).1;
    })

pub front-requires : goal.front-requires
front-requires g c =
    omega (arith, next_inside c.next_line.new.lines (g.I.Intake.left c.next_line.new.input) c.in-Some.n (rw c.in-Some.is at c.in_ok-next_line.ensures.next))

pub pass-requires : goal.pass-requires
pass-requires g c =
    next_inside c.next_line.new.lines (g.I.Intake.left c.next_line.new.input) c.in-Some.n (rw c.in-Some.is at c.in_ok-next_line.ensures.next)

pub returns-in_err-add_line-in-Some-clause-refused : goal.returns-in_err-add_line-in-Some-clause-refused
returns-in_err-add_line-in-Some-clause-refused g c = λ refusal is text told.
    let kept = c.loop-lines.invariant in
    let found = rw c.in-Some.is at c.in_ok-next_line.ensures.next in
    let p = err_from_is_err_and c.from_residual-in_err-add_line-in-Some.result c.from_residual-in_err-add_line-in-Some.ensures.1 in
    let passed = passed_answer c.from_residual-in_err-add_line-in-Some.result p.0 c.in_err-add_line-in-Some.field-0.0 (stop.Refused refusal) p.1 p.2 is in
    let refused = c.in_err-add_line-in-Some.ensures.refused refusal (ap Err passed) c.args.writer.now.options kept.entries c.loop-lines.file.items kept.after in
    let counted = c.count-number.ensures.exact c.args.writer.now.options kept.entries c.loop-lines.file.items kept.after in
    next_refused read_line kept.entries (g.I.Intake.left c.args.input.now) (prepend_known c.loop-lines.lines (g.I.Intake.left c.loop-lines.input)) (g.I.Intake.left c.next_line.new.input) text c.next_line.new.lines c.in-Some.n c.count-number.result refusal
    kept.said c.in_ok-next_line.ensures.told found told counted (rw c.front.ensures at refused)

pub loop-lines-smaller : goal.loop-lines-smaller
loop-lines-smaller g c =
    let kept = c.loop-lines.invariant in
    let added = c.in_ok-add_line-in-Some.ensures.ok c.args.writer.now.options kept.entries c.loop-lines.file.items kept.after in
    weight-falls c.loop-lines.writer c.add_line.new.writer c.args.writer.now.options kept.entries added.entry c.loop-lines.file.items _ kept.after added.after

pub loop-lines-preserved : goal.loop-lines-preserved
loop-lines-preserved g c =
    let kept = c.loop-lines.invariant in
    let found = rw c.in-Some.is at c.in_ok-next_line.ensures.next in
    let added = c.in_ok-add_line-in-Some.ensures.ok c.args.writer.now.options kept.entries c.loop-lines.file.items kept.after in
    let more = next_taken read_line kept.entries added.entry (g.I.Intake.left c.args.input.now) (prepend_known c.loop-lines.lines (g.I.Intake.left c.loop-lines.input)) (g.I.Intake.left c.next_line.new.input) c.next_line.new.lines c.in-Some.n kept.said c.in_ok-next_line.ensures.told found (rw c.front.ensures at added.reads) in
    let past = past_next (length kept.entries) c.in-Some.n (g.I.Intake.left c.args.input.now) (prepend_known c.loop-lines.lines (g.I.Intake.left c.loop-lines.input)) (g.I.Intake.left c.next_line.new.input) c.next_line.new.lines kept.past c.in_ok-next_line.ensures.told found in
    let short = near_passed c.next_line.new.lines (g.I.Intake.left c.next_line.new.input) c.in-Some.n found (c.in_ok-next_line.ensures.close kept.short) in
    record {
      entries = kept.entries ++ added.entry ∷ [];
      after = subst (λ (b : List ℕ). After c.add_line.new.writer c.args.writer.now.options (kept.entries ++ added.entry ∷ []) b) (sym added.put) added.after;
      said = rw c.pass.ensures more;
      past = rw (c.pass.ensures, length-append kept.entries (added.entry ∷ [])) past;
      short = rw c.pass.ensures short;
      counts = grind (arith, kept.counts, c.next_line.ensures.faults.hides_none);
    }

pub returns-in_err-next_line-clause-near : goal.returns-in_err-next_line-clause-near
returns-in_err-next_line-clause-near g c = λ refusal is text told.
    let kept = c.loop-lines.invariant in
    let p = err_from_is_err_and c.from_residual.result c.from_residual.ensures.1 in
    let passed = passed_answer c.from_residual.result p.0 c.in_err-next_line.field-0.0 (stop.Refused refusal) p.1 p.2 is in
    let counted = c.count-number.ensures.exact c.args.writer.now.options kept.entries c.loop-lines.file.items kept.after in
    near_no_line (length kept.entries) c.count-number.result (g.I.Intake.left c.args.input.now) (prepend_known c.loop-lines.lines (g.I.Intake.left c.loop-lines.input)) (g.I.Intake.left c.next_line.new.input) text refusal
    kept.past (c.in_err-next_line.ensures.near kept.short refusal (ap Err passed)) counted told (c.in_err-next_line.ensures.refused refusal (ap Err passed))

pub returns-in_err-add_line-in-Some-clause-near : goal.returns-in_err-add_line-in-Some-clause-near
returns-in_err-add_line-in-Some-clause-near g c = λ refusal is text told.
    let kept = c.loop-lines.invariant in
    let p = err_from_is_err_and c.from_residual-in_err-add_line-in-Some.result c.from_residual-in_err-add_line-in-Some.ensures.1 in
    let passed = passed_answer c.from_residual-in_err-add_line-in-Some.result p.0 c.in_err-add_line-in-Some.field-0.0 (stop.Refused refusal) p.1 p.2 is in
    let refused = c.in_err-add_line-in-Some.ensures.refused refusal (ap Err passed) c.args.writer.now.options kept.entries c.loop-lines.file.items kept.after in
    let counted = c.count-number.ensures.exact c.args.writer.now.options kept.entries c.loop-lines.file.items kept.after in
    let near = near_read _ (g.I.Intake.left c.next_line.new.input) c.next_line.new.lines c.in_ok-next_line.ensures.told (c.in_ok-next_line.ensures.close kept.short) in
    near_on (length kept.entries) refusal.line (g.I.Intake.left c.args.input.now) (prepend_known c.loop-lines.lines (g.I.Intake.left c.loop-lines.input)) (g.I.Intake.left c.next_line.new.input) text
    kept.past near (ap (λ (r : Refusal). r.line) refused.said ∙ ap (λ n. n + 1) counted) told
