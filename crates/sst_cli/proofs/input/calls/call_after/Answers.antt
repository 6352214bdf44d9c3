use Rattle.std.proofs.Common.{◌+◌, sym, ◌∙◌, arith}
use Rattle.sst_cli.specs.declared.input.entries.InputStop.TheVariants as stop
use Rattle.sst_cli.proofs.ReadLines.{given_answer}
use Rattle.sst_cli.proofs.CallLines.{call_of_line-some, call_read, line_not_call, call_too_many}
use Rattle.sst_cli.proofs.input.calls.call_after.Goals as goal

pub returns-in-None-clause-refused : goal.returns-in-None-clause-refused
returns-in-None-clause-refused c = λ refusal is calls counted.
    line_not_call calls c.args.line.now (c.args.count + 1) c.refused.result refusal c.requires.short (sym c.in_ok-call_of_line.ensures.exact ∙ c.in-None.is)
    c.refused.ensures (given_answer c.refused.result (stop.Refused refusal) is)

pub returns-then-count-lt-CALL_LIMIT-clause-ok : goal.returns-then-count-lt-CALL_LIMIT-clause-ok
returns-then-count-lt-CALL_LIMIT-clause-ok c = λ calls counted.
    call_read calls c.args.line.now c.in-Some.call c.args.count c.requires.short (sym c.in_ok-call_of_line.ensures.exact ∙ c.in-Some.is) counted (omega arith)

pub returns-then-count-lt-CALL_LIMIT-clause-limits : goal.returns-then-count-lt-CALL_LIMIT-clause-limits
returns-then-count-lt-CALL_LIMIT-clause-limits c =
    call_of_line-some c.args.line.now c.in-Some.call (sym c.in_ok-call_of_line.ensures.exact ∙ c.in-Some.is)

pub returns-else-count-lt-CALL_LIMIT-clause-refused : goal.returns-else-count-lt-CALL_LIMIT-clause-refused
returns-else-count-lt-CALL_LIMIT-clause-refused c = λ refusal is calls counted.
    call_too_many calls c.args.line.now c.in-Some.call c.args.count (c.args.count + 1) c.refused-else-count-lt-CALL_LIMIT.result refusal c.requires.short
    (sym c.in_ok-call_of_line.ensures.exact ∙ c.in-Some.is) counted (omega arith)
    c.refused-else-count-lt-CALL_LIMIT.ensures (given_answer c.refused-else-count-lt-CALL_LIMIT.result (stop.Refused refusal) is)
