use Rattle.std.proofs.Common.{None, refl, arith, ◌∙◌}
use Rattle.sst_bbt_spec.specs.PartWay.{answer_in_parts}
use Rattle.sst_device.proofs.Pieces.{OnErr-always}
use Rattle.sst_cli.proofs.AnsweredBy.{some-parts, some-both}
use Rattle.sst_cli.proofs.AnswersPrinted.{puts, is_prefix, is_prefix_cut, ended, ended_cut, next_call}
use Rattle.sst_cli.proofs.output.answers.print_lines.Goals as goal

pub put_answer-requires-clause-kept : goal.put_answer-requires-clause-kept
put_answer-requires-clause-kept g c =
    let b = some-parts c.args.reader.now c.args.position.now c.args.found.now c.requires.kept in
    (b, c.loop-done.invariant.both b (some-both c.args.reader.now c.args.position.now c.args.found.now c.requires.kept))

pub returns-in_err-put_answer-clause-both : goal.returns-in_err-put_answer-clause-both
returns-in_err-put_answer-clause-both g c =
    let b = some-parts c.args.reader.now c.args.position.now c.args.found.now c.requires.kept in
    (b, c.put_answer.ensures.both b (c.loop-done.invariant.both b (some-both c.args.reader.now c.args.position.now c.args.found.now c.requires.kept)))

pub returns-in_err-put_answer-clause-err : goal.returns-in_err-put_answer-clause-err
returns-in_err-put_answer-clause-err g c = λ parts stands.
    let here = c.loop-done.invariant.printing parts stands in
    let found = is_prefix parts c.args.calls.now _ _ c.loop-done.text.items here.0 _ here.2 in
    OnErr-always _ _ found

pub returns-in_err-print_waiting-clause-both : goal.returns-in_err-print_waiting-clause-both
returns-in_err-print_waiting-clause-both g c =
    let b = some-parts c.args.reader.now c.args.position.now c.args.found.now c.requires.kept in
    (b, c.put_answer.ensures.both b (c.loop-done.invariant.both b (some-both c.args.reader.now c.args.position.now c.args.found.now c.requires.kept)))

pub returns-in_err-print_waiting-clause-err : goal.returns-in_err-print_waiting-clause-err
returns-in_err-print_waiting-clause-err g c = λ parts stands.
    let here = c.loop-done.invariant.printing parts stands in
    let position = (answer_in_parts None parts here.0 c.index-calls-done.result).position in
    let next = next_call parts c.args.calls.now _ _ c.loop-done.text.items c.put_answer.new.text.items here.0 position c.loop-done.done c.index-calls-done.result
    c.loop-done-test.true c.index-calls-done.is (c.in_ok-put_answer.ensures.line parts here.0 here.1) refl here.2 in
    let cut = c.in_err-print_waiting.ensures.err in
    let found = is_prefix_cut parts c.args.calls.now _ _ _ c.put_answer.new.text.items position _ cut.0 cut.1 next in
    OnErr-always _ _ found

pub loop-done-preserved : goal.loop-done-preserved
loop-done-preserved g c =
    let so = c.loop-done.invariant in
    let same = c.put_answer.ensures.same in
    let seats = c.put_answer.ensures.seats in
    let quiet = c.put_answer.ensures.folder in
    record {
      within = omega arith;
      both = λ parts both. c.put_answer.ensures.both parts (so.both parts both);
      same = (so.same.0 ∙ same.0, so.same.1 ∙ same.1);
      seats = (seats.0 ∙ so.seats.0, seats.1 ∙ so.seats.1);
      quiet = (quiet.0 ∙ so.quiet.0, quiet.1 ∙ so.quiet.1);
      printing = λ parts stands.
          let here = so.printing parts stands in
          let position = (answer_in_parts None parts here.0 c.index-calls-done.result).position in
          let next = next_call parts c.args.calls.now _ _ c.loop-done.text.items c.put_answer.new.text.items here.0 position c.loop-done.done c.index-calls-done.result
          c.loop-done-test.true c.index-calls-done.is (c.in_ok-put_answer.ensures.line parts here.0 here.1) refl here.2 in
          let put = c.in_ok-print_waiting.ensures.ok in (
            position,
            c.put_answer.ensures.stands parts here.0 here.1,
            puts parts c.args.calls.now _ _ _ c.put_answer.new.text.items put.0 c.print_waiting.new.text.items position _ put.1 put.2 next,
          );
      counts = grind arith;
    }

pub returns-clause-both : goal.returns-clause-both
returns-clause-both g c =
    let b = some-parts c.args.reader.now c.args.position.now c.args.found.now c.requires.kept in
    (b, c.loop-done.invariant.both b (some-both c.args.reader.now c.args.position.now c.args.found.now c.requires.kept))

pub returns-clause-all : goal.returns-clause-all
returns-clause-all g c = λ parts stands.
    let here = c.loop-done.invariant.printing parts stands in
    ended c.print_waiting-2.result parts c.args.calls.now _ _ _ c.loop-done.text.items c.print_waiting-2.new.text.items here.0 c.loop-done.done
    c.loop-done-test.false c.print_waiting-2.ensures.ok c.print_waiting-2.ensures.all here.2

pub returns-clause-err : goal.returns-clause-err
returns-clause-err g c = λ parts stands.
    let here = c.loop-done.invariant.printing parts stands in
    ended_cut c.print_waiting-2.result parts c.args.calls.now _ _ _ c.loop-done.text.items here.0 _ c.print_waiting-2.ensures.err here.2
