use Rattle.std.proofs.Common.{None}
use Rattle.sst_key.specs.ListMachine.{lands}
use Rattle.sst_bbt_spec.specs.PartWay.{answer_in_parts, get_in_parts}
use Rattle.sst_cli.proofs.AnsweredBy.{quiet-move, quiet-get, stands-after, get-answers, get-line, more-text, some-parts, some-both, first-of, second-of, other-on}
use Rattle.sst_cli.proofs.output.answers.put_answer.Goals as goal

pub put_line-requires : goal.put_line-requires
put_line-requires g c =
    let s = c.requires.kept in
    let b = some-parts c.args.reader.now c.args.position.now c.args.found.now s in
    let other = second-of c.args.reader.now c.args.position.now c.args.found.now b (some-both c.args.reader.now c.args.position.now c.args.found.now s) in
    let place = get_in_parts None b c.as_slice.result.now c.in-Some.target.now.seq in
    (b, lands place, rw (c.reply_of.ensures) (get-answers c.get-found_one.result c.get-found_one.new.self c.get-found_one.new.c b place (c.get-found_one.ensures.kept.answers b other.0 other.1)))

pub put_line-requires-in-None : goal.put_line-requires-in-None
put_line-requires-in-None g c =
    let s = c.requires.kept in
    let b = some-parts c.args.reader.now c.args.position.now c.args.found.now s in
    let here = first-of c.args.reader.now c.args.position.now c.args.found.now b (some-both c.args.reader.now c.args.position.now c.args.found.now s) in
    (b, answer_in_parts None b here.0 c.args.call.now, c.move_by-replied.ensures.kept.answers b here.0 here.1)

pub returns-in-Some-clause-line : goal.returns-in-Some-clause-line
returns-in-Some-clause-line g c = λ parts place stands.
    let other = other-on c.args.reader.now c.args.position.now c.args.found.now parts place stands c.requires.kept in
    let at = get_in_parts None parts c.as_slice.result.now c.in-Some.target.now.seq in
    let answers = get-answers c.get-found_one.result c.get-found_one.new.self c.get-found_one.new.c parts at (c.get-found_one.ensures.kept.answers parts other.0 other.1) in
    more-text c.put_line.result c.put_line.new.text.items c.args.text.now.items _ _
    (get-line parts c.args.call.now c.in-Some.target.now c.as_slice.result.now place c.in-Some.ensures.get c.as_slice.ensures)
    (c.put_line.ensures parts (lands at) (rw (c.reply_of.ensures) answers))

pub returns-in-Some-clause-folder : goal.returns-in-Some-clause-folder
returns-in-Some-clause-folder g c =
    let s = c.requires.kept in
    let b = some-parts c.args.reader.now c.args.position.now c.args.found.now s in
    let other = second-of c.args.reader.now c.args.position.now c.args.found.now b (some-both c.args.reader.now c.args.position.now c.args.found.now s) in
    let place = get_in_parts None b c.as_slice.result.now c.in-Some.target.now.seq in (
      c.get-found_one.ensures.folder.same_files,
      quiet-get c.get-found_one.result c.get-found_one.new.self c.get-found_one.new.c b place (c.get-found_one.ensures.kept.answers b other.0 other.1) c.get-found_one.ensures.folder.hides_none,
    )

pub returns-in-None-clause-both : goal.returns-in-None-clause-both
returns-in-None-clause-both g c = λ parts both.
    let here = first-of c.args.reader.now c.args.position.now c.args.found.now parts both in
    let other = second-of c.args.reader.now c.args.position.now c.args.found.now parts both in
    let answer = answer_in_parts None parts here.0 c.args.call.now in (
      (answer.position, stands-after c.move_by-replied.result c.move_by-replied.new.reader c.move_by-replied.new.position parts answer (c.move_by-replied.ensures.kept.answers parts here.0 here.1)),
      (other.0, c.move_by-replied.ensures.kept.others c.args.found.now parts other.0 c.requires.two other.1),
    )

pub returns-in-None-clause-folder : goal.returns-in-None-clause-folder
returns-in-None-clause-folder g c =
    let s = c.requires.kept in
    let b = some-parts c.args.reader.now c.args.position.now c.args.found.now s in
    let here = first-of c.args.reader.now c.args.position.now c.args.found.now b (some-both c.args.reader.now c.args.position.now c.args.found.now s) in (
      c.move_by-replied.ensures.folder.same_files,
      quiet-move c.move_by-replied.result c.move_by-replied.new.reader c.move_by-replied.new.position b (answer_in_parts None b here.0 c.args.call.now)
          (c.move_by-replied.ensures.kept.answers b here.0 here.1) c.move_by-replied.ensures.folder.hides_none,
    )
