use Rattle.std.proofs.Common.{ℕ, List, take, Err, sym, ap, ◌∙◌, inl, inr, subst}
use Rattle.std.proofs.lemmas.Result.{err_from_is_err_and}
use Rattle.sst_bbt_write.specs.Written.{Written}
use Rattle.sst_device.proofs.FolderLaws.{appended_to_new, append_cause}
use Rattle.sst_cli.specs.declared.input.entries.InputStop.TheVariants as stop
use Rattle.sst_cli.proofs.ReadLines.{passed_answer}
use Rattle.sst_cli.proofs.Stops.{given_stop}
use Rattle.sst_cli.proofs.commands.produce.produce.Goals as goal

pub finish-requires : goal.finish-requires
finish-requires g c =
    let holds = c.in_ok-add_lines.ensures.ok c.args.line.options c.in_ok-writer.ensures in
    inr (c.args.line.options, holds.entries, c.add_lines.new.file.items, holds.after)

pub returns-in_err-add_lines-clause-refused : goal.returns-in_err-add_lines-clause-refused
returns-in_err-add_lines-clause-refused g c = λ refusal is text told.
    let p = err_from_is_err_and c.from_residual-in_err-add_lines.result c.from_residual-in_err-add_lines.ensures.1 in
    let passed = passed_answer c.from_residual-in_err-add_lines.result p.0 c.in_err-add_lines.field-0.0 (stop.Refused refusal) p.1 p.2 is in
    c.in_err-add_lines.ensures.refused refusal (ap Err passed) text told

pub returns-in_err-add_lines-clause-near : goal.returns-in_err-add_lines-clause-near
returns-in_err-add_lines-clause-near g c = λ refusal is text told.
    let p = err_from_is_err_and c.from_residual-in_err-add_lines.result c.from_residual-in_err-add_lines.ensures.1 in
    let passed = passed_answer c.from_residual-in_err-add_lines.result p.0 c.in_err-add_lines.field-0.0 (stop.Refused refusal) p.1 p.2 is in
    c.in_err-add_lines.ensures.near refusal (ap Err passed) text told

pub returns-in_err-add-clause-others : goal.returns-in_err-add-clause-others
returns-in_err-add-clause-others g c =
    let some = c.in_err-add.ensures.err in
    inr (take some.0 c.deref.result.now, appended_to_new (g.F.Folder.held c.args.files.now) (g.F.Folder.held c.begin.new.self) (g.F.Folder.held c.add.new.self) c.args.line.name.now (take some.0 c.deref.result.now) c.in_ok-begin.ensures.begun some.1)

pub returns-in_err-add-clause-failed : goal.returns-in_err-add-clause-failed
returns-in_err-add-clause-failed g c = λ failed.
    let p = err_from_is_err_and c.from_residual-in_err-add.result c.from_residual-in_err-add.ensures.1 in
    let same = given_stop c.from_residual-in_err-add.result p.0 c.in_err-add.field-0.0 p.1 p.2 failed in
    let cause = c.in_err-add.ensures.failed (ap Err same) in
    inl (append_cause (g.F.Folder.held c.args.files.now) (g.F.Folder.held c.begin.new.self) c.args.line.name.now (g.F.Folder.faults c.args.files.now) (g.F.Folder.faults c.begin.new.self) (g.F.Folder.faults c.add.new.self) c.in_ok-begin.ensures.begun c.in_ok-begin.ensures.counts cause)

pub returns-clause-ok : goal.returns-clause-ok
returns-clause-ok g c =
    let holds = c.in_ok-add_lines.ensures.ok c.args.line.options c.in_ok-writer.ensures in
    let last = c.in_ok-count.ensures.written c.args.line.options holds.entries c.add_lines.new.file.items holds.after in
    let bytes = c.deref.ensures.value ∙ last.1 in
    let held = appended_to_new (g.F.Folder.held c.args.files.now) (g.F.Folder.held c.begin.new.self) (g.F.Folder.held c.add.new.self) c.args.line.name.now c.deref.result.now c.in_ok-begin.ensures.begun c.in_ok-add.ensures.added in
    record {
      entries = holds.entries;
      counted = last.3;
      file = (c.deref.result.now, subst (λ (b : List ℕ). Written c.args.line.options b holds.entries) (sym bytes) last.2, held);
      said = holds.said;
      read = holds.read;
    }

pub returns-clause-others : goal.returns-clause-others
returns-clause-others g c =
    inr (c.deref.result.now, appended_to_new (g.F.Folder.held c.args.files.now) (g.F.Folder.held c.begin.new.self) (g.F.Folder.held c.add.new.self) c.args.line.name.now c.deref.result.now c.in_ok-begin.ensures.begun c.in_ok-add.ensures.added)
