use Rattle.std.proofs.Common.{List, ap, ◌∙◌}
use Rattle.std.proofs.lemmas.Result.{on_ok_weaker}
use Rattle.sst_key.specs.Entry.{entry_of}
use Rattle.sst_key.specs.declared.entries.Entry.{Entry}
use Rattle.sst_cli.specs.InputReading.{by_entry}
use Rattle.sst_cli.specs.declared.input.entries.InputStop.TheVariants as stop
use Rattle.sst_text.proofs.EntryLines.{entry_of_line-seq}
use Rattle.sst_cli.proofs.ReadLines.{read_line-short, line_entry, line_none, line_refused, given_answer}
use Rattle.sst_cli.proofs.input.entries.add_line.Goals as goal

pub add_entry-requires-clause-seq : goal.add_entry-requires-clause-seq
add_entry-requires-clause-seq c =
    entry_of_line-seq c.args.line.now (entry_of c.entry.result) (line_entry c.args.line.now _ _ _ c.in_ok-read.ensures c.if-branch.true c.entry.ensures)

pub returns-else-branch-clause-refused : goal.returns-else-branch-clause-refused
returns-else-branch-clause-refused c = λ refusal is options entries bytes after.
    line_refused entries c.args.line.now c.args.number c.refused.result refusal c.requires.short (line_none c.args.line.now _ _ c.in_ok-read.ensures c.if-branch.false) c.refused.ensures (given_answer c.refused.result (stop.Refused refusal) is)

pub returns-then-branch-clause-ok : goal.returns-then-branch-clause-ok
returns-then-branch-clause-ok c =
    let line = c.args.line.now in
    let entry = line_entry line _ _ _ c.in_ok-read.ensures c.if-branch.true c.entry.ensures in
    let reads = λ (entries : List Entry). read_line-short entries line c.requires.short ∙ ap (by_entry entries) entry in
    on_ok_weaker c.add_entry.result (λ ok options entries bytes after. ok options entries bytes line after (reads entries)) c.add_entry.ensures.ok

pub returns-then-branch-clause-refused : goal.returns-then-branch-clause-refused
returns-then-branch-clause-refused c = λ refusal is options entries bytes after.
    let line = c.args.line.now in
    let entry = line_entry line _ _ _ c.in_ok-read.ensures c.if-branch.true c.entry.ensures in
    c.add_entry.ensures.refused refusal is options entries bytes line after (read_line-short entries line c.requires.short ∙ ap (by_entry entries) entry)
