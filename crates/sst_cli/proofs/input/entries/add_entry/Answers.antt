use Rattle.sst_key.specs.Entry.{entry_of}
use Rattle.sst_cli.specs.declared.input.entries.InputStop.TheVariants as stop
use Rattle.sst_cli.proofs.ReadLines.{entry_added, entry_refused, given_answer}
use Rattle.sst_cli.proofs.input.entries.add_entry.Goals as goal

pub returns-in-Ok-clause-ok : goal.returns-in-Ok-clause-ok
returns-in-Ok-clause-ok c = λ options entries bytes line after reads.
    let added = c.in-Ok.ensures.ok options entries bytes after in
    entry_added options entries bytes line (entry_of c.args.e) c.add.new.self c.args.file.now.items c.add.new.out.items added.0 reads (c.in-Ok.ensures.good options entries bytes after) added.1 added.2

pub returns-in-Err-Cause-clause-refused : goal.returns-in-Err-Cause-clause-refused
returns-in-Err-Cause-clause-refused c = λ refusal is options entries bytes line after reads.
    let refused = c.add.ensures.refused c.in-Err-Cause.fault (rw c.in-Err-Cause.field-0-is at c.in-Err-Cause.is) options entries bytes after in
    entry_refused entries line (entry_of c.args.e) c.in-Err-Cause.fault c.args.number c.refused.result refusal reads refused.0 c.refused.ensures (given_answer c.refused.result (stop.Refused refusal) is)
