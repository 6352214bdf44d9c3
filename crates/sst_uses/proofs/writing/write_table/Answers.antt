use Rattle.std.proofs.Common.{refl, ◌++◌, [], ◌∷◌, ap, sym, ◌∙◌, take, Err, inr, arith}
use Rattle.std.proofs.lemmas.List.{take_all}
use Rattle.std.proofs.lemmas.Option.{slice_get_read}
use Rattle.std.proofs.lemmas.Result.{err_from_is_err_and}
use Rattle.sst_key.specs.declared.entries.Entry.{Entry}
use Rattle.sst_uses.proofs.Adding.{came, refused_at, whole}
use Rattle.sst_uses.proofs.Copied.{one_on}
use Rattle.sst_uses.proofs.writing.write_table.Goals as goal

pub add-requires-clause-writer : goal.add-requires-clause-writer
add-requires-clause-writer c = inr (c.args.options, take c.loop-done.done c.args.entries.now, c.loop-done.file.items, c.loop-done.invariant.after)

pub returns-in_err-add-clause-refused : goal.returns-in_err-add-clause-refused
returns-in_err-add-clause-refused c = λ fault is.
    let p = err_from_is_err_and c.from_residual-in_err-add.result c.from_residual-in_err-add.ensures.1 in
    let first = came c.from_residual-in_err-add.result p.0 c.in_err-add.field-0.0 fault p.1 p.2 is in
    let done = take c.loop-done.done c.args.entries.now in
    let here = slice_get_read c.args.entries.now _ c.loop-done.done c.index-entries-done.result refl c.loop-done-test.true c.index-entries-done.is in
    let why = c.in_err-add.ensures.refused fault (ap Err first) c.args.options done c.loop-done.file.items c.loop-done.invariant.after in
    refused_at c.args.entries.now c.loop-done.done c.index-entries-done.result _ fault here c.view.ensures why.0

pub loop-done-preserved : goal.loop-done-preserved
loop-done-preserved c =
    let done = take c.loop-done.done c.args.entries.now in
    let added = c.in_ok-add.ensures.ok c.args.options done c.loop-done.file.items c.loop-done.invariant.after in
    let here = slice_get_read c.args.entries.now _ c.loop-done.done c.index-entries-done.result refl c.loop-done-test.true c.index-entries-done.is in
    let one = ap (λ (e : Entry). done ++ e ∷ []) c.view.ensures ∙ one_on c.args.entries.now c.loop-done.done c.index-entries-done.result here in
    record {
      within = omega arith;
      after = rw (added.1, sym one) added.2;
    }

pub finish-requires : goal.finish-requires
finish-requires c = inr (c.args.options, take c.loop-done.done c.args.entries.now, c.loop-done.file.items, c.loop-done.invariant.after)

pub returns-clause-written : goal.returns-clause-written
returns-clause-written c =
    let done = take c.loop-done.done c.args.entries.now in
    let put = c.in_ok-finish.ensures.written c.args.options done c.loop-done.file.items c.loop-done.invariant.after in
    let all = take_all c.loop-done.done c.args.entries.now (omega arith) in
    whole c.args.options c.finish.new.out.items _ done c.args.entries.now put.1 all put.2
