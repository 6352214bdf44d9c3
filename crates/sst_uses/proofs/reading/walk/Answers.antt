use Rattle.std.proofs.Common.{ℕ, Option, subst, sym, ◌∙◌}
use Rattle.std.proofs.lemmas.Result.{err_from_is_err_and}
use Rattle.sst_key.specs.Entry.{entry_of}
use Rattle.sst_key.specs.ListMachine.{answer_of, first_of, steps_on}
use Rattle.sst_key.specs.declared.calls.Call.TheVariants.{First, Next}
use Rattle.sst_key.specs.declared.calls.Format.TheVariants.{Block}
use Rattle.sst_bbt_read.specs.Positions.{At}
use Rattle.sst_bbt_read.proofs.Chaining.{tells-on, same-on}
use Rattle.sst_uses.proofs.Copied.{begun, copied_on, copied_all, landed_at}
use Rattle.sst_uses.proofs.Found.{no-damage-move, came-damage}
use Rattle.sst_uses.proofs.reading.walk.Goals as goal

pub returns-in_err-first-clause-sound : goal.returns-in_err-first-clause-sound
returns-in_err-first-clause-sound g c = λ file entries place told at fault is.
    let p = err_from_is_err_and c.from_residual.result c.from_residual.ensures.1 in
    no-damage-move c.in_err-first.field-0.0 c.first.new.self c.first.new.c file entries (answer_of Block 0 entries place First) fault
    (c.in_err-first.ensures.moved file entries place told at) (came-damage c.from_residual.result p.0 c.in_err-first.field-0.0 fault p.1 p.2 is)

pub loop-alloc-init : goal.loop-alloc-init
loop-alloc-init g c = record {
  belongs = c.first.ensures.belongs;
  same = c.first.ensures.same;
  reader = c.first.ensures.reader;
  held = c.first.ensures.folder.same_files;
  copied = λ file entries place told at.
      let moved = c.in_ok-first.ensures.moved file entries place told at in
      (_, moved.1, begun entries c.new-copied.result.items _ c.new-copied.ensures.items (landed_at (first_of entries)));
}

pub loop-alloc-preserved : goal.loop-alloc-preserved
loop-alloc-preserved g c =
    let so = c.loop-alloc.invariant in
    let before = g.F.Folder.held c.args.files.now in
    let now = g.F.Folder.held c.loop-alloc.files in
    record {
      belongs = c.next.ensures.belongs;
      same = so.same ∙ c.next.ensures.same;
      reader = same-on before now c.args.table.now c.loop-alloc.table c.next.new.self so.held so.reader c.next.ensures.reader;
      held = c.next.ensures.folder.same_files ∙ so.held;
      copied = λ file entries place told at.
          let here = so.copied file entries place told at in
          let tells = tells-on before now c.args.table.now c.loop-alloc.table file so.held so.reader.name told in
          let moved = c.in_ok-next.ensures.moved file entries here.0 tells here.1 in (
            (steps_on entries here.0).position,
            moved.1,
            copied_on entries c.loop-alloc.copied.items c.add_copy.new.copied.items here.0 (entry_of c.entry.result)
                (sym (c.stands.ensures.at file entries here.0 here.1) ∙ c.loop-alloc-test.true)
                (λ i is. c.entry.ensures.at file entries i (subst (λ (p : Option ℕ). At c.loop-alloc.table c.loop-alloc.cursor file entries p) is here.1))
                here.2 c.in_ok-add_copy.ensures,
          );
    }

pub returns-in_err-next-clause-reader : goal.returns-in_err-next-clause-reader
returns-in_err-next-clause-reader g c =
    let so = c.loop-alloc.invariant in
    same-on (g.F.Folder.held c.args.files.now) (g.F.Folder.held c.loop-alloc.files) c.args.table.now c.loop-alloc.table c.next.new.self so.held so.reader c.next.ensures.reader

pub returns-in_err-next-clause-sound : goal.returns-in_err-next-clause-sound
returns-in_err-next-clause-sound g c = λ file entries place told at fault is.
    let so = c.loop-alloc.invariant in
    let here = so.copied file entries place told at in
    let tells = tells-on (g.F.Folder.held c.args.files.now) (g.F.Folder.held c.loop-alloc.files) c.args.table.now c.loop-alloc.table file so.held so.reader.name told in
    let p = err_from_is_err_and c.from_residual-in_err-next.result c.from_residual-in_err-next.ensures.1 in
    no-damage-move c.in_err-next.field-0.0 c.next.new.self c.next.new.c file entries (answer_of Block 0 entries here.0 Next) fault
    (c.in_err-next.ensures.moved file entries here.0 tells here.1) (came-damage c.from_residual-in_err-next.result p.0 c.in_err-next.field-0.0 fault p.1 p.2 is)

pub returns-clause-all : goal.returns-clause-all
returns-clause-all g c = λ file entries place told at.
    let here = c.loop-alloc.invariant.copied file entries place told at in
    copied_all entries c.loop-alloc.copied.items here.0 (sym (c.stands.ensures.at file entries here.0 here.1) ∙ c.loop-alloc-test.false) here.2
