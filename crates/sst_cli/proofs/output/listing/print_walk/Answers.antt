use Rattle.std.proofs.Common.{List, ℕ, Option, None, refl, sym, ap, subst, ◌∙◌, arith}
use Rattle.sst_key.specs.Entry.{entry_of}
use Rattle.sst_key.specs.ListMachine.{first_of, next_of}
use Rattle.sst_key.specs.declared.entries.Entry.{Entry}
use Rattle.sst_text.specs.EntryText.{lines_text}
use Rattle.sst_bbt_spec.specs.Parts.{stored_in}
use Rattle.sst_device.proofs.Pieces.{OnErr-always}
use Rattle.sst_cli.specs.PartPrinted.{PartPrinted}
use Rattle.sst_cli.specs.ScanCommand.{from_place, scan_text, scanned_after}
use Rattle.sst_cli.proofs.Listing.{from-first, shown-waits, nothing-left, here-at, here-placed}
use Rattle.sst_cli.proofs.PartsPrinted.{part-begun, part-waits, part-puts, part-prefix, part-cut, part-ended, part-ended_cut}
use Rattle.sst_cli.proofs.output.listing.print_walk.Goals as goal

pub loop-there-init : goal.loop-there-init
loop-there-init g c = record {
  seats = c.begin-there.ensures.seats;
  quiet = c.begin-there.ensures.folder;
  walking = λ parts stands.
      let at = c.begin-there.ensures.stands parts None stands in
      let entries = stored_in parts in
      let all = ap (λ (es : List Entry). lines_text (scanned_after c.args.snapshot None es)) (sym (from-first entries)) in
      (first_of entries, at.0, at.1, rw (c.new-text.ensures.items, c.new-last.ensures) (part-begun (scan_text c.args.snapshot parts) _ (g.O.Sink.written c.args.out.now) all));
  counts = refl;
}

pub entry-requires-clause-belongs : goal.entry-requires-clause-belongs
entry-requires-clause-belongs g c = let s = c.requires.kept in (c.loop-there.invariant.walking s.0 s.1).1.belongs

pub entry-requires-clause-stands : goal.entry-requires-clause-stands
entry-requires-clause-stands g c =
    let s = c.requires.kept in
    let here = c.loop-there.invariant.walking s.0 s.1 in
    let at = here-at c.loop-there.reader c.loop-there.position s.0 here.0 c.loop-there.there here.1 here.2 c.loop-there-test.true in
    here-placed c.loop-there.reader c.loop-there.position s.0 here.0 at

pub returns-in_err-put_chosen-clause-belongs : goal.returns-in_err-put_chosen-clause-belongs
returns-in_err-put_chosen-clause-belongs g c = let s = c.requires.kept in (c.loop-there.invariant.walking s.0 s.1).1.belongs

pub returns-in_err-put_chosen-clause-err : goal.returns-in_err-put_chosen-clause-err
returns-in_err-put_chosen-clause-err g c = λ parts stands.
    let here = c.loop-there.invariant.walking parts stands in
    OnErr-always _ _ (part-prefix _ _ _ _ _ here.3)

pub returns-in_err-print_waiting-clause-belongs : goal.returns-in_err-print_waiting-clause-belongs
returns-in_err-print_waiting-clause-belongs g c = let s = c.requires.kept in (c.loop-there.invariant.walking s.0 s.1).1.belongs

pub returns-in_err-print_waiting-clause-err : goal.returns-in_err-print_waiting-clause-err
returns-in_err-print_waiting-clause-err g c = λ parts stands.
    let here = c.loop-there.invariant.walking parts stands in
    let entries = stored_in parts in
    let at = here-at c.loop-there.reader c.loop-there.position parts here.0 c.loop-there.there here.1 here.2 c.loop-there-test.true in
    let part = subst (λ (p : Option ℕ). PartPrinted (scan_text c.args.snapshot parts) (g.O.Sink.written c.args.out.now) (g.O.Sink.written c.loop-there.out) c.loop-there.text.items
    (lines_text (scanned_after c.args.snapshot c.loop-there.last (from_place p entries)))) at.is here.3 in
    let line = shown-waits c.args.snapshot c.loop-there.last c.put_chosen.new.last entries at.i (entry_of c.entry.result) c.loop-there.text.items c.put_chosen.new.text.items
    (c.entry.ensures.kept parts at.i at.stands) c.in_ok-put_chosen.ensures in
    let cut = c.in_err-print_waiting.ensures.err in
    OnErr-always _ _ (part-cut _ _ _ _ _ _ cut.0 cut.1 (part-waits _ _ _ _ _ _ _ line part))

pub go_on-there-requires : goal.go_on-there-requires
go_on-there-requires g c =
    let s = c.requires.kept in
    let here = c.loop-there.invariant.walking s.0 s.1 in
    let at = here-at c.loop-there.reader c.loop-there.position s.0 here.0 c.loop-there.there here.1 here.2 c.loop-there-test.true in
    (s.0, at.i, at.stands)

pub loop-there-preserved : goal.loop-there-preserved
loop-there-preserved g c =
    let so = c.loop-there.invariant in
    let seats = c.go_on-there.ensures.seats in
    let quiet = c.go_on-there.ensures.folder in
    record {
      seats = (seats.0 ∙ so.seats.0, seats.1 ∙ so.seats.1);
      quiet = (quiet.0 ∙ so.quiet.0, quiet.1 ∙ so.quiet.1);
      walking = λ parts stands.
          let here = so.walking parts stands in
          let entries = stored_in parts in
          let at = here-at c.loop-there.reader c.loop-there.position parts here.0 c.loop-there.there here.1 here.2 c.loop-there-test.true in
          let part = subst (λ (p : Option ℕ). PartPrinted (scan_text c.args.snapshot parts) (g.O.Sink.written c.args.out.now) (g.O.Sink.written c.loop-there.out) c.loop-there.text.items
          (lines_text (scanned_after c.args.snapshot c.loop-there.last (from_place p entries)))) at.is here.3 in
          let line = shown-waits c.args.snapshot c.loop-there.last c.put_chosen.new.last entries at.i (entry_of c.entry.result) c.loop-there.text.items c.put_chosen.new.text.items
          (c.entry.ensures.kept parts at.i at.stands) c.in_ok-put_chosen.ensures in
          let put = c.in_ok-print_waiting.ensures.ok in
          let next = c.go_on-there.ensures.stands parts at.i at.stands in
          (next_of entries at.i, next.0, next.1, part-puts _ _ _ _ _ _ put.0 _ put.1 put.2 (part-waits _ _ _ _ _ _ _ line part));
      counts = grind arith;
    }

pub returns-clause-belongs : goal.returns-clause-belongs
returns-clause-belongs g c = let s = c.requires.kept in (c.loop-there.invariant.walking s.0 s.1).1.belongs

pub returns-clause-all : goal.returns-clause-all
returns-clause-all g c = λ parts stands.
    let here = c.loop-there.invariant.walking parts stands in
    let none = nothing-left c.args.snapshot c.loop-there.last (stored_in parts) here.0 c.loop-there.there here.2 c.loop-there-test.false in
    part-ended c.print_waiting-2.result _ _ _ _ _ _ _ none c.print_waiting-2.ensures.ok c.print_waiting-2.ensures.all here.3

pub returns-clause-err : goal.returns-clause-err
returns-clause-err g c = λ parts stands.
    let here = c.loop-there.invariant.walking parts stands in
    part-ended_cut c.print_waiting-2.result _ _ _ _ _ _ c.print_waiting-2.ensures.err here.3
