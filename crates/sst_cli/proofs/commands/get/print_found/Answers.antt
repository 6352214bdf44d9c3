use Rattle.std.proofs.Common.{List, ℕ, ◌∙◌, subst}
use Rattle.sst_cli.specs.OpenFile.{done_with}
use Rattle.sst_cli.specs.Printed.{IsPrinted}
use Rattle.sst_cli.proofs.commands.get.print_found.Goals as goal

pub returns-in-Ok-clause-printed : goal.returns-in-Ok-clause-printed
returns-in-Ok-clause-printed g c = λ blocks keeps.
    let text = c.in-Ok.ensures.text blocks keeps in
    subst (λ (t : List ℕ). IsPrinted c.print.result (done_with t) (g.O.Sink.written c.args.out.now) (g.O.Sink.written c.print.new.out) (g.O.Sink.faults c.args.out.now) (g.O.Sink.faults c.print.new.out)) (c.as_slice.ensures.value ∙ text) c.print.ensures
