use Rattle.std.proofs.Common.{Err, inl, inr, ap, ◌∙◌}
use Rattle.sst_cli.proofs.commands.calls.print_all.Goals as goal

pub returns-in-Err-clause-printed : goal.returns-in-Err-clause-printed
returns-in-Err-clause-printed g c = λ blocks keeps.
    let cut = c.in-Err.ensures.err blocks keeps in
    let faults = c.print_answers-printed.ensures.faults in
    inr
    (record {
      ends = c.status_of.ensures.fault;
      count = cut.0;
      printed = cut.1;
      faults = record {
        counts = faults.counts;
        hides_none = elim faults.hides_none [ inl failed ↦ inl (c.status_of.ensures.failed cc) | inr quiet ↦ inr quiet ];
        cause = λ is. faults.cause (c.in-Err.is ∙ ap Err (c.status_of.ensures.device is));
      };
    })
