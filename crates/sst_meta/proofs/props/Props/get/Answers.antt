use Rattle.std.proofs.Common.{ap, ◌∙◌}
use Rattle.std.proofs.lemmas.Option.{get_or_from_slice_get}
use Rattle.sst_meta.specs.declared.pair.Pair.{Pair}
use Rattle.sst_meta.proofs.Named.{got, got-none}
use Rattle.sst_meta.proofs.props.Props.get.Goals as goal

pub returns-in-Ok : goal.returns-in-Ok
returns-in-Ok c = record {
  exact = got _ _ _ c.args.name.now c.in-Ok.at c.as_slice.result.now c.self.view_is c.self.invariant c.deref.ensures.value c.in-Ok.ensures.found (λ p at.
      c.as_slice.ensures ∙ ap (λ (q : Pair). q.value) (c.index.ensures ∙ get_or_from_slice_get c.self.inside.pairs.items c.in-Ok.at p c.index.result.now at));
}

pub returns-in-Err : goal.returns-in-Err
returns-in-Err c = record { exact = got-none _ _ _ c.args.name.now c.self.view_is c.deref.ensures.value c.in-Err.ensures.none }
