use Rattle.std.proofs.Common.{◌≡◌, ℕ, List, [], ◌∷◌, ◌++◌, ap, ◌∙◌, subst}
use Rattle.std.proofs.lemmas.Result.{on_ok_weaker}
use Rattle.sst_block.specs.declared.row_form.RowForm.TheVariants.{Names}
use Rattle.sst_block.specs.Builder.{Holds}
use Rattle.sst_meta.specs.MetaRows.{value_spelling}
use Rattle.sst_meta.proofs.ending.add_row.Goals as goal

pub returns : goal.returns
returns c =
    let spelled = value_spelling c.args.row.now.value in
    let value : c.deref.result.now ≡ spelled = c.deref.ensures.value ∙ c.in_ok-put_value.ensures.ok ∙ ap (λ (l : List ℕ). l ++ spelled) c.new-value.ensures.items in
    on_ok_weaker c.add.result
    (λ added interval rows holds.
    subst (λ (v : List ℕ). Holds c.add.new.self Names interval (rows ++ record { key = c.args.row.now.name.now; value = v } ∷ [])) value (added Names interval rows holds))
    c.add.ensures.ok
