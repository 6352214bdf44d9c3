use Rattle.std.proofs.Common.{◌≡◌, List, ℕ, Option, Some, take, drop, slice_get, sym, ap, ◌∙◌}
use Rattle.std.specs.Option.{option_map}
use Rattle.std.proofs.lemmas.Option.{slice_get-get_or, slice_get-map}
use Rattle.sst_index.specs.declared.builder.IndexRow.{IndexRow}
use Rattle.sst_index.specs.Ends.{separator_in}
use Rattle.sst_index.specs.Index.{kept_pair}
use Rattle.sst_index.proofs.builder.IndexBuilder.pair.Goals as goal

pub returns : goal.returns
returns c =
    let u = c.args.user_key in
    let keys = c.args.self.now.keys.items in
    let rows = c.args.self.now.rows.items in
    let kept = c.index-kept.result.now in
    let at : slice_get rows c.args.row ≡ Some kept =
    slice_get-get_or rows c.args.row kept c.requires.row ∙ ap Some (sym c.index-kept.ensures) in
    let key : c.in_form.result.now ≡ separator_in u (take kept.length (drop kept.start keys)) =
    c.in_form.ensures ∙ ap (separator_in u) (c.split_at-2.ensures.front ∙ ap (take kept.length) (c.split_at.ensures.back ∙ ap (drop kept.start) c.deref.ensures.value)) in
    slice_get-map (kept_pair u keys) rows c.args.row ∙ ap (λ (o : Option IndexRow). option_map (kept_pair u keys) o) at
    ∙ ap (λ (s : List ℕ). Some (record { separator = s; handle = kept.handle })) (sym key)
