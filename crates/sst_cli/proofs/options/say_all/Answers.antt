use Rattle.std.proofs.Common.{length, refl, sym, ap, ◌∙◌, List, ℕ}
use Rattle.std.specs.String.{string_bytes}
use Rattle.std.proofs.lemmas.Option.{slice_get_read}
use Rattle.sst_cli.specs.Options.{say}
use Rattle.sst_cli.proofs.OptionsSaid.{say-step, say-stop}
use Rattle.sst_cli.proofs.options.say_all.Goals as goal

pub loop-done-preserved : goal.loop-done-preserved
loop-done-preserved c =
    let words = c.args.words.now in
    let word = c.index-words-done.result in
    let at = slice_get_read words (length words) c.loop-done.done word refl c.loop-done-test.true c.index-words-done.is in
    let bytes = c.as_bytes.ensures.value ∙ c.as_str.ensures.value in
    let said = ap (λ (b : List ℕ). say b c.loop-done.said) (sym bytes) ∙ sym c.say.ensures ∙ c.in_ok-said.was in
    c.loop-done.invariant ∙ say-step string_bytes words c.loop-done.done word c.loop-done.said c.in_ok-said.said at said

pub returns-in_err-said : goal.returns-in_err-said
returns-in_err-said c =
    let words = c.args.words.now in
    let word = c.index-words-done.result in
    let at = slice_get_read words (length words) c.loop-done.done word refl c.loop-done-test.true c.index-words-done.is in
    let bytes = c.as_bytes.ensures.value ∙ c.as_str.ensures.value in
    let none = ap (λ (b : List ℕ). say b c.loop-done.said) (sym bytes) ∙ sym c.say.ensures ∙ c.in_err-said.was in
    c.from_residual.ensures ∙ sym (c.loop-done.invariant ∙ say-stop string_bytes words c.loop-done.done word c.loop-done.said at none)
