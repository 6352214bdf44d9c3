use Rattle.std.proofs.Common.{List, ℕ, ◌++◌, None, Option, ap, ◌∙◌}
use Rattle.std.proofs.lemmas.Result.{on_ok_weaker}
use Rattle.sst_key.specs.declared.entries.Entry.{Entry}
use Rattle.sst_bbt_spec.specs.Parts.{stored_in}
use Rattle.sst_bbt_spec.specs.PartWay.{get_in_parts}
use Rattle.sst_cli.specs.GetCommand.{found_text, entry_at}
use Rattle.sst_cli.proofs.AnsweredBy.{stands-found}
use Rattle.sst_cli.proofs.commands.get.put_found.Goals as goal

pub returns-clause-text : goal.returns-clause-text
returns-clause-text g c = λ parts stands.
    let seq = c.args.target.now.seq in
    let user = c.as_slice.result.now in
    let answers = c.get.ensures.kept.answers parts None stands in
    let at = stands-found c.get.result c.get.new.self c.get.new.c parts (get_in_parts None parts user seq) answers in
    let shown = c.shown.ensures parts (get_in_parts None parts user seq) at in
    let same = ap (λ (u : List ℕ). entry_at (stored_in parts) (get_in_parts None parts u seq)) c.as_slice.ensures in
    on_ok_weaker c.put_shown.result (λ put. put ∙ ap (λ (e : Option Entry). c.args.text.now.items ++ found_text e) (shown ∙ same)) c.put_shown.ensures
