use Rattle.std.proofs.Common.{List, ℕ, ◌++◌, ap, ◌∙◌}
use Rattle.std.proofs.lemmas.Result.{on_ok_weaker, IfOk-weaker}
use Rattle.sst_index.proofs.Kept.{ready_of, bytes_same, handle_same}
use Rattle.sst_index.proofs.builder.IndexBuilder.finish.Goals as goal

pub put_one_level-requires-clause-ready : goal.put_one_level-requires-clause-ready
put_one_level-requires-clause-ready c = ready_of c.args.self c.flags-flags.result c.if-self.false c.requires.state c.flags-flags.ensures

pub put_two_levels-requires-clause-ready : goal.put_two_levels-requires-clause-ready
put_two_levels-requires-clause-ready c = ready_of c.args.self c.flags-flags.result c.if-self.false c.requires.state c.flags-flags.ensures

pub returns-then-self-eq0-clause-bytes : goal.returns-then-self-eq0-clause-bytes
returns-then-self-eq0-clause-bytes c =
    on_ok_weaker c.put_one_level.result
    (λ put options blocks holds. put ∙ ap (λ (l : List ℕ). c.args.out.now.items ++ l) (bytes_same c.args.self options blocks c.args.base c.flags-flags.result holds (c.flags-flags.ensures options blocks holds)))
    c.put_one_level.ensures.bytes

pub returns-then-self-eq0-clause-handle : goal.returns-then-self-eq0-clause-handle
returns-then-self-eq0-clause-handle c =
    IfOk-weaker c.put_one_level.result _ _
    (λ h is options blocks holds. is ∙ handle_same c.args.self options blocks c.args.base c.flags-flags.result holds (c.flags-flags.ensures options blocks holds))
    c.put_one_level.ensures.handle

pub returns-clause-bytes : goal.returns-clause-bytes
returns-clause-bytes c =
    on_ok_weaker c.put_two_levels.result
    (λ put options blocks holds. put ∙ ap (λ (l : List ℕ). c.args.out.now.items ++ l) (bytes_same c.args.self options blocks c.args.base c.flags-flags.result holds (c.flags-flags.ensures options blocks holds)))
    c.put_two_levels.ensures.bytes

pub returns-clause-handle : goal.returns-clause-handle
returns-clause-handle c =
    IfOk-weaker c.put_two_levels.result _ _
    (λ h is options blocks holds. is ∙ handle_same c.args.self options blocks c.args.base c.flags-flags.result holds (c.flags-flags.ensures options blocks holds))
    c.put_two_levels.ensures.handle
