use Rattle.std.proofs.Common.{List, ℕ, sym, subst}
use Rattle.std.proofs.lemmas.Result.{IfOk-weaker}
use Rattle.sst_block.specs.IndexRows.{IndexRows}
use Rattle.sst_index.specs.IndexBlock.{form_of, rows_of_pairs}
use Rattle.sst_index.proofs.PairRows.{holds_says}
use Rattle.sst_index.proofs.top.TopBuilder.finish.Goals as goal

pub returns-clause-exact : goal.returns-clause-exact
returns-clause-exact c =
    IfOk-weaker c.finish.result _ _
    (λ b exact flags interval pairs holds. exact (form_of flags) interval (rows_of_pairs flags interval pairs) holds.block)
    c.finish.ensures.exact

pub returns-clause-says : goal.returns-clause-says
returns-clause-says c =
    IfOk-weaker c.finish.result _ _
    (λ b exact flags interval pairs holds.
    subst (λ (bytes : List ℕ). IndexRows flags.user_key flags.delta bytes pairs) (sym (exact (form_of flags) interval (rows_of_pairs flags interval pairs) holds.block))
    (holds_says c.args.self flags interval pairs holds))
    c.finish.ensures.exact
