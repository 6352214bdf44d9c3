use Rattle.std.proofs.Common.{◌++◌, ◌∷◌, ◌∙◌, [], length-append, arith}
use Rattle.sst_tests_bytes.proofs.filters.filter_of.Goals as goal

pub loop-key-preserved : goal.loop-key-preserved
loop-key-preserved c =
    let held = c.loop-key.invariant in
    let key = c.loop-key.key ∷ [] in
    (held.0 ++ key ∷ [], c.in_ok-add.ensures.ok c.args.bits held.0 held.1, length-append held.0 (key ∷ []) ∙ omega (arith, held.2))
