use Rattle.std.proofs.Common.{◌∷◌, [], inr, arith}
use Rattle.sst_tests_bytes.proofs.filters.filter_of_one_key.Goals as goal

-- the one key was added
pub finish-requires : goal.finish-requires
finish-requires g c = inr record { bits = 10; users = (154 ∷ []) ∷ []; holds = c.in_ok-add.ensures.ok 10 [] c.new-builder.ensures; some = omega arith }
