use Rattle.std.proofs.Common.{◌≡◌, arith}
use Rattle.sst_num.proofs.Groups.{Written-ended, Written-more}
use Rattle.sst_num.proofs.put.write_groups.Goals as goal

pub returns-then-rest-lt128-clause-groups : goal.returns-then-rest-lt128-clause-groups
returns-then-rest-lt128-clause-groups c =
    Written-ended _ _ _ _ c.loop-at.invariant c.if-rest-lt128.true (omega arith)

pub loop-at-preserved : goal.loop-at-preserved
loop-at-preserved c = Written-more _ _ _ _ c.loop-at.invariant c.if-rest-lt128.false (omega arith)

pub returns-clause-groups : goal.returns-clause-groups
returns-clause-groups c =
    let last : c.loop-at.at ≡ 9 = omega arith in
    let rest = rw last at c.loop-at.invariant.rest_is in
    rw last at (Written-ended _ _ _ _ c.loop-at.invariant (omega (arith, rest)) (omega arith))
