use Rattle.std.proofs.Common.{◌≡◌, suc, ◌+◌, [], arith}
use Rattle.sst_block.proofs.BlockLaws.{chosen-rows}
use Rattle.sst_block.proofs.Groups.{whole-at, shared-at}
use Rattle.sst_block.proofs.laws.each_group_begins_whole.Goals as goal

pub returns-clause-rows : goal.returns-clause-rows
returns-clause-rows c = λ interval rows. chosen-rows interval 0 [] rows

pub returns-clause-whole : goal.returns-clause-whole
returns-clause-whole c = λ interval i rows s is begins.
    let first : 0 + i ≡ i = omega arith in
    whole-at interval 0 i [] rows s is (rw first begins)

pub returns-clause-shared : goal.returns-clause-shared
returns-clause-shared c = λ interval i rows before s there is never.
    let next : i + 1 ≡ suc i = omega arith in
    let number : 0 + suc i ≡ i + 1 = omega arith in
    shared-at interval 0 i [] rows before s there (rw next at is) (rw number never)
