use Rattle.sst_bbt_spec.proofs.UserKeys.{seek-alone, prev-alone, upto-alone, alone-upto, after-alone, alone-after, cmp-alone, users-apart}
use Rattle.sst_bbt_spec.proofs.part_laws.user_keys_are_compared_alone.Goals as goal

pub returns-clause-seek : goal.returns-clause-seek
returns-clause-seek c = seek-alone

pub returns-clause-prev : goal.returns-clause-prev
returns-clause-prev c = prev-alone

pub returns-clause-up_to : goal.returns-clause-up_to
returns-clause-up_to c = upto-alone

pub returns-clause-up_to_back : goal.returns-clause-up_to_back
returns-clause-up_to_back c = alone-upto

pub returns-clause-after : goal.returns-clause-after
returns-clause-after c = after-alone

pub returns-clause-after_back : goal.returns-clause-after_back
returns-clause-after_back c = alone-after

pub returns-clause-tops : goal.returns-clause-tops
returns-clause-tops c = cmp-alone

pub returns-clause-apart : goal.returns-clause-apart
returns-clause-apart c = users-apart
