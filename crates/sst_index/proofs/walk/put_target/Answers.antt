use Rattle.std.proofs.Common.{rules}
use Rattle.sst_index.proofs.PairWalks.{target-put}
use Rattle.sst_index.proofs.walk.put_target.Goals as goal

pub returns-clause-target : goal.returns-clause-target
returns-clause-target c =
    target-put c.args.user.now c.copy_from_slice.new.self c.write_u64.new.buf c.split_at_mut-last.result.1.now c.args.tag c.copy_from_slice.ensures.after (search rules)
