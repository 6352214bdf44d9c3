use Rattle.std.proofs.Common.{◌∙◌, arith}
use Rattle.sst_key.specs.ListMachine.{last_of}
use Rattle.sst_bbt_read.proofs.OneLess.{one_less, last-place}
use Rattle.sst_bbt_read.proofs.Moves.{landed-at}
use Rattle.sst_bbt_read.proofs.kept_table.KeptTable.last.Goals as goal

pub returns-clause-exact : goal.returns-clause-exact
returns-clause-exact c =
    let at = one_less _ _ c.checked_sub.ensures ∙ last-place _ c.args.self.now c.len.result c.self.view_is (omega arith) in
    landed-at _ c.args.self.now c.reply.result c.checked_sub.result last_of c.self.view_is c.self.invariant c.reply.ensures at
