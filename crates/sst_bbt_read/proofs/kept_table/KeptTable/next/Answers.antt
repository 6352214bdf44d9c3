use Rattle.sst_bbt_read.proofs.Moves.{stepped-on}
use Rattle.sst_bbt_read.proofs.kept_table.KeptTable.next.Goals as goal

pub returns-in-Some-clause-exact : goal.returns-in-Some-clause-exact
returns-in-Some-clause-exact c =
    stepped-on _ c.args.self.now c.reply.result c.args.place.now c.place_after.result c.in-Some.i c.self.view_is c.self.invariant c.reply.ensures c.place_after.ensures.place c.in-Some.is
