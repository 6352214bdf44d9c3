use Rattle.sst_key.specs.ListMachine.{first_of}
use Rattle.sst_bbt_read.proofs.Moves.{landed-at}
use Rattle.sst_bbt_read.proofs.kept_table.KeptTable.first.Goals as goal

pub returns-clause-exact : goal.returns-clause-exact
returns-clause-exact c = landed-at _ c.args.self.now c.reply.result c.place_in.result first_of c.self.view_is c.self.invariant c.reply.ensures c.place_in.ensures.place
