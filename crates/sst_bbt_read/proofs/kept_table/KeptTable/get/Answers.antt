use Rattle.sst_bbt_read.proofs.Moves.{get-there}
use Rattle.sst_bbt_read.proofs.kept_table.KeptTable.get.Goals as goal

pub returns-clause-place : goal.returns-clause-place
returns-clause-place c =
    get-there _ c.args.self.now c.args.user.now c.args.seq c.of_user.result c.seek_place.result c.self.view_is c.self.invariant c.seek_place.ensures.place c.of_user.ensures.place
