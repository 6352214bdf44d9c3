use Rattle.sst_bbt_read.proofs.Moves.{seek-after}
use Rattle.sst_bbt_read.proofs.kept_table.KeptTable.seek_place.Goals as goal

pub returns-clause-place : goal.returns-clause-place
returns-clause-place c =
    seek-after _ c.args.self.now c.args.user.now c.args.seq c.in_ok-passed.passed c.place_in.result c.self.view_is c.self.invariant c.in_ok-passed.ensures.passed c.place_in.ensures.place
