use Rattle.std.proofs.Common.{◌∙◌, arith}
use Rattle.sst_bbt_read.proofs.Moves.{prev-past}
use Rattle.sst_bbt_read.proofs.OneLess.{one_less, last-place}
use Rattle.sst_bbt_read.proofs.kept_table.KeptTable.seek_for_prev_place.Goals as goal

pub returns-in-None-clause-place : goal.returns-in-None-clause-place
returns-in-None-clause-place c =
    let at = one_less _ _ c.checked_sub-in-None.ensures ∙ last-place _ c.args.self.now c.len.result c.self.view_is (omega arith) in
    prev-past _ c.args.self.now c.args.user.now c.args.seq c.checked_sub-in-None.result c.self.view_is c.self.invariant c.in-None.ensures.passed at
