use Rattle.std.proofs.Common.{◌<◌, length, ap, ◌∙◌, rules, Err}
use Rattle.std.proofs.lemmas.Result.{err_from_is_err_and}
use Rattle.sst_block.proofs.Pass.{Along-fault, Along-end}
use Rattle.sst_block.proofs.KeyRooms.{AlongInRoom-more}
use Rattle.sst_block.proofs.check.check_rows.Goals as goal

pub returns-in_err-l : goal.returns-in_err-l
returns-in_err-l c =
    let some : 0 < length c.loop-left.left.now = search rules in
    let p = err_from_is_err_and c.from_residual.result c.from_residual.ensures.1 in
    rw (p.1) (Along-fault _ _ _ _ _ _ _ _ _ _ p.0 c.loop-left.invariant.along some (ap Err p.2 ∙ c.in_err-l.ensures.exact))

pub loop-left-preserved : goal.loop-left-preserved
loop-left-preserved c =
    let some : 0 < length c.loop-left.left.now = search rules in
    AlongInRoom-more _ _ _ _ _ _ _ _ _ _ _ _ _ _ _ _ c.loop-left.invariant some c.in_ok-l.ensures.exact c.in_ok-l.ensures.within c.in_ok-l.ensures.key c.in_ok-l.ensures.long c.meet_row.ensures.exact c.meet_row.ensures.whole c.split_row-row.ensures.after c.split_row-row.ensures.value c.handle_after-handle.ensures

pub returns : goal.returns
returns c = Along-end _ _ _ _ _ _ _ _ _ _ c.loop-left.invariant.along (search rules)
