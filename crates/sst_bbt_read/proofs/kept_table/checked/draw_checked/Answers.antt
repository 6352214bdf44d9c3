use Rattle.std.proofs.Common.{Err, ℕ, List, ap, subst}
use Rattle.sst_block.specs.FirstFault.{IsFirstFault}
use Rattle.sst_device.proofs.FramesRead.{framed-read}
use Rattle.sst_bbt_read.proofs.CheckedBlock.{frame_stopped, bytes_wrong}
use Rattle.sst_bbt_read.proofs.kept_table.checked.draw_checked.Goals as goal

pub returns-in-Err-clause-told : goal.returns-in-Err-clause-told
returns-in-Err-clause-told g c = λ file told.
    rw (c.frame_stop.ensures) (frame_stopped c.in-Err.stop c.args.form file c.args.end c.args.handle (c.in-Err.ensures.exact file told))

pub returns-in-Err-Cause-clause-told : goal.returns-in-Err-Cause-clause-told
returns-in-Err-Cause-clause-told g c = λ file told.
    bytes_wrong c.args.form file c.args.end c.args.handle c.in-Ok.bytes c.in-Err-Cause.fault (c.in-Ok.ensures.exact file told)
    (subst (λ (b : List ℕ). IsFirstFault c.args.form b c.in-Err-Cause.fault) c.as_slice.ensures (c.in-Err-Cause.ensures.refuses c.in-Err-Cause.fault (ap Err c.in-Err-Cause.field-0-is)).0)

pub returns-clause-framed : goal.returns-clause-framed
returns-clause-framed g c = λ file told. framed-read file c.args.end c.args.handle c.in-Ok.bytes (c.in-Ok.ensures.exact file told)
