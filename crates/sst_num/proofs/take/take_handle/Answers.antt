use Rattle.sst_num.proofs.NumberReading.{handle-no_size, IfNone-holds}
use Rattle.sst_num.proofs.take.take_handle.Goals as goal

pub returns-in_err-size-clause-none : goal.returns-in_err-size-clause-none
returns-in_err-size-clause-none c =
    IfNone-holds _ (handle-no_size _ _ _ _ c.in_ok-offset.ensures.exact c.split_at.ensures.back c.in_err-size.ensures.exact)
