use Rattle.std.proofs.Common.{arith}
use Rattle.sst_meta.proofs.Footers.{padded}
use Rattle.sst_meta.proofs.footer.put_handles.Goals as goal

pub returns-clause-ok : goal.returns-clause-ok
returns-clause-ok c =
    padded c.args.out.now.items _ _ c.resize.new.self.items c.args.meta c.args.index c.len-start.result _ c.in_ok-put_handle.ensures.ok c.in_ok-put_handle-2.ensures.ok (omega arith) (omega arith) c.in_ok-resize.ensures.items
