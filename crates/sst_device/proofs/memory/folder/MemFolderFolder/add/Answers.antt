use Rattle.std.proofs.Common.{◌++◌, take, append-nil, ap}
use Rattle.sst_device.proofs.CutShort.{prefix-kept, prefix-cut, cut-or-kept}
use Rattle.sst_device.proofs.memory.folder.MemFolderFolder.add.Goals as goal

pub returns-then-fails-clause-err : goal.returns-then-fails-clause-err
returns-then-fails-clause-err c =
    prefix-cut (λ n bytes. bytes ++ take n c.args.piece.now) append-nil _ _ _ _ c.append.result c.append.ensures.added c.append.ensures.kept

pub returns-then-fails-clause-cut_short : goal.returns-then-fails-clause-cut_short
returns-then-fails-clause-cut_short c = λ fails.
    cut-or-kept (λ n bytes. bytes ++ take n c.args.piece.now) append-nil _ _ _ c.written_in_failure-count.result 3 c.append.result
    c.append.ensures.added c.append.ensures.kept (ap (λ part bytes. bytes ++ part) c.written_in_failure-count.ensures.part)

pub returns-clause-err : goal.returns-clause-err
returns-clause-err c =
    prefix-kept (λ n bytes. bytes ++ take n c.args.piece.now) append-nil _ _ _ c.append-2.result c.append-2.ensures.kept
