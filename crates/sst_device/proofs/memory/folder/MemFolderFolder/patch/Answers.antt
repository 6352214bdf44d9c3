use Rattle.std.proofs.Common.{take, length, arith}
use Rattle.sst_device.specs.Folder.{written_over}
use Rattle.sst_device.proofs.MemFiles.{written_over-nil}
use Rattle.sst_device.proofs.CutShort.{within-kept, within-cut}
use Rattle.sst_device.proofs.memory.folder.MemFolderFolder.patch.Goals as goal

pub returns-then-fails-clause-err : goal.returns-then-fails-clause-err
returns-then-fails-clause-err c =
    within-cut (λ n. written_over c.args.at (take n c.args.piece.now)) (written_over-nil c.args.at) _ _ _ c.args.at c.written_in_failure-count.result
    (length c.args.piece.now) c.write_over.result c.write_over.ensures.patched c.write_over.ensures.kept c.write_over.ensures.fails
    (omega (arith, c.written_in_failure-count.ensures.count))

pub returns-clause-err : goal.returns-clause-err
returns-clause-err c =
    within-kept (λ n. written_over c.args.at (take n c.args.piece.now)) (written_over-nil c.args.at) _ _ _ c.args.at
    c.write_over-2.result c.write_over-2.ensures.kept
