use Rattle.std.proofs.Common.{arith}
use Rattle.sst_bbt_write.proofs.Rows.{weight-many}
use Rattle.sst_bbt_write.proofs.bbt_writer.BbtWriter.count.Goals as goal

pub returns-clause-few : goal.returns-clause-few
returns-clause-few c =
    let kept = c.requires.3.keeps in
    let many = weight-many c.requires.1 in
    let light = kept.fits.light in
    let count = kept.count in
    omega arith
