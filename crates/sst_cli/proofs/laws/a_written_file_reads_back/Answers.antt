use Rattle.sst_bbt_write.proofs.Stands.{stands}
use Rattle.sst_cli.proofs.laws.a_written_file_reads_back.Goals as goal

pub returns : goal.returns
returns c = λ options entries chosen fits.
    let file = stands options entries chosen fits in
    (file.parts, file.opens, file.runs.joined_is)
