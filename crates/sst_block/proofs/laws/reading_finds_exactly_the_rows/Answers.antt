use Rattle.sst_block.proofs.BlockRead.{read-complete, read-sound}
use Rattle.sst_block.proofs.laws.reading_finds_exactly_the_rows.Goals as goal

pub returns : goal.returns
returns c = record { complete = read-complete; sound = read-sound }
