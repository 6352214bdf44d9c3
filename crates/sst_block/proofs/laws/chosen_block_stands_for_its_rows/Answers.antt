use Rattle.sst_block.proofs.BlockLaws.{block_of_is_block}
use Rattle.sst_block.proofs.laws.chosen_block_stands_for_its_rows.Goals as goal

pub returns : goal.returns
returns c = block_of_is_block
