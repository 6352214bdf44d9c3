use Rattle.sst_bbt_write.proofs.FullBlocks.{blocks_for-entries, blocks_for-full}
use Rattle.sst_bbt_write.proofs.OneCut.{blocks-one}
use Rattle.sst_bbt_write.proofs.laws.a_list_is_cut_where_blocks_are_full.Goals as goal

pub returns-clause-entries : goal.returns-clause-entries
returns-clause-entries c = blocks_for-entries

pub returns-clause-full : goal.returns-clause-full
returns-clause-full c = blocks_for-full

pub returns-clause-one : goal.returns-clause-one
returns-clause-one c = blocks-one
