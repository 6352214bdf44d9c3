use Rattle.std.proofs.Common.{refl, arith}
use Rattle.sst_block.proofs.Size.{length-varint}
use Rattle.sst_meta.proofs.RowsPut.{one_stands}
use Rattle.sst_tests_blocks.proofs.loading.what_was_put.Goals as goal

pub put_ending-requires-clause-rows : goal.put_ending-requires-clause-rows
put_ending-requires-clause-rows g c = one_stands _ 19 refl (omega arith) (omega (arith, length-varint 17))
