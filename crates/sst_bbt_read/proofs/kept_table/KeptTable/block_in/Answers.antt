use Rattle.std.proofs.Common.{arith}
use Rattle.sst_bbt_read.proofs.TableRead.{start-read}
use Rattle.sst_bbt_read.proofs.kept_table.KeptTable.block_in.Goals as goal

pub returns-else-i-count-clause-within : goal.returns-else-i-count-clause-within
returns-else-i-count-clause-within c =
    let within = start-read _ c.args.self.now c.as_slice.result.now c.start_of.result _ c.self.view_is c.self.invariant c.as_slice.ensures.value c.start_of.ensures (omega arith) in
    omega (arith, within)
