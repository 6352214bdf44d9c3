use Rattle.std.proofs.Common.{arith}
use Rattle.sst_bbt_read.proofs.TableRead.{begins-behind}
use Rattle.sst_bbt_read.proofs.kept_table.moves.start_of.Goals as goal

pub returns-in-Some : goal.returns-in-Some
returns-in-Some c = begins-behind c.args.runs.now c.args.i c.in-Some.before c.index-runs-before.result c.requires (omega arith) c.index-runs-before.is
