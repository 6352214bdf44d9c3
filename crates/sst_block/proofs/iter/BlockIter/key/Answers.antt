use Rattle.std.proofs.Common.{◌∙◌}
use Rattle.sst_block.proofs.Walking.{key-in}
use Rattle.sst_block.proofs.iter.BlockIter.key.Goals as goal

pub returns : goal.returns
returns c = λ rows i w. let shown = key-in c.args.self.now rows i w in (shown.0, shown.1, c.bytes.ensures ∙ shown.2)
