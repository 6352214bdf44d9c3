use Rattle.std.proofs.Common.{◌∙◌, sym, length}
use Rattle.sst_bloom.proofs.Looking.{line_power}
use Rattle.sst_bloom.proofs.reading.denied_by.Goals as goal

pub misses-requires-clause-power : goal.misses-requires-clause-power
misses-requires-clause-power c = line_power c.fixed32-lines.result (length c.args.body.now) c.in-Some.size (sym c.line_size.ensures ∙ c.in-Some.is)
