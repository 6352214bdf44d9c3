use Rattle.std.proofs.Common.{◌/◌}
use Rattle.sst_bloom.proofs.Powers.{masked}
use Rattle.sst_bloom.proofs.reading.byte_in_line.Goals as goal

pub returns-clause-exact : goal.returns-clause-exact
returns-clause-exact c = masked (c.args.h / 8) c.args.size c.requires
