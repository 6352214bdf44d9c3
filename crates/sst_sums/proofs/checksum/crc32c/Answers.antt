use Rattle.std.proofs.Common.{ap, bit_xor}
use Rattle.sst_sums.specs.Sums.{crc32c}
use Rattle.sst_sums.proofs.checksum.crc32c.Goals as goal

pub returns : goal.returns
unfolding crc32c
returns c = ap (λ r. bit_xor r 0xFFFFFFFF) c.after_all.ensures
