use Rattle.sst_sums.proofs.Slices.{one_byte}
use Rattle.sst_sums.proofs.checksum.after_byte.Goals as goal

pub returns : goal.returns
returns c = rw (c.with_zeros.ensures, c.from-2.ensures, c.from.ensures) (one_byte c.args.remainder c.args.byte)
