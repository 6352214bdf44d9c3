use Rattle.sst_sums.proofs.Slices.{eight_tables}
use Rattle.sst_sums.proofs.checksum.word_with_zeros.Goals as goal

pub returns : goal.returns
returns c =
    rw (
      c.with_zeros.ensures,
      c.with_zeros-2.ensures,
      c.with_zeros-3.ensures,
      c.with_zeros-4.ensures,
      c.with_zeros-5.ensures,
      c.with_zeros-6.ensures,
      c.with_zeros-7.ensures,
      c.with_zeros-8.ensures,
    )
    (eight_tables c.args.after c.args.word c.ranges.word.fits)
