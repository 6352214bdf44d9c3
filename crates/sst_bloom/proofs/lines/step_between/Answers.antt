use Rattle.std.proofs.Common.{◌∙◌}
use Rattle.sst_sums.proofs.Turned.{right_17}
use Rattle.sst_bloom.proofs.lines.step_between.Goals as goal

pub returns : goal.returns
returns c = c.rotate_right.ensures ∙ right_17 c.args.hash c.ranges.hash.fits
