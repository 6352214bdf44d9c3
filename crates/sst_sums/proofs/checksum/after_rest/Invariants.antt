use Rattle.std.proofs.Common.{◌≡◌, length, fold}
use Rattle.sst_sums.specs.Sums as sums
use Rattle.sst_sums.proofs.checksum.after_rest.Given as goal

-- the bytes that are left lead from here to where all of them lead
abbrev pub invariant-loop-left : goal.invariant-loop-left
invariant-loop-left l = fold sums.crc_byte l.remainder l.left ≡ fold sums.crc_byte l.fn.remainder l.fn.b

abbrev pub decreases-loop-left : goal.decreases-loop-left
decreases-loop-left l = length l.left
