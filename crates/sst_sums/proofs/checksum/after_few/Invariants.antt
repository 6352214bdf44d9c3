use Rattle.std.proofs.Common.{◌≡◌, fold, drop}
use Rattle.sst_sums.specs.Sums as sums
use Rattle.sst_sums.proofs.checksum.after_few.Given as goal

-- the bytes that are left lead from here to where all of them lead
abbrev pub invariant-loop-byte : goal.invariant-loop-byte
invariant-loop-byte l = fold sums.crc_byte l.remainder (drop l.byte-index l.few) ≡ fold sums.crc_byte l.fn.remainder l.few
