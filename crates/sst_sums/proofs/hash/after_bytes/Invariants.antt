use Rattle.std.proofs.Common.{◌≡◌, length}
use Rattle.sst_sums.specs.Hash as hashes
use Rattle.sst_sums.proofs.hash.after_bytes.Given as goal

-- the bytes that are left lead from here to where all of them lead
abbrev pub invariant-loop-left : goal.invariant-loop-left
invariant-loop-left l = hashes.after_bytes l.h l.left ≡ hashes.after_bytes l.fn.h l.fn.bytes

abbrev pub decreases-loop-left : goal.decreases-loop-left
decreases-loop-left l = length l.left
