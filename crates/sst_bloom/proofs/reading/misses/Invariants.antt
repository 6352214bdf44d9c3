use Rattle.std.proofs.Common.{◌≡◌, ◌+◌, ◌*◌, ◌%◌, ◌^◌, false}
use Rattle.sst_bloom.specs.Lines.{step_of}
use Rattle.sst_bloom.specs.Reading.{misses}
use Rattle.sst_bloom.proofs.reading.misses.Given as goal

-- the bit of each probe so far is set, and the hash of the next one is at hand
abbrev pub invariant-loop : goal.invariant-loop
invariant-loop l = record {
  none : misses l.body l.lines l.size l.hash l.counter ≡ false;
  turned : l.h ≡ (l.hash + l.counter * step_of l.hash) % 2 ^ 32;
  step_is : l.step ≡ step_of l.hash;
}
