use Rattle.std.proofs.Common.{◌≡◌, ℕ, ◌+◌, ◌*◌, ◌%◌, ◌^◌, ◌||◌}
use Rattle.sst_bloom.specs.Lines.{AreBytes, is_set, step_of, takes}
use Rattle.sst_bloom.proofs.lines.set_probes.Given as goal

-- the bits of the probes so far are set, and the hash of the next one is at hand
abbrev pub invariant-loop : goal.invariant-loop
invariant-loop l = record {
  bits : (p : ℕ) → is_set l.body p ≡ (is_set l.fn.body p || takes l.lines 64 l.hash l.counter p);
  bytes : AreBytes l.fn.body → AreBytes l.body;
  turned : l.h ≡ (l.hash + l.counter * step_of l.hash) % 2 ^ 32;
  step_is : l.step ≡ step_of l.hash;
}
