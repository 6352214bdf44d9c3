use Rattle.std.proofs.Common.{◌≡◌, ℕ, ◌||◌, drop}
use Rattle.sst_bloom.specs.Lines.{AreBytes, is_set, some_takes}
use Rattle.sst_bloom.proofs.lines.set_all.Given as goal

-- with the bits of the hashes that are left, those of all hashes are set
abbrev pub invariant-loop-hash : goal.invariant-loop-hash
invariant-loop-hash l = record {
  bits : (p : ℕ) → (is_set l.body p || some_takes l.lines 64 (drop l.hash-index l.hashes) l.probes p) ≡ (is_set l.fn.body p || some_takes l.lines 64 l.hashes l.probes p);
  bytes : AreBytes l.fn.body → AreBytes l.body;
}
