use Rattle.std.proofs.Common.{arith, ◌≡◌, ◌+◌, ℕ, take}
use Rattle.std.specs.Io.KnownBytes.{append_known}
use Rattle.sst_device.proofs.Pieces.{OnErr-always, append_known-more}
use Rattle.sst_device.proofs.stream.put_all.Goals as goal

pub returns-in_err-taken-clause-err : goal.returns-in_err-taken-clause-err
returns-in_err-taken-clause-err g c =
    let e = c.in_err-taken.ensures.err in
    let P : ℕ → Type 0 = λ n. g.O.Sink.written c.put.new.self ≡ append_known (g.O.Sink.written c.args.out.now) (take n c.args.piece.now) in
    let found : (n : ℕ) × P n = (c.loop-done.done + e.0, append_known-more _ _ _ c.loop-done.done e.0 c.args.piece.now _ c.loop-done.invariant.written c.split_at.ensures.back e.1) in
    OnErr-always _ _ found

pub loop-done-preserved : goal.loop-done-preserved
loop-done-preserved g c = record {
  within = omega (arith, c.split_at.ensures.back_len, c.in_ok-taken.ensures.within);
  written = append_known-more _ _ _ c.loop-done.done c.in_ok-taken.taken c.args.piece.now _ c.loop-done.invariant.written c.split_at.ensures.back c.in_ok-taken.ensures.appended;
  counts = grind arith;
}
