use Rattle.std.proofs.Common.{◌≡◌, ℕ, List, length, drop, Option, None, ◌-◌, ◌≤◌}
use Rattle.sst_bbt_spec.specs.Parts.{Part}
use Rattle.sst_bbt_read.specs.Kept.{StandsOn}
use Rattle.sst_bbt_read.specs.Positions.{IsSame}
use Rattle.sst_bbt_read.specs.Seats.{SameSeats}
use Rattle.sst_cli.specs.Answering.{IsQuiet, StandBoth}
use Rattle.sst_cli.specs.Replies.{Printing}
use Rattle.sst_cli.proofs.output.answers.print_lines.Given as goal

abbrev pub invariant-loop-done : goal.invariant-loop-done
invariant-loop-done g l = record {
  within : l.done ≤ length l.calls;
  both : (parts : List Part) → StandBoth l.fn.reader l.fn.position l.fn.found parts → StandBoth l.reader l.position l.found parts;
  same : IsSame l.fn.position l.position × IsSame l.fn.found l.found;
  seats : SameSeats l.fn.reader l.reader;
  quiet : IsQuiet (g.F.Folder.held l.fn.files) (g.F.Folder.held l.files) (g.F.Folder.faults l.fn.files) (g.F.Folder.faults l.files);
  printing : (parts : List Part) → StandsOn l.fn.reader l.fn.position parts None
      → (place : Option ℕ) × StandsOn l.reader l.position parts place
      × Printing parts l.calls (g.O.Sink.written l.fn.out) (g.O.Sink.written l.out) l.text.items place (drop l.done l.calls);
  counts : g.O.Sink.faults l.out ≡ g.O.Sink.faults l.fn.out;
}

abbrev pub decreases-loop-done : goal.decreases-loop-done
decreases-loop-done g l = length l.calls - l.done
