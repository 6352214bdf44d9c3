use Rattle.std.proofs.Common.{◌≡◌, ℕ, List, Option, None}
use Rattle.std.specs.Option.{is_some}
use Rattle.sst_text.specs.EntryText.{lines_text}
use Rattle.sst_bbt_spec.specs.Parts.{Part, stored_in}
use Rattle.sst_bbt_read.specs.Kept.{StandsOn}
use Rattle.sst_bbt_read.specs.Positions.{rest}
use Rattle.sst_bbt_read.specs.Seats.{SameSeats}
use Rattle.sst_cli.specs.Answering.{IsQuiet}
use Rattle.sst_cli.specs.PartPrinted.{PartPrinted}
use Rattle.sst_cli.specs.ScanCommand.{from_place, scan_text, scanned_after}
use Rattle.sst_cli.proofs.output.listing.print_walk.Given as goal

abbrev pub invariant-loop-there : goal.invariant-loop-there
invariant-loop-there g l = record {
  seats : SameSeats l.fn.reader l.reader;
  quiet : IsQuiet (g.F.Folder.held l.fn.files) (g.F.Folder.held l.files) (g.F.Folder.faults l.fn.files) (g.F.Folder.faults l.files);
  walking : (parts : List Part) → StandsOn l.fn.reader l.fn.position parts None
      → (place : Option ℕ) × StandsOn l.reader l.position parts place × (l.there ≡ is_some place)
      × PartPrinted (scan_text l.snapshot parts) (g.O.Sink.written l.fn.out) (g.O.Sink.written l.out) l.text.items
      (lines_text (scanned_after l.snapshot l.last (from_place place (stored_in parts))));
  counts : g.O.Sink.faults l.out ≡ g.O.Sink.faults l.fn.out;
}

abbrev pub decreases-loop-there : goal.decreases-loop-there
decreases-loop-there g l = rest l.reader l.position
