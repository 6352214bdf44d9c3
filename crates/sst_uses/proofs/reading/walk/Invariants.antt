use Rattle.std.proofs.Common.{◌≡◌, ℕ, List, Option}
use Rattle.sst_key.specs.declared.entries.Entry.{Entry}
use Rattle.sst_bbt_read.specs.Positions.{Tells, Belongs, IsSame, At, SameReader, rest}
use Rattle.sst_uses.specs.Uses.{IsCopied}
use Rattle.sst_uses.proofs.reading.walk.Given as goal

abbrev pub invariant-loop-alloc : goal.invariant-loop-alloc
invariant-loop-alloc g l = record {
  belongs : Belongs l.table l.cursor;
  same : IsSame l.fn.cursor l.cursor;
  reader : SameReader (g.F.Folder.held l.fn.files) l.fn.table l.table;
  held : g.F.Folder.held l.files ≡ g.F.Folder.held l.fn.files;
  copied : (file : List ℕ) (entries : List Entry) (place : Option ℕ) → Tells (g.F.Folder.held l.fn.files) l.fn.table file → At l.fn.table l.fn.cursor file entries place
      → (now : Option ℕ) × At l.table l.cursor file entries now × IsCopied entries l.copied.items now;
}

abbrev pub decreases-loop-alloc : goal.decreases-loop-alloc
decreases-loop-alloc g l = rest l.table l.cursor
