use Rattle.std.proofs.Common.{ap}
use Rattle.sst_bbt_read.specs.Seats.{OpenReader}
use Rattle.sst_bbt_read.proofs.OpenedReader.{opens-as, opens-kept, no-damage, none-belongs}
use Rattle.sst_bbt_read.proofs.bbt_reader.BbtReader.open.Goals as goal

pub returns-in-Err-clause-stands : goal.returns-in-Err-clause-stands
returns-in-Err-clause-stands g c = λ file entries told stands fault is. no-damage c.in-Err.stop stands.parts fault (c.in-Err.ensures.stands file entries told stands) is

pub returns-in_ok-reader-in-Ok-clause-told : goal.returns-in_ok-reader-in-Ok-clause-told
returns-in_ok-reader-in-Ok-clause-told g c = λ file told.
    opens-as c.in_ok-reader-in-Ok.reader c.in-Ok.table file (ap (λ (r : OpenReader). r.table) c.in_ok-reader-in-Ok.ensures) (c.in-Ok.ensures.told file told)

pub returns-in_ok-reader-in-Ok-clause-none : goal.returns-in_ok-reader-in-Ok-clause-none
returns-in_ok-reader-in-Ok-clause-none g c = λ d belongs.
    none-belongs c.in_ok-reader-in-Ok.reader c.args.seats d (ap (λ (r : OpenReader). r.seats) c.in_ok-reader-in-Ok.ensures) belongs

pub returns-in_ok-reader-in-Ok-clause-kept : goal.returns-in_ok-reader-in-Ok-clause-kept
returns-in_ok-reader-in-Ok-clause-kept g c =
    opens-kept c.in_ok-reader-in-Ok.reader c.in-Ok.table (g.F.Folder.held c.args.files.now) c.args.name.now (ap (λ (r : OpenReader). r.table) c.in_ok-reader-in-Ok.ensures)
    c.in-Ok.ensures.table c.in-Ok.ensures.told
