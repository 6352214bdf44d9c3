use Rattle.std.proofs.Common.{None, refl}
use Rattle.sst_bbt_read.proofs.Chaining.{tells-on}
use Rattle.sst_uses.proofs.reading.walked.Goals as goal

pub returns-in-Ok-clause-all : goal.returns-in-Ok-clause-all
returns-in-Ok-clause-all g c = λ file entries told of stands.
    let held = g.F.Folder.held c.args.files.now in
    c.walk-entries.ensures.all file entries None (tells-on held held c.args.table.now c.cursor.new.self file refl c.in-Ok.ensures.name told) (c.in-Ok.ensures.at file entries of stands)

pub returns-in-Ok-clause-sound : goal.returns-in-Ok-clause-sound
returns-in-Ok-clause-sound g c = λ file entries told of stands fault is.
    let held = g.F.Folder.held c.args.files.now in
    c.walk-entries.ensures.sound file entries None (tells-on held held c.args.table.now c.cursor.new.self file refl c.in-Ok.ensures.name told) (c.in-Ok.ensures.at file entries of stands) fault is
