use Rattle.std.proofs.Common.{refl}
use Rattle.sst_bbt_read.proofs.Chaining.{tells-on}
use Rattle.sst_uses.proofs.cursors.with_front.Goals as goal

pub returns-in-Ok-clause-ends : goal.returns-in-Ok-clause-ends
returns-in-Ok-clause-ends g c = λ file entries told of stands.
    let held = g.F.Folder.held c.args.files.now in
    c.with_back-found.ensures.ends file entries (tells-on held held c.args.table.now c.cursor.new.self file refl c.in-Ok.ensures.name told) (c.in-Ok.ensures.at file entries of stands)

pub returns-in-Ok-clause-sound : goal.returns-in-Ok-clause-sound
returns-in-Ok-clause-sound g c = λ file entries told of stands fault is.
    let held = g.F.Folder.held c.args.files.now in
    c.with_back-found.ensures.sound file entries (tells-on held held c.args.table.now c.cursor.new.self file refl c.in-Ok.ensures.name told) (c.in-Ok.ensures.at file entries of stands) fault is
