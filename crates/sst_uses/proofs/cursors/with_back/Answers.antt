use Rattle.std.proofs.Common.{None, refl}
use Rattle.sst_bbt_read.proofs.Chaining.{tells-on}
use Rattle.sst_uses.proofs.cursors.with_back.Goals as goal

pub returns-in-Ok-clause-ends : goal.returns-in-Ok-clause-ends
returns-in-Ok-clause-ends g c = λ file entries told at.
    let held = g.F.Folder.held c.args.files.now in
    c.go_apart-found.ensures.ends file entries (tells-on held held c.args.table.now c.cursor.new.self file refl c.in-Ok.ensures.name told)
    (c.in-Ok.ensures.others_at c.args.front.now file entries None at) (c.in-Ok.ensures.at file entries at.on.of at.stands_for)

pub returns-in-Ok-clause-sound : goal.returns-in-Ok-clause-sound
returns-in-Ok-clause-sound g c = λ file entries told at fault is.
    let held = g.F.Folder.held c.args.files.now in
    c.go_apart-found.ensures.sound file entries (tells-on held held c.args.table.now c.cursor.new.self file refl c.in-Ok.ensures.name told)
    (c.in-Ok.ensures.others_at c.args.front.now file entries None at) (c.in-Ok.ensures.at file entries at.on.of at.stands_for) fault is
