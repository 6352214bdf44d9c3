use Rattle.sst_bbt_read.proofs.Chaining.{tells-opened}
use Rattle.sst_uses.proofs.Found.{same-damage}
use Rattle.sst_uses.proofs.cursors.ends.Goals as goal

pub returns-in-Ok-clause-ends : goal.returns-in-Ok-clause-ends
returns-in-Ok-clause-ends g c = λ file entries held stands.
    let told = tells-opened (g.F.Folder.held c.args.files.now) (g.F.Folder.held c.open.new.files) c.in-Ok.table c.args.name.now file c.in-Ok.ensures.folder.same_files c.in-Ok.ensures.name held in
    c.with_front-found.ensures.ends file entries told (c.in-Ok.ensures.told file held).0 stands

pub returns-in-Ok-clause-sound : goal.returns-in-Ok-clause-sound
returns-in-Ok-clause-sound g c = λ file entries held stands fault is.
    let told = tells-opened (g.F.Folder.held c.args.files.now) (g.F.Folder.held c.open.new.files) c.in-Ok.table c.args.name.now file c.in-Ok.ensures.folder.same_files c.in-Ok.ensures.name held in
    c.with_front-found.ensures.sound file entries told (c.in-Ok.ensures.told file held).0 stands fault is

pub returns-in-Err-clause-sound : goal.returns-in-Err-clause-sound
returns-in-Err-clause-sound g c = λ file entries held stands fault is. c.in-Err.ensures.stands file entries held stands fault (same-damage c.in-Err.stop fault is)
