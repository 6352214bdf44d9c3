use Rattle.std.proofs.Common.{refl}
use Rattle.sst_bbt_read.specs.declared.cursor.Cursor.{Cursor}
use Rattle.sst_bbt_read.proofs.Moved.{got, finds, found-at}
use Rattle.sst_bbt_read.proofs.bbt_reader.BbtReader.get.Goals as goal

pub returns-clause-way : goal.returns-clause-way
returns-clause-way g c = λ file parts place told opens on.
    let d : Cursor = record { number = c.args.c.now.number; place = c.get.new.place } in
    let step = got _ c.args.self.now c.args.c.now d c.get.result c.args.user.now c.args.seq c.self.view_is refl c.get.ensures.place c.get.ensures.found c.get.ensures.belongs in
    finds c.args.self.now c.args.c.now d c.get.result c.args.user.now c.args.seq step file parts place opens on

pub returns-clause-moved : goal.returns-clause-moved
returns-clause-moved g c = λ file entries place told at.
    let d : Cursor = record { number = c.args.c.now.number; place = c.get.new.place } in
    let step = got _ c.args.self.now c.args.c.now d c.get.result c.args.user.now c.args.seq c.self.view_is refl c.get.ensures.place c.get.ensures.found c.get.ensures.belongs in
    found-at c.args.self.now c.args.c.now d c.get.result c.args.user.now c.args.seq step file entries place at
