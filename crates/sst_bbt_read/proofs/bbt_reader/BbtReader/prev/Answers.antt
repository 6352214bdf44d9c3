use Rattle.std.proofs.Common.{refl}
use Rattle.sst_key.specs.declared.calls.Call.TheVariants as call
use Rattle.sst_bbt_read.specs.declared.cursor.Cursor.{Cursor}
use Rattle.sst_bbt_read.proofs.Moved.{came, goes, moved}
use Rattle.sst_bbt_read.proofs.bbt_reader.BbtReader.prev.Goals as goal

pub returns-clause-way : goal.returns-clause-way
returns-clause-way g c = λ file parts place told opens on.
    let d : Cursor = record { number = c.args.c.now.number; place = c.prev.new.place } in
    let step = came _ c.args.self.now c.args.c.now d c.prev.result call.Prev c.self.view_is refl c.prev.ensures.exact c.prev.ensures.belongs in
    goes c.args.self.now c.args.c.now d c.prev.result call.Prev step file parts place opens on

pub returns-clause-moved : goal.returns-clause-moved
returns-clause-moved g c = λ file entries place told at.
    let d : Cursor = record { number = c.args.c.now.number; place = c.prev.new.place } in
    let step = came _ c.args.self.now c.args.c.now d c.prev.result call.Prev c.self.view_is refl c.prev.ensures.exact c.prev.ensures.belongs in
    moved c.args.self.now c.args.c.now d c.prev.result call.Prev step file entries place at
