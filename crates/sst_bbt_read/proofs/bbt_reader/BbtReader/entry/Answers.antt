use Rattle.sst_key.specs.Entry.{entry_of}
use Rattle.sst_bbt_read.proofs.Moved.{here, shown, shown-at}
use Rattle.sst_bbt_read.proofs.bbt_reader.BbtReader.entry.Goals as goal

pub returns-clause-on : goal.returns-clause-on
returns-clause-on c = λ file parts i opens on.
    let is = here _ c.args.self.now c.in-Some.place (entry_of c.entry.result) c.self.view_is c.entry.ensures in
    shown c.args.self.now c.args.c.now parts i c.in-Some.place (entry_of c.entry.result) c.in-Some.is is (on.of parts opens) on.stands

pub returns-clause-at : goal.returns-clause-at
returns-clause-at c = λ file entries i at.
    let is = here _ c.args.self.now c.in-Some.place (entry_of c.entry.result) c.self.view_is c.entry.ensures in
    shown-at c.args.self.now c.args.c.now file entries i c.in-Some.place (entry_of c.entry.result) c.in-Some.is is at
