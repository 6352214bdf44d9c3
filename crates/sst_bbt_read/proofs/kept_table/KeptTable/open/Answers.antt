use Rattle.std.proofs.Common.{Err, Option, ap, ◌∙◌, arith}
use Rattle.sst_device.specs.Folder.{Files, file_of}
use Rattle.sst_bbt_read.proofs.LoadedTree.{stopped, loaded_length, after_load, whole_failed}
use Rattle.sst_bbt_read.proofs.StandsOpened.{opens_to}
use Rattle.sst_bbt_read.proofs.kept_table.KeptTable.open.Goals as goal

pub returns-in-Err-clause-told : goal.returns-in-Err-clause-told
returns-in-Err-clause-told g c = λ file told. rw (c.meta_stop.ensures) (stopped c.in-Err.stop file (c.in-Err.ensures.told file told))

pub returns-in-Ok-clause-told : goal.returns-in-Ok-clause-told
returns-in-Ok-clause-told g c = λ file told.
    let known = ap (λ (h : Option Files). file_of h c.args.name.now) c.load.ensures.folder.same_files ∙ told in
    after_load c.open_tree.result c.in-Ok.loaded file c.end-end.result c.index_form-form.result (c.in-Ok.ensures.told file told) c.end-end.ensures c.index_form-form.ensures.exact
    (c.open_tree.ensures.opens file known) (c.open_tree.ensures.told file known)

pub returns-in-Ok-clause-folder : goal.returns-in-Ok-clause-folder
returns-in-Ok-clause-folder g c =
    let loads = c.in-Ok.ensures.folder in
    let opens = c.open_tree.ensures.folder in
    record {
      same_files = opens.same_files ∙ loads.same_files;
      counts = omega (arith, loads.counts, opens.counts);
      hides_none = grind (arith, loads.hides_none, opens.hides_none);
      cause = λ failed.
          whole_failed (g.F.Folder.held c.args.files.now) (g.F.Folder.held c.load.new.files) c.args.name.now c.end-end.result (g.F.Folder.faults c.args.files.now)
          (g.F.Folder.faults c.load.new.files) (g.F.Folder.faults c.open_tree.new.files) loads.same_files loads.counts
          (λ file told. omega (arith, c.end-end.ensures, loaded_length file c.in-Ok.loaded (c.in-Ok.ensures.told file told)))
          (opens.cause failed);
    }

pub returns-in-Ok-clause-stands : goal.returns-in-Ok-clause-stands
returns-in-Ok-clause-stands g c = λ file entries told stands.
    opens_to c.open_tree.result file entries stands (returns-in-Ok-clause-told g c file told)

pub returns-in-Err-clause-stands : goal.returns-in-Err-clause-stands
returns-in-Err-clause-stands g c = λ file entries told stands.
    opens_to (Err c.meta_stop.result) file entries stands (returns-in-Err-clause-told g c file told)
