use Rattle.std.proofs.Common.{◌∙◌, refl, sym, ap, position}
use Rattle.std.specs.FinMap.{insert}
use Rattle.sst_device.specs.MemFiles.{files_of, is_named}
use Rattle.sst_device.proofs.MemFiles.{found_at, set-found, push-absent}
use Rattle.sst_device.proofs.memory.files.put.Goals as goal

pub returns-in-Some-clause-ok : goal.returns-in-Some-clause-ok
returns-in-Some-clause-ok c =
    let found = found_at c.args.name.now _ c.args.files.now.items c.in-Some.i c.index_mut.result.now c.in-Some.ensures c.deref.ensures.value c.index_mut.ensures.value in
    set-found _ _ _ _ _ found refl ∙ ap (insert (files_of c.args.files.now.items) c.args.name.now) c.in_ok-bytes.ensures.items

pub returns-in_ok-push-in-None-clause-ok : goal.returns-in_ok-push-in-None-clause-ok
returns-in_ok-push-in-None-clause-ok c =
    let absent = sym (c.in-None.ensures ∙ ap (position (is_named c.args.name.now)) c.deref.ensures.value) in
    ap files_of c.in_ok-push-in-None.ensures.items ∙ push-absent c.args.name.now c.args.files.now.items _ absent c.in_ok-name-in-None.ensures.ok
    ∙ ap (insert (files_of c.args.files.now.items) c.args.name.now) c.in_ok-bytes.ensures.items
