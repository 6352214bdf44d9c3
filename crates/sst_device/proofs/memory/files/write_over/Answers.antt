use Rattle.std.proofs.Common.{◌∙◌, sym, ap, refl, position, take, length, arith}
use Rattle.std.specs.Vec.{with_items}
use Rattle.sst_device.specs.declared.memory.files.MemFile.{MemFile}
use Rattle.sst_device.specs.Folder.{written_over}
use Rattle.sst_device.specs.MemFiles.{is_named}
use Rattle.sst_device.proofs.MemFiles.{found_at, get-found, get-absent, edit-found, ends-absent, ends-short, ends-far, same_written, refilled}
use Rattle.sst_device.proofs.Plans.{fails-where, fails-nowhere}
use Rattle.sst_device.proofs.memory.files.write_over.Goals as goal

pub returns-in-None-clause-fails : goal.returns-in-None-clause-fails
returns-in-None-clause-fails c = fails-where _ _ (ends-absent _ _
    (get-absent c.args.name.now c.args.files.now.items (sym (c.in-None.ensures ∙ ap (position (is_named c.args.name.now)) c.deref.ensures.value)))) refl

pub returns-in-None-range_start-clause-fails : goal.returns-in-None-range_start-clause-fails
returns-in-None-range_start-clause-fails c =
    let found = found_at c.args.name.now _ c.args.files.now.items c.in-Some.i c.index.result.now c.in-Some.ensures c.deref.ensures.value c.index.ensures in
    fails-where _ _ (ends-short _ _ _ (get-found _ _ _ _ found) (omega (arith, c.len.ensures, c.index.result.now.bytes.ok.0, c.in-None-range_start.ensures))) refl

pub returns-in-Some-range_start-clause-patched : goal.returns-in-Some-range_start-clause-patched
returns-in-Some-range_start-clause-patched c =
    let found = found_at c.args.name.now _ c.args.files.now.items c.in-Some.i c.index_mut.result.now c.in-Some.ensures c.deref.ensures.value c.index_mut.ensures.value in
    let new : MemFile = record { name = c.index_mut.result.now.name; bytes = with_items c.index_mut.result.now.bytes c.copy_over.new.bytes } in
    edit-found _ _ _ _ new (written_over c.args.at (take c.args.count c.args.piece.now)) found refl
    (refilled c.index_mut.result.now.bytes.len c.copy_over.new.bytes c.index_mut.result.now.bytes.items c.index_mut.result.now.bytes.ok.0
    (c.copy_over.auto.bytes ∙ ap length c.deref_mut.ensures.value)
    ∙ c.copy_over.ensures ∙ same_written _ _ _ _ _ _ c.in-Some-range_start.ensures.0 c.split_at.ensures.front c.deref_mut.ensures.value)

pub returns-in-Some-range_start-clause-fails : goal.returns-in-Some-range_start-clause-fails
returns-in-Some-range_start-clause-fails c =
    let found = found_at c.args.name.now _ c.args.files.now.items c.in-Some.i c.index.result.now c.in-Some.ensures c.deref.ensures.value c.index.ensures in
    fails-nowhere _ _ (ends-far _ _ _ (get-found _ _ _ _ found) (omega (arith, c.len.ensures, c.index.result.now.bytes.ok.0, c.in-Some-range_start.ensures.1)))
    (λ is. absurd cc)
