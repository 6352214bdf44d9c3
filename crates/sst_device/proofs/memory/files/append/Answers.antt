use Rattle.std.proofs.Common.{◌∙◌, ◌++◌, take, refl, sym, ap, position, arith}
use Rattle.sst_device.specs.MemFiles.{is_named}
use Rattle.sst_device.proofs.MemFiles.{found_at, get-found, get-absent, edit-found, ends-absent, ends-far, kept-found}
use Rattle.sst_device.proofs.Plans.{fails-where, fails-nowhere}
use Rattle.sst_device.proofs.memory.files.append.Goals as goal

pub returns-in-None-clause-fails : goal.returns-in-None-clause-fails
returns-in-None-clause-fails c = fails-where _ _ (ends-absent _ 0
    (get-absent c.args.name.now c.args.files.now.items (sym (c.in-None.ensures ∙ ap (position (is_named c.args.name.now)) c.deref.ensures.value)))) refl

pub returns-in-Ok-clause-added : goal.returns-in-Ok-clause-added
returns-in-Ok-clause-added c =
    let found = found_at c.args.name.now _ c.args.files.now.items c.in-Some.i c.index_mut.result.now c.in-Some.ensures c.deref.ensures.value c.index_mut.ensures.value in
    edit-found _ _ _ _ _ (λ bytes. bytes ++ take c.args.count c.args.piece.now) found refl
    (c.in-Ok.ensures.items ∙ ap (λ l. c.index_mut.result.now.bytes.items ++ l) c.split_at.ensures.front)

pub returns-in-Ok-clause-fails : goal.returns-in-Ok-clause-fails
returns-in-Ok-clause-fails c =
    let found = found_at c.args.name.now _ c.args.files.now.items c.in-Some.i c.index_mut.result.now c.in-Some.ensures c.deref.ensures.value c.index_mut.ensures.value in
    fails-nowhere _ _ (ends-far _ _ 0 (get-found _ _ _ _ found) (omega arith)) (λ is. absurd cc)

pub returns-in-Err-clause-fails : goal.returns-in-Err-clause-fails
returns-in-Err-clause-fails c =
    let found = found_at c.args.name.now _ c.args.files.now.items c.in-Some.i c.index_mut.result.now c.in-Some.ensures c.deref.ensures.value c.index_mut.ensures.value in
    fails-nowhere _ _ (ends-far _ _ 0 (get-found _ _ _ _ found) (omega arith)) (λ is. absurd cc)

pub returns-in-Err-clause-kept : goal.returns-in-Err-clause-kept
returns-in-Err-clause-kept c =
    let found = found_at c.args.name.now _ c.args.files.now.items c.in-Some.i c.index_mut.result.now c.in-Some.ensures c.deref.ensures.value c.index_mut.ensures.value in
    kept-found _ _ _ _ _ found refl c.in-Err.ensures.items
