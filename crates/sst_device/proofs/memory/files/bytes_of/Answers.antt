use Rattle.std.proofs.Common.{refl, sym, ap, Some, ◌∙◌}
use Rattle.sst_device.proofs.MemFiles.{found_at, get-found, get-absent}
use Rattle.sst_device.proofs.memory.files.bytes_of.Goals as goal

pub returns-in-None : goal.returns-in-None
returns-in-None c = get-absent _ _ (sym c.in-None.ensures)

pub returns-in-Some : goal.returns-in-Some
returns-in-Some c =
    let found = found_at c.args.name.now _ c.args.files.now c.in-Some.i c.index-files-i.result c.in-Some.ensures refl c.index-files-i.is in
    get-found _ _ _ _ found ∙ ap (λ file. Some file.bytes.items) c.index-files-i.is ∙ ap Some (sym c.as_slice.ensures.value)
