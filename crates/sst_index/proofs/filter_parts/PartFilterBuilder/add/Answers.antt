use Rattle.sst_index.proofs.filter_parts.PartFilterBuilder.add.Goals as goal

pub returns-in-Ok-clause-ok : goal.returns-in-Ok-clause-ok
returns-in-Ok-clause-ok c = λ bits parts users h.
    record { sound = h.sound; bits_is = h.bits_is; part = c.in-Ok.ensures.ok bits users h.part; stored_is = h.stored_is; sizes_are = h.sizes_are }
