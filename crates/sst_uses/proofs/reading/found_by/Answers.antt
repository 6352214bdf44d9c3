use Rattle.sst_key.specs.ListMachine.{get_of}
use Rattle.sst_uses.proofs.Found.{no-damage-get}
use Rattle.sst_uses.proofs.reading.found_by.Goals as goal

pub returns-in_ok-shown-in-Ok-clause-found : goal.returns-in_ok-shown-in-Ok-clause-found
returns-in_ok-shown-in-Ok-clause-found g c = λ file entries place told at.
    c.in_ok-shown-in-Ok.ensures file entries (get_of entries c.args.user.now c.args.seq) (c.in-Ok.ensures.moved file entries place told at).1

pub returns-in-Err-clause-sound : goal.returns-in-Err-clause-sound
returns-in-Err-clause-sound g c = λ file entries place told at fault is.
    no-damage-get c.in-Err.stop c.get.new.self c.get.new.c file entries (get_of entries c.args.user.now c.args.seq) fault (c.in-Err.ensures.moved file entries place told at) is
