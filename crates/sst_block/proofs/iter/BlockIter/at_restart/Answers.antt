use Rattle.std.proofs.Common.{arith}
use Rattle.sst_block.proofs.RestartPlaces.{restart-in, restart-low, restart-room}
use Rattle.sst_block.proofs.iter.BlockIter.at_restart.Goals as goal

pub restart-start-requires : goal.restart-start-requires
restart-start-requires c =
    let (form, bytes, rows, b, place, w, within) = c.requires in
    omega (arith, restart-room c.args.self.now form bytes rows b place w, within)

pub go_to-requires : goal.go_to-requires
go_to-requires c =
    let (form, bytes, rows, b, place, w, within) = c.requires in
    restart-low c.args.self.now form bytes rows b place _ _ w within c.restart-start.ensures

pub returns-clause-within : goal.returns-clause-within
returns-clause-within c = λ form bytes rows b place w within.
    (restart-in c.args.self.now c.go_to.new.self _ form bytes rows b place _ _ w (record { form = c.go_to.ensures.stays.form; rows = c.go_to.ensures.stays.rows; places = c.go_to.ensures.stays.places; count = c.go_to.ensures.stays.count }) within c.restart-start.ensures (record { none = c.go_to.ensures.none; some = c.go_to.ensures.some })).0

pub returns-clause-tells : goal.returns-clause-tells
returns-clause-tells c = λ form bytes rows b place w within.
    (restart-in c.args.self.now c.go_to.new.self _ form bytes rows b place _ _ w (record { form = c.go_to.ensures.stays.form; rows = c.go_to.ensures.stays.rows; places = c.go_to.ensures.stays.places; count = c.go_to.ensures.stays.count }) within c.restart-start.ensures (record { none = c.go_to.ensures.none; some = c.go_to.ensures.some })).1
