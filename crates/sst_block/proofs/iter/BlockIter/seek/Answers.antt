use Rattle.sst_block.proofs.iter.BlockIter.seek.Goals as goal

pub at_restart-requires : goal.at_restart-requires
at_restart-requires c =
    let r = c.requires in
    let found = c.restart_for-i.ensures r.form r.bytes r.rows r.block r.place r.walks r.long in
    (r.form, r.bytes, r.rows, r.block, found.2.0, found.2.1, found.0)

pub forward_to-requires : goal.forward_to-requires
forward_to-requires c =
    let r = c.requires in
    let found = c.restart_for-i.ensures r.form r.bytes r.rows r.block r.place r.walks r.long in
    let (k, at, there, told, row) = c.at_restart.ensures.within r.form r.bytes r.rows r.block found.2.0 found.2.1 found.0 in
    (r.form, r.bytes, r.rows, r.block, k, there, found.1 k at row, r.long)

pub returns-clause-within : goal.returns-clause-within
returns-clause-within c = λ form bytes rows b place w long.
    let found = c.restart_for-i.ensures form bytes rows b place w long in
    let (k, at, there, told, row) = c.at_restart.ensures.within form bytes rows b found.2.0 found.2.1 found.0 in
    (c.forward_to.ensures form bytes rows b k there (found.1 k at row) long).0

pub returns-clause-tells : goal.returns-clause-tells
returns-clause-tells c = λ form bytes rows b place w long.
    let found = c.restart_for-i.ensures form bytes rows b place w long in
    let (k, at, there, told, row) = c.at_restart.ensures.within form bytes rows b found.2.0 found.2.1 found.0 in
    (c.forward_to.ensures form bytes rows b k there (found.1 k at row) long).1
