use Rattle.std.proofs.Common.{◌≡◌, sym}
use Rattle.sst_block.proofs.Tails.{after-tails}
use Rattle.sst_block.proofs.row.change_key.Goals as goal

pub returns-clause-after : goal.returns-clause-after
returns-clause-after c =
    let held : c.bytes.result.now ≡ c.args.key.now = c.bytes.ensures in
    let place = c.tails_begin-place.ensures in
    let tails = after-tails c.args.form c.args.key.now c.args.rest.now c.args.shared c.tails_begin-place.result place.within c.requires.shared (rw (sym held) place.whole) in
    rw (c.if-first.false, sym tails) cc
