use Rattle.std.proofs.Common.{ℕ, ◌<◌, subst, ap, ◌∙◌}
use Rattle.sst_block.specs.Iter.{place_of}
use Rattle.sst_block.specs.Seek.{is_before}
use Rattle.sst_block.proofs.Seeking.{at-place}
use Rattle.sst_block.proofs.iter.BlockIter.begins_before.Goals as goal

pub at_restart-requires : goal.at_restart-requires
at_restart-requires c =
    let r = c.requires.seeks in
    (r.form, r.bytes, r.rows, r.block, r.place, r.walks, subst (λ (n : ℕ). c.args.i < n) r.walks.count c.requires.restart)

pub is_before-requires : goal.is_before-requires
is_before-requires c =
    let r = c.requires.seeks in
    let within = subst (λ (n : ℕ). c.args.i < n) r.walks.count c.requires.restart in
    let (k, at, there, told, row) = c.at_restart.ensures.within r.form r.bytes r.rows r.block r.place r.walks within in
    record { form = r.form; bytes = r.bytes; rows = r.rows; block = r.block; place = place_of r.rows k; walks = there; long = r.long }

pub returns : goal.returns
returns c = λ form bytes rows b place w long.
    let within = subst (λ (n : ℕ). c.args.i < n) w.count c.requires.restart in
    let (k, at, there, told, row) = c.at_restart.ensures.within form bytes rows b place w within in
    (k, at, there, c.is_before.ensures form bytes rows b (place_of rows k) there long ∙ ap (is_before form c.args.target.now) (at-place rows k), row)
