use Rattle.std.proofs.Common.{rules, ◌≡◌, ◌≤◌, length, take, ap, ◌∙◌, length-take, true, arith}
use Rattle.std.specs.Result.{is_ok}
use Rattle.sst_text.proofs.Refill.{refilled, before_room}
use Rattle.sst_text.proofs.lines.refill.Goals as goal

pub returns-in-Ok-clause-more : goal.returns-in-Ok-clause-more
returns-in-Ok-clause-more g c =
    let ok : is_ok c.resize.result ≡ true = search rules in
    let items = rw ok at c.resize.ensures.items in
    let old = c.args.bytes.now.items in
    let k : c.len-before.result ≡ length old = omega arith in
    let front = c.split_at_mut-room.ensures.front ∙ ap (take c.len-before.result) c.as_mut_slice.ensures.value in
    let same = front ∙ before_room old _ c.resize.new.self.items c.len-before.result _ k items in
    let within : c.in-Ok.n ≤ length c.take.new.buf = omega (arith, c.in-Ok.ensures.within) in
    let taken = length-take c.in-Ok.n c.take.new.buf in (
      take c.in-Ok.n c.take.new.buf,
      omega arith,
      c.truncate.ensures.items ∙ refilled old c.split_at_mut-room.result.0.now c.take.new.buf _ c.len-before.result c.in-Ok.n _ k same within (omega arith),
      c.in-Ok.ensures.moved,
    )
