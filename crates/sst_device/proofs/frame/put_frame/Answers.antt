use Rattle.std.proofs.Common.{◌≡◌, ◌∙◌, ◌++◌, ap, drop}
use Rattle.std.proofs.lemmas.Result.{on_ok_weaker}
use Rattle.sst_num.specs.Spelling.{fixed}
use Rattle.sst_sums.specs.Sums.{mask}
use Rattle.sst_device.specs.Framed.{frame_of}
use Rattle.sst_device.proofs.Frames.{frame-put}
use Rattle.sst_device.proofs.frame.put_frame.Goals as goal

pub returns-clause-ok : goal.returns-clause-ok
returns-clause-ok c =
    let joined : c.put_fixed32.new.out.items ≡ c.push.new.self.items ++ fixed 4 c.mask-checksum.result → c.put_fixed32.new.out.items ≡ c.args.out.now.items ++ frame_of c.args.block.now =
    frame-put c.args.out.now.items c.args.block.now c.extend_from_slice.new.self.items c.push.new.self.items c.split_at.result.1.now c.put_fixed32.new.out.items
    c.len-start.result c.mask-checksum.result c.in_ok-extend_from_slice.ensures.items c.in_ok-push.ensures.items (c.len-start.ensures ∙ c.args.out.now.ok.0)
    (c.split_at.ensures.back ∙ ap (drop c.len-start.result) c.deref.ensures.value)
    (c.mask-checksum.ensures ∙ ap mask c.crc32c.ensures) in
    on_ok_weaker c.put_fixed32.result joined c.put_fixed32.ensures.ok
