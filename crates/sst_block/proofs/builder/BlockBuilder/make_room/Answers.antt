use Rattle.std.proofs.Common.{arith}
use Rattle.sst_block.proofs.Kept.{IsReady-room, IsReady-made}
use Rattle.sst_block.proofs.Held.{kept_short}
use Rattle.sst_block.proofs.builder.BlockBuilder.make_room.Goals as goal

pub returns-then-self : goal.returns-then-self
returns-then-self c = λ form interval rows h. record {
  sound = h.sound;
  form_is = h.form_is;
  interval_is = h.interval_is;
  ready = IsReady-room form interval rows _ _ _ _ _ h.keeps (omega (arith, h.interval_is));
}

pub overflow_cast-len : goal.overflow_cast-len
overflow_cast-len c =
    let h = c.requires.3 in
    let short = kept_short _ _ _ _ _ _ _ _ h.keeps h.fits in
    omega (arith, short.0)

pub overflow_add-self : goal.overflow_add-self
overflow_add-self c =
    let h = c.requires.3 in
    let short = kept_short _ _ _ _ _ _ _ _ h.keeps h.fits in
    omega (arith, short.0)

pub returns : goal.returns
returns c = λ form interval rows h. record {
  sound = h.sound;
  form_is = h.form_is;
  interval_is = h.interval_is;
  ready = IsReady-made form interval rows c.args.self.now.bytes.items _ _ _ _ _ _ c.len.result h.fits.least h.keeps (omega (arith, h.interval_is)) (omega arith) c.in_ok-put_fixed32.ensures.ok c.truncate.ensures.items;
}
