use Rattle.std.proofs.Common.{sym, ◌∙◌, arith}
use Rattle.sst_index.specs.IndexBlock.{form_of}
use Rattle.sst_index.proofs.PairWalks.{stored_target, can_seek, target_long, landed, told_landed}
use Rattle.sst_index.proofs.walk.IndexIter.seek_in.Goals as goal

pub seek-requires : goal.seek-requires
seek-requires c =
    let r = c.requires.walks in
    can_seek c.args.self.now r.flags r.bytes r.pairs r.place c.args.user.now c.split_at.result.0.now c.args.tag r.walks
    (stored_target r.flags.user_key c.args.user.now c.split_at.result.0.now c.args.tag (sym r.walks.user_key_is ∙ c.requires.stored) (c.split_at.ensures.front ∙ c.put_target.ensures.target))

pub returns : goal.returns
returns c = λ flags bytes pairs place w.
    let target = c.split_at.result.0.now in
    let is = stored_target flags.user_key c.args.user.now target c.args.tag (sym w.user_key_is ∙ c.requires.stored) (c.split_at.ensures.front ∙ c.put_target.ensures.target) in
    let fits = c.ranges.tag.fits in
    let long = target_long flags c.args.user.now target c.args.tag is in (
      landed _ flags bytes pairs w.says c.args.user.now target c.args.tag (omega (arith, fits)) w.user_key_is is
          (c.seek.ensures.within (form_of flags) bytes w.says.rows w.says.block place w.walks long),
      told_landed flags bytes pairs w.says c.args.user.now target c.args.tag c.seek.result (omega (arith, fits)) is
          (c.seek.ensures.tells (form_of flags) bytes w.says.rows w.says.block place w.walks long),
    )
