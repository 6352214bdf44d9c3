use Rattle.std.proofs.Common.{sym, ◌∙◌, arith}
use Rattle.sst_index.specs.IndexBlock.{form_of}
use Rattle.sst_index.proofs.PairWalks.{user_target, can_seek, target_long, landed, told_landed}
use Rattle.sst_index.proofs.walk.IndexIter.seek.Goals as goal

pub seek-requires : goal.seek-requires
seek-requires c =
    let r = c.requires.walks in
    can_seek c.args.self.now r.flags r.bytes r.pairs r.place c.args.user.now c.args.user.now c.args.tag r.walks
    (user_target r.flags.user_key c.args.user.now c.args.tag (sym r.walks.user_key_is ∙ c.if-self.true))

pub returns-then-self-clause-moves : goal.returns-then-self-clause-moves
returns-then-self-clause-moves c = λ flags bytes pairs place w.
    let user = c.args.user.now in
    let is = user_target flags.user_key user c.args.tag (sym w.user_key_is ∙ c.if-self.true) in
    let fits = c.ranges.tag.fits in
    landed _ flags bytes pairs w.says user user c.args.tag (omega (arith, fits)) w.user_key_is is
    (c.seek.ensures.within (form_of flags) bytes w.says.rows w.says.block place w.walks (target_long flags user user c.args.tag is))

pub returns-then-self-clause-tells : goal.returns-then-self-clause-tells
returns-then-self-clause-tells c = λ flags bytes pairs place w.
    let user = c.args.user.now in
    let is = user_target flags.user_key user c.args.tag (sym w.user_key_is ∙ c.if-self.true) in
    let fits = c.ranges.tag.fits in
    told_landed flags bytes pairs w.says user user c.args.tag c.seek.result (omega (arith, fits)) is
    (c.seek.ensures.tells (form_of flags) bytes w.says.rows w.says.block place w.walks (target_long flags user user c.args.tag is))

pub returns-then-user-le-SHORT_TARGET-clause-moves : goal.returns-then-user-le-SHORT_TARGET-clause-moves
returns-then-user-le-SHORT_TARGET-clause-moves c = λ flags bytes pairs place w. (c.seek_short.ensures flags bytes pairs place w).0

pub returns-then-user-le-SHORT_TARGET-clause-tells : goal.returns-then-user-le-SHORT_TARGET-clause-tells
returns-then-user-le-SHORT_TARGET-clause-tells c = λ flags bytes pairs place w. (c.seek_short.ensures flags bytes pairs place w).1

pub returns-clause-moves : goal.returns-clause-moves
returns-clause-moves c = λ flags bytes pairs place w. (c.seek_long.ensures flags bytes pairs place w).0

pub returns-clause-tells : goal.returns-clause-tells
returns-clause-tells c = λ flags bytes pairs place w. (c.seek_long.ensures flags bytes pairs place w).1
