use Rattle.std.proofs.Common.{true, false}
use Rattle.sst_meta.proofs.FooterKinds.{kind_at-long}
use Rattle.sst_meta.proofs.footer.read_footer.Goals as goal

pub read_legacy-requires : goal.read_legacy-requires
read_legacy-requires c = kind_at-long c.args.tail.now (c.in-Some-default-true.format, true) (cc)

pub read_later-requires : goal.read_later-requires
read_later-requires c = kind_at-long c.args.tail.now (c.in-Some-default-false.format, false) (cc)
