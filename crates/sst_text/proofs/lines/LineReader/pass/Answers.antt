use Rattle.sst_text.proofs.ReadOn.{passed}
use Rattle.sst_text.proofs.lines.LineReader.pass.Goals as goal

pub returns : goal.returns
returns c = passed c.self.inside.bytes.items c.args.self.now c.self.inside.start c.args.n c.self.view_is
