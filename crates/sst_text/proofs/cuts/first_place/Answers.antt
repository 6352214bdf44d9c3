use Rattle.sst_text.proofs.Cut.{cut_found}
use Rattle.sst_text.proofs.cuts.first_place.Goals as goal

pub returns : goal.returns
returns c = cut_found c.args.byte c.args.text.now c.memchr.result c.memchr.ensures
