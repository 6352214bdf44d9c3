use Rattle.std.proofs.Common.{false}
use Rattle.sst_bbt_read.proofs.Seated.{closed-seats, still-of, still-belongs, still-on, still-at}
use Rattle.sst_bbt_read.proofs.bbt_reader.BbtReader.close.Goals as goal

pub returns-clause-seats : goal.returns-clause-seats
returns-clause-seats c = closed-seats _ c.args.self.now c.args.c c.self.view_is c.requires

pub returns-clause-of : goal.returns-clause-of
returns-clause-of c = λ file of. still-of _ c.args.self.now c.args.c.number false file c.self.view_is of

pub returns-clause-others : goal.returns-clause-others
returns-clause-others c = λ d two belongs. still-belongs _ c.args.self.now c.args.c.number _ d c.self.view_is two belongs

pub returns-clause-others_on : goal.returns-clause-others_on
returns-clause-others_on c = λ d file place two on. still-on _ c.args.self.now c.args.c.number _ d file place c.self.view_is two on

pub returns-clause-others_at : goal.returns-clause-others_at
returns-clause-others_at c = λ d file entries place two at. still-at _ c.args.self.now c.args.c.number _ d file entries place c.self.view_is two at
