use Rattle.std.proofs.Common.{rules}
use Rattle.std.proofs.lemmas.Fn.{always_returns_same}
use Rattle.std.specs.Ordering.{nat_cmp}
use Rattle.std.specs.Cmp.Lexicographic.{slice_cmp}
use Rattle.sst_meta.specs.declared.pair.Pair.{Pair}
use Rattle.sst_meta.proofs.Named.{searched}
use Rattle.sst_meta.proofs.props.place_of.Goals as goal

pub returns-clause-found : goal.returns-clause-found
returns-clause-found c =
    let found = c.binary_search_by.ensures.position (λ (p : Pair). slice_cmp nat_cmp p.name c.args.name.now) (always_returns_same _ _ _ (λ a r q k. search rules)) in
    (searched c.args.pairs.now c.args.name.now _ c.requires c.binary_search_by.ensures.bound found).0

pub returns-clause-none : goal.returns-clause-none
returns-clause-none c =
    let found = c.binary_search_by.ensures.position (λ (p : Pair). slice_cmp nat_cmp p.name c.args.name.now) (always_returns_same _ _ _ (λ a r q k. search rules)) in
    (searched c.args.pairs.now c.args.name.now _ c.requires c.binary_search_by.ensures.bound found).1
