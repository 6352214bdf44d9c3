use Rattle.std.proofs.Common.{[], ◌∷◌, ◌++◌, sym, ◌∙◌, subst}
use Rattle.std.proofs.lemmas.Result.{on_ok_weaker}
use Rattle.sst_block.specs.IndexRows.{IndexPair}
use Rattle.sst_index.specs.Top.{CanAddPair, HoldsPairs}
use Rattle.sst_index.proofs.Ready.{leads_to_part}
use Rattle.sst_index.proofs.builder.IndexBuilder.put_part.Goals as goal

pub add-requires : goal.add-requires
add-requires c =
    let a = c.args in
    let is = leads_to_part a.self.now a.flags a.from a.to a.at c.pair.result.0.now c.as_slice.result.now c.in_ok-handle.handle _ c.requires.from c.pair.ensures
    c.in_ok-handle.ensures.handle (c.as_slice.ensures ∙ c.in_ok-block.ensures) in
    subst (λ (p : IndexPair). CanAddPair a.top.now p) (sym is) c.requires.top

pub returns-clause-top : goal.returns-clause-top
returns-clause-top c =
    let a = c.args in
    let is = leads_to_part a.self.now a.flags a.from a.to a.at c.pair.result.0.now c.as_slice.result.now c.in_ok-handle.handle _ c.requires.from c.pair.ensures
    c.in_ok-handle.ensures.handle (c.as_slice.ensures ∙ c.in_ok-block.ensures) in
    on_ok_weaker c.add.result
    (λ added pairs holds. subst (λ (p : IndexPair). HoldsPairs c.add.new.self a.flags a.self.now.interval (pairs ++ p ∷ [])) is (added a.flags a.self.now.interval pairs holds))
    c.add.ensures.ok
