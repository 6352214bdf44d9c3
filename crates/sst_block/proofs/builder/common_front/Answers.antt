use Rattle.std.proofs.Common.{◌≡◌, ◌⊎◌, inl, inr, ◌≤◌, length, min, sym, ◌∙◌, ℕ, arith}
use Rattle.std.proofs.lemmas.Bool.{cases_lt}
use Rattle.sst_block.proofs.Fronts.{common-more, common-apart, common-ended}
use Rattle.sst_block.proofs.builder.common_front.Goals as goal

ends : (a b at end : ℕ) → at ≡ end → end ≡ min a b → (a ≤ at) ⊎ (b ≤ at)
ends a b at end e m = elim (cases_lt a b) [ inl h ↦ inl (omega arith) | inr h ↦ inr (omega arith) ]

pub returns-then-a-at : goal.returns-then-a-at
returns-then-a-at c =
    common-apart c.args.a.now c.args.b.now c.loop-at.at _ (omega arith) (omega arith) c.if-a-at.true c.loop-at.invariant

pub loop-at-preserved : goal.loop-at-preserved
loop-at-preserved c =
    common-more c.args.a.now c.args.b.now c.loop-at.at _ (omega arith) (omega arith) c.if-a-at.false c.loop-at.invariant

pub returns : goal.returns
returns c =
    let at_end : c.loop-at.at ≡ c.min-end.result = omega arith in
    let ended : (length c.args.a.now ≤ c.loop-at.at) ⊎ (length c.args.b.now ≤ c.loop-at.at) = ends _ _ _ _ at_end c.min-end.ensures in
    sym at_end ∙ common-ended c.args.a.now c.args.b.now c.loop-at.at _ ended c.loop-at.invariant
