use Rattle.std.proofs.Common.{◌≡◌, ◌≤◌, ℕ, true, false, bytes_eq, List, length, refl, sym, ap, ◌∙◌, subst}
use Rattle.sst_index.proofs.Picks.{stored-long, taken-user, taken-stored, one-pair}
use Rattle.sst_index.specs.declared.pick.Pick.TheVariants.{Part, Unsure}
use Rattle.sst_index.proofs.pick.pick_here.Goals as goal

pub returns-then-user_key : goal.returns-then-user_key
returns-then-user_key c = λ flags bytes pairs i w.
    taken-user c.args.user_key c.args.user.now pairs i c.handle.result c.if-user_key.true (c.handle.ensures flags bytes pairs i w)

pub user_part-requires : goal.user_part-requires
user_part-requires c =
    let (flags, bytes, pairs, i, w, same) = c.requires in
    let (pair, at, is) = c.separator.ensures flags bytes pairs i w in
    subst (λ (key : List ℕ). 8 ≤ length key) (sym is) (stored-long flags bytes pairs i pair w.says (sym same ∙ c.if-user_key.false) at)

pub returns-then-eq : goal.returns-then-eq
returns-then-eq c = λ flags bytes pairs i w.
    taken-stored c.args.user_key c.args.user.now c.separator.result.now c.user_part.result.now pairs i Unsure c.if-user_key.false c.user_part.ensures
    (c.separator.ensures flags bytes pairs i w) (λ pair at.
    let test : bytes_eq c.user_part.result.now c.args.user.now ≡ true = sym c.eq.ensures ∙ c.if-eq.true in
    rw test refl)

pub returns : goal.returns
returns c = λ flags bytes pairs i w.
    taken-stored c.args.user_key c.args.user.now c.separator.result.now c.user_part.result.now pairs i (Part c.handle-2.result) c.if-user_key.false c.user_part.ensures
    (c.separator.ensures flags bytes pairs i w) (λ pair at.
    let test : bytes_eq c.user_part.result.now c.args.user.now ≡ false = sym c.eq.ensures ∙ c.if-eq.false in
    rw test (ap Part (one-pair pairs i c.handle-2.result pair (c.handle-2.ensures flags bytes pairs i w) at)))
