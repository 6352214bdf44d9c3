use Rattle.std.proofs.Common.{ℕ, Option, Some, sym, ap, ◌∙◌, subst}
use Rattle.sst_bbt_read.specs.Positions.{At}
use Rattle.sst_uses.proofs.Found.{one-shown}
use Rattle.sst_uses.proofs.reading.shown.Goals as goal

pub returns-in_ok-entry : goal.returns-in_ok-entry
returns-in_ok-entry c = λ file entries place at.
    one-shown entries place c.in_ok-entry.entry (sym (c.stands.ensures.at file entries place at) ∙ c.if-stands.true)
    (λ i is. c.entry.ensures.at file entries i (subst (λ (p : Option ℕ). At c.args.table.now c.args.cursor.now file entries p) is at) ∙ ap Some (sym c.in_ok-entry.ensures))
