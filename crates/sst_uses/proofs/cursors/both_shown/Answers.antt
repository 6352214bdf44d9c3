use Rattle.std.proofs.Common.{Option, ap, ◌∙◌}
use Rattle.sst_key.specs.declared.entries.Entry.{Entry}
use Rattle.sst_uses.specs.Uses.{both_of, shown_at}
use Rattle.sst_uses.proofs.cursors.both_shown.Goals as goal

pub returns : goal.returns
returns c = λ file entries first last front back.
    c.paired.ensures ∙ ap (λ (o : Option Entry). both_of o c.in_ok-last.last) (c.in_ok-first.ensures file entries first front)
    ∙ ap (λ (o : Option Entry). both_of (shown_at entries first) o) (c.in_ok-last.ensures file entries last back)
