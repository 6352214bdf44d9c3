use Rattle.std.proofs.Common.{◌∙◌, ◌++◌, ◌∷◌, [], ap, inl, inr, Err}
use Rattle.sst_key.specs.Entry.{entry_of}
use Rattle.sst_bbt_write.proofs.bbt_writer.BbtWriter.add.Goals as goal

pub returns-in-Err-Cause-clause-refused : goal.returns-in-Err-Cause-clause-refused
returns-in-Err-Cause-clause-refused c = λ fault e options entries bytes a.
    c.in-Err-Cause.ensures.refused fault (ap Err c.in-Err-Cause.field-0-is ∙ e) options entries bytes a

pub returns-in-Ok-clause-in_use : goal.returns-in-Ok-clause-in_use
returns-in-Ok-clause-in_use c =
    elim c.requires.writer [
      | inl failed ↦ absurd (cc (failed, c.if-self.false))
      | inr w ↦ let put = c.in-Ok.ensures.ok w.0 w.1 w.2 w.3 in inr (w.0, w.1 ++ entry_of c.args.e ∷ [], w.2 ++ put.0, put.2)
    ]

pub returns-in-Err-Cause-clause-in_use : goal.returns-in-Err-Cause-clause-in_use
returns-in-Err-Cause-clause-in_use c =
    elim c.requires.writer [
      | inl failed ↦ absurd (cc (failed, c.if-self.false))
      | inr w ↦ inr (w.0, w.1, w.2, (c.in-Err-Cause.ensures.refused c.in-Err-Cause.fault (ap Err c.in-Err-Cause.field-0-is) w.0 w.1 w.2 w.3).1)
    ]
