use Rattle.std.proofs.Common.{◌∙◌, ap, sym}
use Rattle.sst_sums.specs.Hash.{after_word, after_bytes}
use Rattle.sst_sums.proofs.Hashed.{four_bytes}
use Rattle.sst_sums.proofs.hash.after_bytes.Goals as goal

pub loop-left-preserved : goal.loop-left-preserved
loop-left-preserved c =
    let four = c.split_at.result.0.now in
    let rest = c.split_at.result.1.now in
    ap (λ h. after_bytes h rest) (c.after_word-h.ensures ∙ ap (after_word c.loop-left.h) c.read_u32.ensures)
    ∙ four_bytes c.loop-left.h four rest c.split_at.ensures.front_len
    ∙ ap (after_bytes c.loop-left.h) (sym c.split_at.ensures.by_index.0)
    ∙ c.loop-left.invariant
