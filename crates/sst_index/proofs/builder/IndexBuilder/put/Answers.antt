use Rattle.std.proofs.Common.{refl, ap, ◌-◌, ◌||◌, Bool, arith}
use Rattle.sst_index.proofs.Added.{holds_more}
use Rattle.sst_index.proofs.builder.IndexBuilder.put.Goals as goal

pub returns : goal.returns
returns c = λ options blocks holds stand.
    holds_more c.args.self.now _ options blocks _ holds stand refl refl refl refl c.in_ok-put_separator.ensures.ok c.len-start.result (c.len.result - c.len-start.result)
    (omega (arith, c.len-start.ensures)) (omega (arith, c.len.ensures)) c.in_ok-push.ensures.items
    (ap (λ (b : Bool). c.args.self.now.shares || b) c.begins_with.ensures)
