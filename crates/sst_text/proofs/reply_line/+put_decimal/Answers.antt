use Rattle.std.proofs.Common.{arith}
use Rattle.sst_text.proofs.DecimalDigits.{put_one, put_last}
use Rattle.sst_text.proofs.reply_line.+put_decimal.Goals as goal
use Rattle.sst_text.proofs.reply_line.+put_decimal.Goals.{then-number-ge10+in_ok-put_decimal, else-number-ge10}

pub returns : goal.returns
returns t c =
    elim c.if-number-ge10.branch [
      | then-number-ge10+in_ok-put_decimal w ↦ put_last c.args.out.now.items _ c.push.new.self.items c.args.number (omega arith) (omega arith) w.in_ok-put_decimal.ensures (rw w.out-is at c.in_ok-push.ensures.items)
      | else-number-ge10 w ↦ put_one c.args.out.now.items c.push.new.self.items c.args.number (omega arith) (rw w.out-is at c.in_ok-push.ensures.items)
    ]
