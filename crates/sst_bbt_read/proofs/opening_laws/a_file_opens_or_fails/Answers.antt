use Rattle.sst_bbt_read.proofs.OpeningDecided.{opens-or_fails, opens-apart_fails, fails-one}
use Rattle.sst_bbt_read.proofs.opening_laws.a_file_opens_or_fails.Goals as goal

pub returns : goal.returns
returns c = record { either = opens-or_fails; apart = opens-apart_fails; one = fails-one }
