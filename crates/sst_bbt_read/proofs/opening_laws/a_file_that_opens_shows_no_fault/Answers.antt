use Rattle.sst_bbt_read.proofs.FaultsShown.{fails-shown, opens-or_shows, opens-shows_none}
use Rattle.sst_bbt_read.proofs.opening_laws.a_file_that_opens_shows_no_fault.Goals as goal

pub returns : goal.returns
returns c = record { shown = fails-shown; none = opens-shows_none; either = opens-or_shows }
